use Rattle.std.proofs.Common.{◌≡◌, drop}
use Rattle.std.specs.List.{find}
use Rattle.ck_report.specs.Places.{is_call_of}
use Rattle.ck_report.proofs.places.find_from.Given as goal

abbrev pub invariant-loop-place : goal.invariant-loop-place
invariant-loop-place l = find (is_call_of l.actor l.seq) (drop l.place l.lines) ≡ find (is_call_of l.actor l.seq) (drop l.start l.lines)
