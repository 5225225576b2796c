use Rattle.std.proofs.Common.{◌≡◌, false}
use mathlib.Core.List.{IsPrefix}
use Rattle.ck_turn.proofs.tests.work.Given as goal

abbrev pub invariant-loop-number : goal.invariant-loop-number
invariant-loop-number g l = (l.pass ≡ record l.initial.pass { seen = l.pass.seen }) × IsPrefix l.initial.pass.seen l.pass.seen
