use Rattle.std.proofs.Common.{◌≡◌, take}
use Rattle.ck_script.specs.Numbered.{numbers_in}
use Rattle.ck_actor.proofs.place.next_line.Given as goal

abbrev pub invariant-loop-at : goal.invariant-loop-at
invariant-loop-at l = numbers_in (take l.at l.lines) l.actor ≡ numbers_in (take l.from l.lines) l.actor
