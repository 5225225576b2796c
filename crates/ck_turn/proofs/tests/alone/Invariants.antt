use Rattle.std.proofs.Common.{◌≡◌}
use Rattle.ck_turn.proofs.tests.alone.Given as goal

abbrev pub invariant-loop-number : goal.invariant-loop-number
invariant-loop-number g l = (l.first ≡ record l.initial.first { seen = l.first.seen })
