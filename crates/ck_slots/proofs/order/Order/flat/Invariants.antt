use Rattle.std.proofs.Common.{◌≡◌, take}
use Rattle.std.specs.List.{concat}
use Rattle.ck_slots.proofs.order.Order.flat.Given as goal

abbrev pub invariant-loop-at : goal.invariant-loop-at
invariant-loop-at l = l.flat.items ≡ concat (take l.at l.self.pieces.items)
