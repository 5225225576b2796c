use Rattle.std.proofs.Common.{suc, ◌<◌, ◌≤◌, ◌-◌, length}
use Rattle.ck_slots.specs.Arranged.{arranged}
use Rattle.ck_slots.specs.Cut.{front, stands_before}
use Rattle.ck_slots.specs.Order.{numbers_in}
use Rattle.ck_slots.specs.Pieces.{offset}
use Rattle.ck_slots.proofs.search.piece_of.Given as goal

abbrev pub invariant-loop-low : goal.invariant-loop-low
invariant-loop-low l = record {
  there : l.high < length l.order.pieces.items;
  order : l.low ≤ l.high;
  behind : offset l.order.pieces.items l.low ≤ front (stands_before l.cut) (arranged l.slots (numbers_in l.order));
  before : suc l.high < length l.order.pieces.items → front (stands_before l.cut) (arranged l.slots (numbers_in l.order)) < offset l.order.pieces.items (suc l.high);
}

abbrev pub decreases-loop-low : goal.decreases-loop-low
decreases-loop-low l = l.high - l.low
