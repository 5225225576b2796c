use Rattle.std.proofs.Common.{◌≤◌, ◌-◌, length}
use Rattle.ck_slots.specs.Arranged.{arranged}
use Rattle.ck_slots.specs.Cut.{front, stands_before}
use Rattle.ck_slots.proofs.search.count_before.Given as goal

abbrev pub invariant-loop-low : goal.invariant-loop-low
invariant-loop-low l = record {
  above : l.low ≤ front (stands_before l.cut) (arranged l.slots l.order);
  below : front (stands_before l.cut) (arranged l.slots l.order) ≤ l.high;
  within : l.high ≤ length l.order;
}

abbrev pub decreases-loop-low : goal.decreases-loop-low
decreases-loop-low l = l.high - l.low
