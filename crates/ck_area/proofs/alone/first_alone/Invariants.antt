use Rattle.std.proofs.Common.{◌≡◌, ℕ, ◌<◌, false}
use Rattle.ck_area.specs.Area.{slot_at, counters_in}
use Rattle.ck_area.specs.Split.{breaks_alone}
use Rattle.ck_area.proofs.alone.first_alone.Given as goal

abbrev pub invariant-loop-at : goal.invariant-loop-at
invariant-loop-at l = (k : ℕ) → k < l.at → breaks_alone l.blocks l.records (counters_in l.area) k (slot_at l.area k) ≡ false
