use Rattle.std.proofs.Common.{◌≡◌, ℕ, ◌<◌, ◌≤◌, false, take}
use Rattle.ck_area.specs.Area.{filesets_in}
use Rattle.ck_area.specs.Damage.{live_count}
use Rattle.ck_area.specs.Split.{breaks_crowd}
use Rattle.ck_area.proofs.crowd.first_crowd.Given as goal

abbrev pub invariant-loop-at : goal.invariant-loop-at
invariant-loop-at l = record {
  count : l.count ≡ live_count (filesets_in (take l.at l.area));
  few : l.count ≤ l.at;
  none : (k : ℕ) → k < l.at → breaks_crowd l.area k ≡ false;
}
