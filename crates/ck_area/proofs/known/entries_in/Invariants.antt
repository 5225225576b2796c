use Rattle.std.proofs.Common.{◌≡◌, ℕ, take}
use Rattle.std.specs.Ordering.{nat_cmp}
use Rattle.std.specs.BTreeMap as tree
use Rattle.ck_model.specs.declared.key.Key.{Key}
use Rattle.ck_area.specs.Area.{entries_in}
use Rattle.ck_area.specs.Known.{column_order, found_at_home}
use Rattle.ck_area.proofs.known.entries_in.Given as goal

abbrev pub invariant-loop-slot : goal.invariant-loop-slot
invariant-loop-slot l = (fs : ℕ) (key : Key) → tree.get column_order l.known (key, fs) ≡ found_at_home (tree.get nat_cmp l.filesets) (entries_in (take l.slot-index l.area)) fs key
