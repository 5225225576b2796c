use Rattle.std.proofs.Common.{◌≡◌, ℕ, take}
use Rattle.std.specs.Ordering.{nat_cmp}
use Rattle.std.specs.FinMap.{find}
use Rattle.std.specs.BTreeMap as tree
use Rattle.ck_area.specs.Area.{filesets_in}
use Rattle.ck_area.proofs.known.filesets_in.Given as goal

abbrev pub invariant-loop-slot : goal.invariant-loop-slot
invariant-loop-slot l = (id : ℕ) → tree.get nat_cmp l.known id ≡ find nat_cmp id (filesets_in (take l.slot-index l.area))
