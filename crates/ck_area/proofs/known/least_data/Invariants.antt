use Rattle.std.proofs.Common.{◌≡◌, ℕ, take}
use Rattle.ck_area.specs.Area.{filesets_in}
use Rattle.ck_area.specs.Damage.{data_upto}
use Rattle.ck_area.specs.Known.{is_from}
use Rattle.ck_area.proofs.known.least_data.Given as goal

abbrev pub invariant-loop-slot : goal.invariant-loop-slot
invariant-loop-slot l = (fs : ℕ) → data_upto (filesets_in (take l.slot-index l.area)) fs ≡ is_from l.least fs
