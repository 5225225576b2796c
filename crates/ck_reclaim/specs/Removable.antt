-- Which checkpoint of a table is given up first where space runs out.
use Rattle.std.specs.Prelude.{ℕ, Bool, true, false, not, ◌&&◌, Option, if◌then◌else◌, find}
use Rattle.std.specs.Option.{option_map_or, option_or}
use Rattle.std.specs.FinMap as map
use Rattle.ck_model.specs.declared.checkpoint.Fileset.{Fileset}
use Rattle.ck_model.specs.World.{keeps_files}
use Rattle.ck_model.specs.Table.{Table, newer}

-- the checkpoint isn't gone and may be given up
abbrev pub is_removable : Table → ℕ → Bool
is_removable t id = option_map_or (λ fileset. not fileset.gone && fileset.removable) (map.get t.filesets id) false

-- and it keeps its files, or it is of the other kind
abbrev pub is_choice : Bool → Fileset → Bool
is_choice keeps fileset = not fileset.gone && fileset.removable && (if keeps then keeps_files fileset.kind else not (keeps_files fileset.kind))

abbrev pub may_leave : Table → Bool → ℕ → Bool
may_leave t keeps id = option_map_or (is_choice keeps) (map.get t.filesets id) false

abbrev pub oldest_of : Table → Bool → Option ℕ
oldest_of t keeps = find (may_leave t keeps) (newer t 0)

-- the oldest one that keeps its files, else the oldest other one
abbrev pub pick_of : Table → Option ℕ
pick_of t = option_or (oldest_of t true) (oldest_of t false)
