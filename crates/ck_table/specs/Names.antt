-- The names of the checkpoints of a table.
use Rattle.std.specs.Prelude.{ℕ, Bool, false, not, ◌&&◌, List, Option, nat_eq, find}
use Rattle.std.specs.Cmp.Lexicographic.{pointwise}
use Rattle.std.specs.Option.{option_map_or}
use Rattle.std.specs.FinMap as map
use Rattle.ck_model.specs.Table.{Table, newer}

-- the checkpoint isn't gone and has this name
abbrev pub is_named : Table → List ℕ → ℕ → Bool
is_named t name id =
    option_map_or (λ fileset. not fileset.gone && pointwise nat_eq fileset.name name)
    (map.get t.filesets id) false

-- the oldest one that isn't gone and has the name
abbrev pub id_named : Table → List ℕ → Option ℕ
id_named t name = find (is_named t name) (newer t 0)
