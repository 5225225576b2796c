-- The checkpoints' records in a list in the order of their ids.
use Rattle.std.specs.Prelude.{ℕ, List, filter, nat_lt, map as list_map}
use Rattle.std.specs.FinMap as map
use Rattle.ck_model.specs.declared.checkpoint.Fileset.{Fileset}
use Rattle.ck_model.specs.Table.{Filesets}

-- what they mean
abbrev pub filesets_of : List (ℕ × Fileset) → Filesets
filesets_of es = map.from_sorted es

-- the ids above this number
abbrev pub ids_behind : List (ℕ × Fileset) → ℕ → List ℕ
ids_behind es after = filter (λ id. nat_lt after id) (list_map (λ e. e.0) es)
