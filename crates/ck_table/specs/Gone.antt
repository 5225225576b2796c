-- A checkpoint that leaves.
use Rattle.std.specs.Prelude.{ℕ, true}
use Rattle.std.specs.Option.{option_map}
use Rattle.std.specs.FinMap as map
use Rattle.ck_model.specs.declared.checkpoint.Fileset.{Fileset}
use Rattle.ck_model.specs.Table.{Table, with_fileset}

abbrev pub as_gone : Fileset → Fileset
as_gone fileset = record fileset { gone = true }

-- the table with this checkpoint gone
abbrev pub with_gone : Table → ℕ → Table
with_gone t id = with_fileset t id (option_map as_gone (map.get t.filesets id))
