-- A checkpoint that keeps no data from now on, or that may be given up or not.
use Rattle.std.specs.Prelude.{ℕ, Bool}
use Rattle.std.specs.Option.{option_map}
use Rattle.std.specs.FinMap as map
use Rattle.ck_model.specs.declared.checkpoint.Fileset.{Fileset}
use Rattle.ck_model.specs.declared.checkpoint.Kind.TheVariants.{Nodata}
use Rattle.ck_model.specs.Table.{Table, with_fileset}

-- the table with the record of this checkpoint changed so
abbrev pub with_record : Table → ℕ → (Fileset → Fileset) → Table
with_record t id change = with_fileset t id (option_map change (map.get t.filesets id))

abbrev pub as_nodata : Fileset → Fileset
as_nodata fileset = record fileset { kind = Nodata }

abbrev pub with_nodata : Table → ℕ → Table
with_nodata t id = with_record t id as_nodata

abbrev pub as_removable : Bool → Fileset → Fileset
as_removable on fileset = record fileset { removable = on }

abbrev pub with_removable : Table → ℕ → Bool → Table
with_removable t id on = with_record t id (as_removable on)
