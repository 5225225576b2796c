-- What a table is built of.
use Rattle.std.specs.Prelude.{ℕ, List, [], ◌∷◌, IfSome}
use Rattle.std.specs.List.{AllByRecursion}
use Rattle.std.specs.FinMap as map
use Rattle.ck_model.specs.declared.key.Key.{Key}
use Rattle.ck_model.specs.declared.held.Held.{Held}
use Rattle.ck_model.specs.declared.checkpoint.Fileset.{Fileset}
use Rattle.ck_model.specs.Table.{Entries, Filesets}
use Rattle.ck_record.specs.Record.{IsRecord}
use Rattle.ck_area.specs.Area.{Area}

-- a map with further entries, of which the first counts
abbrev pub with_entries : List ((ℕ × Key) × Held) → Entries → Entries
with_entries [] entries = entries
with_entries (e ∷ es) entries = map.insert (with_entries es entries) e.0 e.1

abbrev pub with_filesets : List (ℕ × Fileset) → Filesets → Filesets
with_filesets [] filesets = filesets
with_filesets (e ∷ es) filesets = map.insert (with_filesets es filesets) e.0 e.1

-- each slot that has a record has one within the limits
abbrev pub AreRecords : Area → Type 0
AreRecords = AllByRecursion (λ x. IfSome x IsRecord)
