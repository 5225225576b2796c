-- The records of a table, their limits, and the one spelling that each of them has.
use Rattle.std.specs.Prelude.{ℕ, ◌+◌, ⊤, List, Some, None, if◌then◌else◌}
use Rattle.ck_model.specs.declared.checkpoint.Fileset.{Fileset}
use Rattle.ck_model.specs.declared.checkpoint.Kind.{Kind}
use Rattle.ck_model.specs.declared.checkpoint.Kind.TheVariants.{Keeping, Nodata}
use Rattle.ck_model.specs.declared.key.Key.{Key}
use Rattle.ck_model.specs.declared.key.Key.TheVariants.{Name, Node, Block}
use Rattle.ck_model.specs.declared.held.Held.{Held}
use Rattle.ck_model.specs.declared.held.Held.TheVariants.{Absent, Plain, Extent, Mark}
use Rattle.ck_model.specs.declared.held.Small.{Small}
use Rattle.ck_model.specs.declared.held.Small.TheVariants.{To, File, Dir}
use Rattle.ck_model.specs.Held.{IsWord, IsEntry, IsCounters, IsFileset}
use Rattle.ck_record.specs.declared.records.Record.{Record}
use Rattle.ck_record.specs.declared.records.Record.TheVariants as record_of
use Rattle.ck_record.specs.declared.fields.Fields.{Fields}
use Rattle.ck_record.specs.Fields.{spelled}

-- ---- the limits

-- a record that a table may have
abbrev pub IsRecord : Record → Type 0
IsRecord record_of.Free = ⊤
IsRecord (record_of.Counters counters) = IsCounters counters
IsRecord (record_of.Fileset id fileset) = IsFileset id fileset
IsRecord (record_of.Entry fileset key held) = IsWord fileset × IsEntry key held

-- ---- the fields

-- fields that are all zero
abbrev pub blank : Fields
blank = record { kind = 0; sub = 0; fileset = 0; stamp = 0; first = 0; second = 0; name = None; value = 0; block = 0 }

abbrev pub nodata_flag : Kind → ℕ
nodata_flag Keeping = 0
nodata_flag Nodata = 1

-- three flags in one number
abbrev pub flags : Fileset → ℕ
flags fileset = nodata_flag fileset.kind + (if fileset.removable then 2 else 0) + (if fileset.gone then 4 else 0)

-- which kind of key it is
abbrev pub key_number : Key → ℕ
key_number (Name directory name) = 1
key_number (Node number) = 2
key_number (Block number index) = 3

-- the key's two numbers, or its number and name
abbrev pub with_key : Fields → Key → Fields
with_key fields (Name directory name) = record fields { first = directory; name = Some name }
with_key fields (Node number) = record fields { first = number }
with_key fields (Block number index) = record fields { first = number; second = index }

abbrev pub with_small : Fields → Small → Fields
with_small fields (To node) = record fields { kind = 3; value = node }
with_small fields (File size) = record fields { kind = 4; value = size }
with_small fields Dir = record fields { kind = 4; sub = 1 }

-- what is said of the key; where it is absent, the sub tells keys apart
abbrev pub with_held : Fields → Key → Held → Fields
with_held fields key (Plain stamp small) = with_small (record fields { stamp = stamp }) small
with_held fields key (Extent stamp block) = record fields { kind = 5; stamp = stamp; block = block }
with_held fields key (Mark stamp) = record fields { kind = 6; stamp = stamp }
with_held fields key Absent = record fields { kind = 7; sub = key_number key }

-- the kind, and what stands in which field; all other fields are zero
abbrev pub fields_of : Record → Fields
fields_of record_of.Free = blank
fields_of (record_of.Counters counters) = record blank { kind = 1; stamp = counters.stamp; first = counters.id; second = counters.number }
fields_of (record_of.Fileset id fileset) = record blank { kind = 2; sub = flags fileset; fileset = id; name = Some fileset.name; value = fileset.ctime }
fields_of (record_of.Entry fileset key held) = with_held (with_key (record blank { fileset = fileset }) key) key held

-- the record's 128 bytes
unfoldable pub spelling : Record → List ℕ
spelling value = spelled (fields_of value)
