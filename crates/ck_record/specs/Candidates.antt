-- The record that has given fields.
use Rattle.std.specs.Prelude.{ℕ, ◌≡◌, ◌==◌, List, Option, Some, None, SomeIff, if◌then◌else◌, option_map, bit_and, not}
use Rattle.ck_model.specs.declared.checkpoint.Kind.{Kind}
use Rattle.ck_model.specs.declared.checkpoint.Kind.TheVariants.{Keeping, Nodata}
use Rattle.ck_model.specs.declared.key.Key.TheVariants.{Name, Node, Block}
use Rattle.ck_model.specs.declared.held.Held.{Held}
use Rattle.ck_model.specs.declared.held.Held.TheVariants.{Absent, Plain, Extent, Mark}
use Rattle.ck_model.specs.declared.held.Small.{Small}
use Rattle.ck_model.specs.declared.held.Small.TheVariants.{To, File, Dir}
use Rattle.ck_record.specs.declared.records.Record.{Record}
use Rattle.ck_record.specs.declared.records.Record.TheVariants as record_of
use Rattle.ck_record.specs.declared.fields.Fields.{Fields}
use Rattle.ck_record.specs.Record.{IsRecord}

abbrev pub counters_in : Fields → Record
counters_in f = record_of.Counters (record { stamp = f.stamp; id = f.first; number = f.second })

abbrev pub kind_in : ℕ → Kind
kind_in sub = if bit_and sub 1 == 0 then Keeping else Nodata

abbrev pub named_fileset : ℕ → ℕ → ℕ → List ℕ → Record
named_fileset id sub ctime name = record_of.Fileset id (record { name = name; kind = kind_in sub; removable = not (bit_and sub 2 == 0); gone = not (bit_and sub 4 == 0); ctime = ctime })

abbrev pub fileset_in : Fields → Option Record
fileset_in f = option_map (named_fileset f.fileset f.sub f.value) f.name

-- ---- entries

abbrev pub at_name : Fields → Held → Option Record
at_name f held = option_map (λ name. record_of.Entry f.fileset (Name f.first name) held) f.name

abbrev pub at_node : Fields → Held → Record
at_node f held = record_of.Entry f.fileset (Node f.first) held

abbrev pub at_block : Fields → Held → Record
at_block f held = record_of.Entry f.fileset (Block f.first f.second) held

abbrev pub named_in : Fields → Option Record
named_in f = at_name f (Plain f.stamp (To f.value))

abbrev pub small_in : ℕ → ℕ → Small
small_in sub value = if sub == 0 then File value else Dir

abbrev pub node_in : Fields → Record
node_in f = at_node f (Plain f.stamp (small_in f.sub f.value))

abbrev pub extent_in : Fields → Record
extent_in f = at_block f (Extent f.stamp f.block)

abbrev pub mark_in : Fields → Record
mark_in f = at_block f (Mark f.stamp)

abbrev pub absent_in : Fields → Option Record
absent_in f =
    if f.sub == 1 then at_name f Absent
    else (if f.sub == 2 then Some (at_node f Absent) else Some (at_block f Absent))

-- the one record that may have these fields
abbrev pub record_in : Fields → Option Record
record_in f =
    if f.kind == 0 then Some record_of.Free
    else (if f.kind == 1 then Some (counters_in f)
    else (if f.kind == 2 then fileset_in f
    else (if f.kind == 3 then named_in f
    else (if f.kind == 4 then Some (node_in f)
    else (if f.kind == 5 then Some (extent_in f)
    else (if f.kind == 6 then Some (mark_in f)
    else (if f.kind == 7 then absent_in f else None)))))))

-- what may stand there is taken exactly where it is within the limits
abbrev pub Takes : Option Record → Option Record → Type 0
Takes None taken = taken ≡ None
Takes (Some value) taken = SomeIff taken (IsRecord value) value
