-- The record in the fields of a record is that record.
use Rattle.std.proofs.Common.{◌≡◌, ◌^◌, ◌<◌, List, ℕ, Option, Some, None, IfSome, lit<, arith, Bool, true, false, refl, sym, ap, ◌∙◌, subst}
use Rattle.ck_model.specs.declared.checkpoint.Kind.{Kind}
use Rattle.ck_model.specs.declared.checkpoint.Kind.TheVariants.{Keeping, Nodata}
use Rattle.ck_model.specs.declared.key.Key.{Key}
use Rattle.ck_model.specs.declared.key.Key.TheVariants.{Name, Node, Block}
use Rattle.ck_model.specs.declared.held.Held.{Held}
use Rattle.ck_model.specs.declared.held.Held.TheVariants.{Absent, Plain, Extent, Mark}
use Rattle.ck_model.specs.declared.held.Small.TheVariants.{To, File, Dir}
use Rattle.ck_model.specs.Held.{IsKey, BelongsTo}
use Rattle.ck_record.specs.declared.records.Record.{Record}
use Rattle.ck_record.specs.declared.records.Record.TheVariants as record_of
use Rattle.ck_record.specs.Record.{IsRecord, blank, key_number, with_key, with_held, fields_of}
use Rattle.ck_record.specs.declared.fields.Fields.{Fields}
use Rattle.ck_record.specs.Fields.{IsFields}
use Rattle.ck_record.specs.Candidates.{record_in, Takes}

-- ---- back from the fields

fileset_again : (id : ℕ) (name : List ℕ) (ctime : ℕ) (kind : Kind) (removable gone : Bool)
    → let v = record_of.Fileset id (record { name = name; kind = kind; removable = removable; gone = gone; ctime = ctime }) in record_in (fields_of v) ≡ Some v
fileset_again id name ctime Keeping false false = refl
fileset_again id name ctime Keeping false true = refl
fileset_again id name ctime Keeping true false = refl
fileset_again id name ctime Keeping true true = refl
fileset_again id name ctime Nodata false false = refl
fileset_again id name ctime Nodata false true = refl
fileset_again id name ctime Nodata true false = refl
fileset_again id name ctime Nodata true true = refl

entry_again : (id : ℕ) (key : Key) (held : Held) → BelongsTo key held → record_in (fields_of (record_of.Entry id key held)) ≡ Some (record_of.Entry id key held)
entry_again id (Name directory name) Absent is = refl
entry_again id (Node number) Absent is = refl
entry_again id (Block number index) Absent is = refl
entry_again id (Name directory name) (Plain stamp (To node)) is = refl
entry_again id (Node number) (Plain stamp (File size)) is = refl
entry_again id (Node number) (Plain stamp Dir) is = refl
entry_again id (Block number index) (Extent stamp block) is = refl
entry_again id (Block number index) (Mark stamp) is = refl
entry_again id (Name directory name) (Plain stamp (File size)) is = absurd is
entry_again id (Name directory name) (Plain stamp Dir) is = absurd is
entry_again id (Name directory name) (Extent stamp block) is = absurd is
entry_again id (Name directory name) (Mark stamp) is = absurd is
entry_again id (Node number) (Plain stamp (To node)) is = absurd is
entry_again id (Node number) (Extent stamp block) is = absurd is
entry_again id (Node number) (Mark stamp) is = absurd is
entry_again id (Block number index) (Plain stamp small) is = absurd is

pub record_in-fields_of : (v : Record) → IsRecord v → record_in (fields_of v) ≡ Some v
record_in-fields_of record_of.Free is = refl
record_in-fields_of (record_of.Counters counters) is = refl
record_in-fields_of (record_of.Fileset id fileset) is = fileset_again id fileset.name fileset.ctime fileset.kind fileset.removable fileset.gone
record_in-fields_of (record_of.Entry id key held) is = entry_again id key held is.1.value

-- ---- the fields of a record

is_blank : IsFields blank
is_blank = record { fileset = lit< tt; stamp = lit< tt; first = lit< tt; second = lit< tt; name = tt; value = lit< tt; block = lit< tt }

is_with_key : (f : Fields) (key : Key) → IsFields f → IsKey key → IsFields (with_key f key)
is_with_key f (Name directory name) is within =
    record { fileset = is.fileset; stamp = is.stamp; first = within.0; second = is.second; name = within.1.name; value = is.value; block = is.block }
is_with_key f (Node number) is within =
    record { fileset = is.fileset; stamp = is.stamp; first = within; second = is.second; name = is.name; value = is.value; block = is.block }
is_with_key f (Block number index) is within =
    record { fileset = is.fileset; stamp = is.stamp; first = within.0; second = omega (arith, within.1); name = is.name; value = is.value; block = is.block }

-- fields with another stamp, value and block
is_with : (f : Fields) (kind sub stamp value block : ℕ) → IsFields f → stamp < 2 ^ 64 → value < 2 ^ 64 → block < 2 ^ 32
    → IsFields (record f { kind = kind; sub = sub; stamp = stamp; value = value; block = block })
is_with f kind sub stamp value block is long big small =
    record { fileset = is.fileset; stamp = long; first = is.first; second = is.second; name = is.name; value = big; block = small }

is_with_held : (f : Fields) (key : Key) (held : Held) → IsFields f → BelongsTo key held → IsFields (with_held f key held)
is_with_held f key Absent is within = is_with f 7 (key_number key) f.stamp f.value f.block is is.stamp is.value is.block
is_with_held f (Name directory name) (Plain stamp (To node)) is within = is_with f 3 f.sub stamp node f.block is (omega (arith, within.0)) (omega (arith, within.1)) is.block
is_with_held f (Node number) (Plain stamp (File size)) is within = is_with f 4 f.sub stamp size f.block is (omega (arith, within.0)) (omega (arith, within.1)) is.block
is_with_held f (Node number) (Plain stamp Dir) is within = is_with f 4 1 stamp f.value f.block is (omega (arith, within)) is.value is.block
is_with_held f (Block number index) (Extent stamp block) is within = is_with f 5 f.sub stamp f.value block is (omega (arith, within.0)) is.value within.1
is_with_held f (Block number index) (Mark stamp) is within = is_with f 6 f.sub stamp f.value f.block is (omega (arith, within)) is.value is.block
is_with_held f (Name directory name) (Plain stamp (File size)) is within = absurd within
is_with_held f (Name directory name) (Plain stamp Dir) is within = absurd within
is_with_held f (Name directory name) (Extent stamp block) is within = absurd within
is_with_held f (Name directory name) (Mark stamp) is within = absurd within
is_with_held f (Node number) (Plain stamp (To node)) is within = absurd within
is_with_held f (Node number) (Extent stamp block) is within = absurd within
is_with_held f (Node number) (Mark stamp) is within = absurd within
is_with_held f (Block number index) (Plain stamp small) is within = absurd within

-- each field's number has as many bytes as the field
pub is_fields : (value : Record) → IsRecord value → IsFields (fields_of value)
is_fields record_of.Free is = is_blank
is_fields (record_of.Counters counters) is =
    record { fileset = lit< tt; stamp = omega (arith, is.stamp); first = is.id; second = is.number; name = tt; value = lit< tt; block = lit< tt }
is_fields (record_of.Fileset id fileset) is =
    record { fileset = is.word; stamp = lit< tt; first = lit< tt; second = lit< tt; name = is.name.name; value = is.ctime; block = lit< tt }
is_fields (record_of.Entry id key held) is =
    let within : Fields = record blank { fileset = id } in
    let start : IsFields within = record { fileset = is.0; stamp = lit< tt; first = lit< tt; second = lit< tt; name = tt; value = lit< tt; block = lit< tt } in
    is_with_held (with_key within key) key held (is_with_key within key start is.1.place) is.1.value

-- ---- what is taken

pub within_limits : (candidate found : Option Record) → Takes candidate found → IfSome found IsRecord
within_limits None None taken = tt
within_limits (Some w) None taken = tt
within_limits None (Some v) taken = cc
within_limits (Some w) (Some v) taken = subst IsRecord (sym taken.1) taken.0

only_taken : (found : Option Record) (value : Record) → IsRecord value → Takes (Some value) found → found ≡ Some value
only_taken None value is taken = absurd (taken is)
only_taken (Some v) value is taken = ap Some taken.1

pub taken_again : (found : Option Record) (f : Fields) (value : Record) → IsRecord value → f ≡ fields_of value → Takes (record_in f) found → found ≡ Some value
taken_again found f value is e taken =
    only_taken found value is (subst (λ (c : Option Record). Takes c found) (ap record_in e ∙ record_in-fields_of value is) taken)
