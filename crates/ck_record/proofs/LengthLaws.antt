-- A spelling has 128 bytes.
use Rattle.std.proofs.Common.{◌≡◌, ◌-◌, ◌≤◌, length, length-append, arith}
use Rattle.std.proofs.lemmas.List.{length-replicate}
use Rattle.ck_record.specs.declared.fields.Fields.{Fields}
use Rattle.ck_record.specs.declared.records.Record.{Record}
use Rattle.ck_record.specs.Fields.{name_bytes, spelled}
use Rattle.ck_record.specs.Record.{IsRecord, fields_of, spelling}
use Rattle.ck_record.proofs.SpelledLemmas.{short_name}
use Rattle.ck_record.proofs.FieldLemmas.{is_fields}

long_spelled : (f : Fields) → length (name_bytes f.name) ≤ 40 → length (spelled f) ≡ 128
unfolding spelled
long_spelled f few = simp (length-append, length-replicate) (omega (arith, few))

pub long_spelling : (value : Record) → IsRecord value → length (spelling value) ≡ 128
unfolding spelling
long_spelling value is = let f = fields_of value in long_spelled f (short_name f.name (is_fields value is).name)
