-- A spelling is of one record within the limits.
use Rattle.std.proofs.Common.{◌≡◌, ℕ, ◌<◌, ◌^◌, List, [], length, refl, sym, ap, subst, ◌∙◌, arith, Option, Some, None, IfSome}
use Rattle.std.specs.Int.{w32, w64, from_be_bytes, to_be_bytes}
use Rattle.std.proofs.lemmas.Nat.{from_be_bytes-to_be_bytes_4, from_be_bytes-to_be_bytes_8}
use Rattle.ck_model.specs.Name.{IsName}
use Rattle.ck_record.specs.declared.fields.Fields.{Fields}
use Rattle.ck_record.specs.declared.records.Record.{Record}
use Rattle.ck_record.specs.Fields.{IsFields, name_bytes, spelled}
use Rattle.ck_record.specs.Record.{IsRecord, fields_of, spelling}
use Rattle.ck_record.specs.Candidates.{record_in}
use Rattle.ck_record.proofs.SpelledLemmas.{Stands, found, short_name}
use Rattle.ck_record.proofs.FieldLemmas.{is_fields, record_in-fields_of}

same_four : (x y : ℕ) → x < 2 ^ 32 → y < 2 ^ 32 → to_be_bytes w32 x ≡ to_be_bytes w32 y → x ≡ y
same_four x y a b h = sym (from_be_bytes-to_be_bytes_4 x a) ∙ ap (from_be_bytes w32) h ∙ from_be_bytes-to_be_bytes_4 y b

same_eight : (x y : ℕ) → x < 2 ^ 64 → y < 2 ^ 64 → to_be_bytes w64 x ≡ to_be_bytes w64 y → x ≡ y
same_eight x y a b h = sym (from_be_bytes-to_be_bytes_8 x a) ∙ ap (from_be_bytes w64) h ∙ from_be_bytes-to_be_bytes_8 y b

some_bytes : (name : List ℕ) → IsName name → ◌≡◌ {A = List ℕ} [] name → ⊥
some_bytes name is h = let some = is.some in let none = ap length h in omega (arith, some, none)

same_names : (a b : Option (List ℕ)) → IfSome a IsName → IfSome b IsName → name_bytes a ≡ name_bytes b → a ≡ b
same_names None None is other h = refl
same_names None (Some m) is other h = absurd (some_bytes m other h)
same_names (Some n) None is other h = absurd (some_bytes n is (sym h))
same_names (Some n) (Some m) is other h = ap Some h

-- fields that are spelled alike are the same
pub same_fields : (f g : Fields) → IsFields f → IsFields g → spelled f ≡ spelled g → f ≡ g
same_fields f g is other h =
    let one = subst (Stands f) h (found f (short_name f.name is.name)) in
    let two = found g (short_name g.name other.name) in
    let kind = sym one.kind ∙ two.kind in
    let sub = sym one.sub ∙ two.sub in
    let fileset = same_four f.fileset g.fileset is.fileset other.fileset (sym one.fileset ∙ two.fileset) in
    let stamp = same_eight f.stamp g.stamp is.stamp other.stamp (sym one.stamp ∙ two.stamp) in
    let first = same_four f.first g.first is.first other.first (sym one.first ∙ two.first) in
    let second = same_four f.second g.second is.second other.second (sym one.second ∙ two.second) in
    let name = same_names f.name g.name is.name other.name (sym one.name ∙ two.name) in
    let value = same_eight f.value g.value is.value other.value (sym one.value ∙ two.value) in
    let block = same_four f.block g.block is.block other.block (sym one.block ∙ two.block) in
    λ i. record {
      kind = kind i;
      sub = sub i;
      fileset = fileset i;
      stamp = stamp i;
      first = first i;
      second = second i;
      name = name i;
      value = value i;
      block = block i;
    }

same_some : {X : Type 0} (x y : X) → Some x ≡ Some y → x ≡ y
same_some x y h = cc

-- records that are spelled alike are the same
pub same_records : (a b : Record) → IsRecord a → IsRecord b → spelling a ≡ spelling b → a ≡ b
unfolding spelling
same_records a b is other h =
    same_some a b (sym (record_in-fields_of a is)
    ∙ ap record_in (same_fields (fields_of a) (fields_of b) (is_fields a is) (is_fields b other) h)
    ∙ record_in-fields_of b other)
