-- Writing the fields one behind the other, and finding them again.
use Rattle.std.proofs.Common.{◌≡◌, ℕ, ◌+◌, ◌-◌, ◌<◌, ◌≤◌, List, [], ◌∷◌, ◌++◌, length, get_or, set, take, drop, refl, sym, ap, ◌∙◌, append_assoc, arith, length-append, Option, Some, None, SomeIff, IfSome, lit≤}
use Rattle.std.specs.Int.{w32, w64, to_be_bytes}
use Rattle.std.proofs.lemmas.List.{take_at, drop_at, drop-drop, drop-replicate, replicate-append-replicate, length-replicate, length-take, set_split}
use borrow.Rule.Slice.PartMut.{put_mid}
use Rattle.ck_num.specs.Field.{field, with_field}
use Rattle.ck_model.specs.Name.{IsName}
use Rattle.ck_record.specs.declared.fields.Fields.{Fields}
use Rattle.ck_record.specs.Fields.{name_bytes, counted, zeros, spelled}

-- ---- writing

-- what is written at the end of what stands there takes the place of as many zeros
pub put_next : (front text : List ℕ) (at left rest : ℕ) → length front ≡ at → left ≡ length text + rest → with_field (front ++ zeros left) at text ≡ front ++ text ++ zeros rest
put_next front text at left rest begins long =
    let bytes = front ++ zeros left in
    let behind : drop (at + length text) bytes ≡ zeros rest =
    sym (drop-drop (length text) at bytes) ∙ ap (drop (length text)) (drop_at front (zeros left) at begins)
    ∙ drop-replicate (length text) left 0 ∙ ap zeros (omega (arith, long)) in
    ap (λ (t : List ℕ). t ++ text ++ drop (at + length text) bytes) (take_at front (zeros left) at begins)
    ∙ ap (λ (t : List ℕ). front ++ text ++ t) behind

-- zeros in two parts
pub part_zeros : (front : List ℕ) (left here rest : ℕ) → left ≡ here + rest → front ++ zeros left ≡ front ++ zeros here ++ zeros rest
part_zeros front left here rest e =
    ap (λ (n : ℕ). front ++ zeros n) e ∙ ap (λ (t : List ℕ). front ++ t) (sym (replicate-append-replicate here rest 0))
    ∙ sym (append_assoc front (zeros here) (zeros rest))

-- the name's length and its bytes in one field
pub put_counted : (bytes text : List ℕ) → 25 + length text ≤ length bytes → put_mid 25 (25 + length text - 25) (set bytes 24 (length text)) text ≡ with_field bytes 24 (length text ∷ text)
put_counted bytes text fits =
    let n = length text in
    let front = take 24 bytes ++ n ∷ [] in
    let begins : length front ≡ 25 = simp (length-append, length-take) (omega (arith, fits)) in
    let split : set bytes 24 n ≡ front ++ drop 25 bytes = set_split bytes 24 n (omega (arith, fits)) ∙ sym (append_assoc (take 24 bytes) (n ∷ []) (drop 25 bytes)) in
    let before : take 25 (set bytes 24 n) ≡ front = ap (take 25) split ∙ take_at front (drop 25 bytes) 25 begins in
    let room : 25 + n - 25 ≡ n = omega arith in
    let behind : drop (25 + n - 25) (drop 25 (set bytes 24 n)) ≡ drop (24 + length (n ∷ text)) bytes =
    ap (λ (k : ℕ). drop k (drop 25 (set bytes 24 n))) room ∙ ap (λ (b : List ℕ). drop n (drop 25 b)) split ∙ ap (drop n) (drop_at front (drop 25 bytes) 25 begins)
    ∙ drop-drop n 25 bytes ∙ ap (λ (k : ℕ). drop k bytes) (omega arith) in
    ap (λ (t : List ℕ). t ++ (text ++ drop (25 + n - 25) (drop 25 (set bytes 24 n)))) before
    ∙ ap (λ (t : List ℕ). front ++ (text ++ t)) behind ∙ simp append_assoc

-- the byte of no name
pub put_none : (bytes : List ℕ) → 24 < length bytes → set bytes 24 0 ≡ with_field bytes 24 (0 ∷ [])
put_none bytes fits = set_split bytes 24 0 fits ∙ sym (append_assoc (take 24 bytes) (0 ∷ []) (drop 25 bytes))

-- name, value and block behind the first 24 bytes
pub put_tail : (front name value block : List ℕ) → length front ≡ 24 → length name ≤ 80 → length value ≡ 8 → length block ≡ 4
    → with_field (with_field (with_field (front ++ zeros 104) 24 (length name ∷ name)) 112 value) 120 block
    ≡ front ++ (length name ∷ name) ++ zeros (80 - length name) ++ zeros 7 ++ value ++ block ++ zeros 4
put_tail front name value block begins few eight four =
    let rest = 80 - length name in
    let named = front ++ (length name ∷ name) in
    let before = named ++ zeros rest ++ zeros 7 in
    let long : length before ≡ 112 = simp (length-append, length-replicate, begins) (omega (arith, few)) in
    let first : with_field (front ++ zeros 104) 24 (length name ∷ name) ≡ before ++ zeros 16 =
    put_next front (length name ∷ name) 24 104 (rest + 23) begins (omega (arith, few))
    ∙ part_zeros named (rest + 23) rest 23 refl ∙ part_zeros (named ++ zeros rest) 23 7 16 refl in
    let second : with_field (before ++ zeros 16) 112 value ≡ before ++ value ++ zeros 8 = put_next before value 112 16 8 long (omega (arith, eight)) in
    let third : with_field (before ++ value ++ zeros 8) 120 block ≡ before ++ value ++ block ++ zeros 4 =
    put_next (before ++ value) block 120 8 4 (omega (arith, length-append before value, long, eight)) (omega (arith, four)) in
    ap (λ (b : List ℕ). with_field (with_field b 112 value) 120 block) first ∙ ap (λ (b : List ℕ). with_field b 120 block) second ∙ third

-- one field after the other; each list holds the fields up to the one that names it
pub written : (f : Fields) (fileset stamp first second name value block : List ℕ) → length (name_bytes f.name) ≤ 40
    → fileset ≡ with_field (f.kind ∷ f.sub ∷ zeros 126) 4 (to_be_bytes w32 f.fileset)
    → stamp ≡ with_field fileset 8 (to_be_bytes w64 f.stamp)
    → first ≡ with_field stamp 16 (to_be_bytes w32 f.first)
    → second ≡ with_field first 20 (to_be_bytes w32 f.second)
    → name ≡ with_field second 24 (counted f.name)
    → value ≡ with_field name 112 (to_be_bytes w64 f.value)
    → block ≡ with_field value 120 (to_be_bytes w32 f.block)
    → block ≡ spelled f
unfolding spelled
written f fileset stamp first second name value block few at_4 at_8 at_16 at_20 at_24 at_112 at_120 =
    let front = f.kind ∷ f.sub ∷ zeros 2 ++ to_be_bytes w32 f.fileset ++ to_be_bytes w64 f.stamp ++ to_be_bytes w32 f.first ++ to_be_bytes w32 f.second in
    let to_16 : first ≡ with_field (with_field (with_field (f.kind ∷ f.sub ∷ zeros 126) 4 (to_be_bytes w32 f.fileset)) 8 (to_be_bytes w64 f.stamp)) 16 (to_be_bytes w32 f.first) = cc in
    let to_20 : second ≡ front ++ zeros 104 = at_20 ∙ ap (λ (t : List ℕ). with_field t 20 (to_be_bytes w32 f.second)) to_16 in
    let to_24 = at_24 ∙ ap (λ (t : List ℕ). with_field t 24 (counted f.name)) to_20 in
    let to_112 = at_112 ∙ ap (λ (t : List ℕ). with_field t 112 (to_be_bytes w64 f.value)) to_24 in
    at_120 ∙ ap (λ (t : List ℕ). with_field t 120 (to_be_bytes w32 f.block)) to_112
    ∙ put_tail front (name_bytes f.name) (to_be_bytes w64 f.value) (to_be_bytes w32 f.block) refl (omega (arith, few)) refl refl

-- ---- reading

-- what the fields' places hold
pub record Stands (f : Fields) (bytes : List ℕ) : Type 0 where
  pub kind : get_or bytes 0 0 ≡ f.kind
  pub sub : get_or bytes 1 0 ≡ f.sub
  pub fileset : field bytes 4 4 ≡ to_be_bytes w32 f.fileset
  pub stamp : field bytes 8 8 ≡ to_be_bytes w64 f.stamp
  pub first : field bytes 16 4 ≡ to_be_bytes w32 f.first
  pub second : field bytes 20 4 ≡ to_be_bytes w32 f.second
  pub name : field bytes 25 (get_or bytes 24 0) ≡ name_bytes f.name
  pub value : field bytes 112 8 ≡ to_be_bytes w64 f.value
  pub block : field bytes 120 4 ≡ to_be_bytes w32 f.block

-- three texts behind a front of known length
in_row : (front value block rest : List ℕ) (at : ℕ) → length front ≡ at → drop at (front ++ value ++ block ++ rest) ≡ value ++ (block ++ rest)
in_row front value block rest at begins =
    ap (drop at) (append_assoc (front ++ value) block rest ∙ append_assoc front value (block ++ rest)) ∙ drop_at front (value ++ (block ++ rest)) at begins

pub found : (f : Fields) → length (name_bytes f.name) ≤ 40 → Stands f (spelled f)
unfolding spelled
found f few =
    let name = name_bytes f.name in
    let area = name ++ zeros (80 - length name) ++ zeros 7 in
    let long : length area ≡ 87 = simp (length-append, length-replicate) (omega (arith, few)) in
    let value = to_be_bytes w64 f.value in
    let block = to_be_bytes w32 f.block in
    let behind = in_row area value block (zeros 4) 87 long in
    record {
      kind = refl;
      sub = refl;
      fileset = refl;
      stamp = refl;
      first = refl;
      second = refl;
      name = ap (take (length name)) (simp append_assoc) ∙ take_at name (zeros (80 - length name) ++ (zeros 7 ++ (value ++ (block ++ zeros 4)))) (length name) refl;
      value = ap (take 8) behind;
      block = ap (take 4) (sym (drop-drop 8 87 (area ++ value ++ block ++ zeros 4))) ∙ ap (λ (t : List ℕ). take 4 (drop 8 t)) behind;
    }

pub short_name : (name : Option (List ℕ)) → IfSome name IsName → length (name_bytes name) ≤ 40
short_name None is = lit≤ tt
short_name (Some text) is = is.few

-- the name is read where it is one
pub same_name : (found name : Option (List ℕ)) (text : List ℕ) → SomeIff found (IsName text) text → text ≡ name_bytes name → IfSome name IsName → found ≡ name
same_name None None text read e is = refl
same_name None (Some n) text read e is = absurd (read (rw e is))
same_name (Some x) None text read e is = let some : 1 ≤ length text = read.0.some in absurd (omega (arith, ap length e))
same_name (Some x) (Some n) text read e is = ap Some (read.1 ∙ e)
