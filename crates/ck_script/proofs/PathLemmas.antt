-- A path is read from a word exactly where the word is its text.
use Rattle.std.proofs.Common.{◌≡◌, ◌≢◌, ℕ, ◌≤◌, ◌&&◌, Bool, true, false, cond, List, [], ◌∷◌, ◌++◌, length, drop, Option, Some, None, IfSome, IfNone, All, nat_le, codes, refl, sym, ap, subst, ◌∙◌, lit≤, arith}
use Rattle.std.proofs.lemmas.List.{append-nil}
use Rattle.std.specs.Prelude.{slice_index}
use Rattle.std.specs.Bool.{Decides}
use Rattle.std.specs.List.{list_all, slice_split, onto_first}
use Rattle.std.proofs.lemmas.Bool.Decides.{nat_tests, Decides-and, Decides-like, Decides-eqb, Decides-by_and}
use Rattle.std.proofs.lemmas.Slice.Eq.{bytes_eq-Decides}
use Rattle.std.proofs.lemmas.List.Elements.{All-head, All-tail, All-weaker}
use Rattle.std.proofs.lemmas.List.Splits.{slice_split-cons_yes, slice_split-cons_no, slice_split_none, slice_split_at}
use Rattle.ck_model.specs.Name.{IsNameByte, IsFileName}
use Rattle.ck_model.specs.Path.{IsPath, joined, path_text}
use Rattle.ck_script.specs.Arguments.{is_text, is_slash, is_file_name, names_of, path_of}
use Rattle.ck_script.proofs.NameLemmas.{Decides-file_name, Decides-nat_le}

-- the names between the slashes of a text
abbrev parts_of : List ℕ → List (List ℕ)
parts_of text = slice_split is_slash text

joined_onto : (byte : ℕ) (text : List ℕ) (parts : List (List ℕ)) → joined parts ≡ 47 ∷ text → joined (onto_first byte parts) ≡ 47 ∷ byte ∷ text
joined_onto byte text [] e = cc
joined_onto byte text (part ∷ parts) e = let rest : part ++ joined parts ≡ text = cc in ap (λ rest. 47 ∷ byte ∷ rest) rest

-- joined again, they are the text behind a slash
pub joined-parts : (text : List ℕ) → joined (parts_of text) ≡ 47 ∷ text
joined-parts [] = refl
joined-parts (byte ∷ text) =
    elim (is_slash byte) as (λ b. is_slash byte ≡ b → joined (parts_of (byte ∷ text)) ≡ 47 ∷ byte ∷ text) [
      | true ↦ λ e.
          let is : 47 ≡ byte = grind (arith, nat_tests, e) in
          ap joined (slice_split-cons_yes is_slash byte text e) ∙ ap (λ rest. 47 ∷ rest) (joined-parts text) ∙ ap (λ b. 47 ∷ b ∷ text) is
      | false ↦ λ e. ap joined (slice_split-cons_no is_slash byte text e) ∙ joined_onto byte text (parts_of text) (joined-parts text)
    ] refl

no_slash : (name : List ℕ) → IsFileName name → All (λ byte. is_slash byte ≡ false) name
no_slash name h = All-weaker IsNameByte (λ byte. is_slash byte ≡ false) (λ byte b. not_slash byte b.no_slash) name h.name.each
  where
    not_slash : (byte : ℕ) → byte ≢ 47 → is_slash byte ≡ false
    not_slash byte h = grind (arith, nat_tests, h)

-- the parts of a text of names are the names
pub parts-joined : (name : List ℕ) (names : List (List ℕ)) → IsFileName name → All IsFileName names → parts_of (name ++ joined names) ≡ name ∷ names
parts-joined name [] file each = ap parts_of (append-nil name) ∙ slice_split_none is_slash name (no_slash name file)
parts-joined name (next ∷ names) file each =
    slice_split_at is_slash name 47 (next ++ joined names) (no_slash name file) refl
    ∙ ap (λ parts. name ∷ parts) (parts-joined next names (All-head IsFileName next names each) (All-tail IsFileName next names each))

Decides-file_names : (names : List (List ℕ)) → Decides (list_all is_file_name names) (All IsFileName names)
Decides-file_names names = Decides-by_and is_file_name IsFileName (list_all is_file_name) Decides-file_name refl (λ _ _. refl) names

-- what names_of asks of a word
record IsNamesWord (word : List ℕ) : Type 0 where
  slash : slice_index word 0 ≡ 47
  short : length word ≤ 1024
  each : All IsFileName (parts_of (drop 1 word))

Decides-names_word : (word : List ℕ) → Decides (is_slash (slice_index word 0) && nat_le (length word) 1024 && list_all is_file_name (parts_of (drop 1 word))) (IsNamesWord word)
Decides-names_word word =
    Decides-like _ (λ h. record { slash = h.0.0; short = h.0.1; each = h.1 }) (λ h. ((h.slash, h.short), h.each))
    (Decides-and _ _ (Decides-and _ _ (Decides-eqb (slice_index word 0) 47) (Decides-nat_le (length word) 1024)) (Decides-file_names (parts_of (drop 1 word))))

text_of_parts : (parts : List (List ℕ)) (text : List ℕ) → joined parts ≡ 47 ∷ text → path_text parts ≡ 47 ∷ text
text_of_parts [] text e = cc
text_of_parts (part ∷ parts) text e = e

-- a word that has names is their text
names_word : (word : List ℕ) → IsNamesWord word → (path_text (parts_of (drop 1 word)) ≡ word) × IsPath (parts_of (drop 1 word))
names_word [] h = absurd (omega (arith, h.slash))
names_word (byte ∷ text) h =
    let is : 47 ≡ byte = sym h.slash in
    let same : path_text (parts_of text) ≡ byte ∷ text = text_of_parts (parts_of text) text (joined-parts text) ∙ ap (λ b. b ∷ text) is in
    (same, record { each = h.each; short = subst (λ text. length text ≤ 1024) (sym same) h.short })

-- a path is found only in its own text
path_found : (word : List ℕ) (names : List (List ℕ)) → path_of word ≡ Some names → (path_text names ≡ word) × IsPath names
path_found word names e = root (is_text word (codes "/")) (bytes_eq-Decides word (codes "/")) e
  where
    some : (b : Bool) → Decides b (IsNamesWord word) → cond b (Some (parts_of (drop 1 word))) None ≡ Some names → (path_text names ≡ word) × IsPath names
    some true d e = let same : parts_of (drop 1 word) ≡ names = cc in subst (λ names. (path_text names ≡ word) × IsPath names) same (names_word word (d.0 refl))
    some false d e = cc

    root : (b : Bool) → Decides b (word ≡ codes "/") → cond b (Some []) (names_of word) ≡ Some names → (path_text names ≡ word) × IsPath names
    root true d e =
        let none : [] ≡ names = cc in
        subst (λ names. (path_text names ≡ word) × IsPath names) none (sym (d.0 refl), record { each = λ k d h. absurd (omega (arith, h)); short = lit≤ tt })
    root false d e = some _ (Decides-names_word word) e

-- the text of a path has the path
path_there : (word : List ℕ) (names : List (List ℕ)) → path_text names ≡ word → IsPath names → path_of word ≡ Some names
path_there word [] e h = ap path_of (sym e)
path_there word (name ∷ names) e h =
    let file = All-head IsFileName name names h.each in
    let rest : List ℕ = name ++ joined names in
    let parts : parts_of rest ≡ name ∷ names = parts-joined name names file (All-tail IsFileName name names h.each) in
    let is : IsNamesWord (47 ∷ rest) = record { slash = refl; short = h.short; each = subst (All IsFileName) (sym parts) h.each } in
    let longer : (47 ∷ rest) ≢ codes "/" = λ same. root_is_short name (joined names) file same in
    subst (λ word. path_of word ≡ Some (name ∷ names)) e (
    there (is_text (47 ∷ rest) (codes "/")) (bytes_eq-Decides (47 ∷ rest) (codes "/")) longer (names_of (47 ∷ rest))
    (some (is_slash (slice_index (47 ∷ rest) 0) && nat_le (length (47 ∷ rest)) 1024 && list_all is_file_name (parts_of rest)) (Decides-names_word (47 ∷ rest)) is (parts_of rest) ∙ ap Some parts))
  where
    root_is_short : (name rest : List ℕ) → IsFileName name → (47 ∷ name ++ rest) ≡ codes "/" → ⊥
    root_is_short [] rest file same = let none : 1 ≤ 0 = file.name.some in omega (arith, none)
    root_is_short (byte ∷ name) rest file same = cc

    there : (b : Bool) {word : List ℕ} → Decides b (word ≡ codes "/") → word ≢ codes "/" → (o : Option (List (List ℕ))) → o ≡ Some (name ∷ names) → cond b (Some []) o ≡ Some (name ∷ names)
    there true d other o e = absurd (other (d.0 refl))
    there false d other o e = e

    some : (b : Bool) → Decides b (IsNamesWord (47 ∷ name ++ joined names)) → IsNamesWord (47 ∷ name ++ joined names) → (parts : List (List ℕ)) → cond b (Some parts) None ≡ Some parts
    some true d is parts = refl
    some false d is parts = let wrong : false ≡ true = d.1 is in cc

-- what is read of a word is its path
pub path_read : (word : List ℕ) (found : Option (List (List ℕ))) → IfSome found (λ path. path_text path ≡ word) → IfSome found IsPath → IfNone found ((names : List (List ℕ)) → IsPath names → path_text names ≢ word) →
    found ≡ path_of word
path_read word (Some path) text is none = sym (path_there word path text is)
path_read word None text is none = elim (path_of word) as (λ o. path_of word ≡ o → None ≡ o) [
  | None ↦ λ e. refl
  | Some names ↦ λ e. let found = path_found word names e in absurd (none names found.1 found.0)
] refl
