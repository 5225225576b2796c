-- Texts of paths: where the names in them end, and that no two paths have one text.
use Rattle.std.proofs.Common.{◌≡◌, ◌≢◌, ◌<◌, ◌≤◌, ◌++◌, ◌∷◌, [], ℕ, List, length, All, get_or, take, drop, refl, ap, sym, ◌∙◌, inl, inr, add-zero, arith, Option, None, Some}
use Rattle.std.proofs.lemmas.Bool.{cases_lt}
use Rattle.std.proofs.lemmas.List.{get_or-drop, get_or_default, get_or_past, take-append-drop, append-nil, append_assoc, append_cancel_left}
use Rattle.std.proofs.lemmas.List.Elements.{All-head, All-tail, All-weaker, All-push}
use Rattle.ck_model.specs.Name.{IsNameByte, IsFileName}
use Rattle.ck_model.specs.Path.{joined, path_text}

-- the list has a slash nowhere
pub record HasNoSlash (bytes : List ℕ) : Type 0 where
  pub each : All (λ byte. byte ≢ 47) bytes

-- the list is empty, or begins with a slash
pub record IsAtSlash (bytes : List ℕ) : Type 0 where
  pub first : get_or bytes 0 47 ≡ 47

-- a file name has none
pub HasNoSlash-file_name : (name : List ℕ) → IsFileName name → HasNoSlash name
HasNoSlash-file_name name h = record { each = All-weaker IsNameByte (λ byte. byte ≢ 47) (λ byte b. b.no_slash) name h.name.each }

-- a text of names is empty, or begins with the first one's slash
pub IsAtSlash-joined : (names : List (List ℕ)) → IsAtSlash (joined names)
IsAtSlash-joined [] = record { first = refl }
IsAtSlash-joined (name ∷ names) = record { first = refl }

HasNoSlash-tail : (x : ℕ) (xs : List ℕ) → HasNoSlash (x ∷ xs) → HasNoSlash xs
HasNoSlash-tail x xs h = record { each = All-tail (λ byte. byte ≢ 47) x xs h.each }

-- where two texts are one, so are their parts before the first slash, and the rests
pub same_front : (a b x y : List ℕ) → HasNoSlash a → HasNoSlash b → IsAtSlash x → IsAtSlash y
    → a ++ x ≡ b ++ y → (a ≡ b) × (x ≡ y)
same_front [] [] x y p q s t e = (refl, e)
same_front [] (b ∷ bs) x y p q s t e = absurd (All-head (λ byte. byte ≢ 47) b bs q.each (sym (ap (λ u. get_or u 0 47) e) ∙ s.first))
same_front (a ∷ as') [] x y p q s t e = absurd (All-head (λ byte. byte ≢ 47) a as' p.each (ap (λ u. get_or u 0 47) e ∙ t.first))
same_front (a ∷ as') (b ∷ bs) x y p q s t e =
    let tails : as' ++ x ≡ bs ++ y = cc in
    let heads : a ≡ b = cc in
    let rest : (as' ≡ bs) × (x ≡ y) = same_front as' bs x y (HasNoSlash-tail a as' p) (HasNoSlash-tail b bs q) s t tails in
    (cc, rest.1)

-- before its first slash, or its end, a text has the name that it begins with
pub take_name : (text name : List ℕ) (names : List (List ℕ)) (end : ℕ) → end ≤ length text
    → All (λ byte. byte ≢ 47) (take end text) → (end < length text → get_or text end 0 ≡ 47)
    → IsFileName name → name ++ joined names ≡ text → take end text ≡ name
take_name text name names end within before slash file e =
    let first : get_or text end 47 ≡ 47 = elim (cases_lt end (length text)) [
      | inl lt ↦ get_or_default text end 47 0 lt ∙ slash lt
      | inr ge ↦ get_or_past text end 47 ge
    ] in
    let cut : IsAtSlash (drop end text) = record { first = rw (get_or-drop, add-zero) first } in
    (same_front (take end text) name (drop end text) (joined names) (record { each = before }) (HasNoSlash-file_name name file) cut (IsAtSlash-joined names)
    (take-append-drop end text ∙ sym e)).0

-- the text is one of names, each with a slash before it
pub record IsNamesText (bytes : List ℕ) : Type 0 where
  pub names : List (List ℕ)
  pub each : All IsFileName names
  pub text : joined names ≡ bytes

-- the names so far are the text's up to the rest, and names follow where the text is one of names
pub record HasRead (bytes : List ℕ) (names : List (List ℕ)) (rest : List ℕ) : Type 0 where
  pub each : All IsFileName names
  pub text : joined names ++ rest ≡ bytes
  pub only : (all : List (List ℕ)) → All IsFileName all → joined all ≡ bytes → IsNamesText rest

-- the text begins with a name behind a slash, and names follow it
record BeginsName (bytes : List ℕ) : Type 0 where
  name : List ℕ
  names : List (List ℕ)
  file : IsFileName name
  each : All IsFileName names
  text : 47 ∷ (name ++ joined names) ≡ bytes

-- a text of names that isn't empty begins with a name
begins_name : (bytes : List ℕ) (names : List (List ℕ)) → 0 < length bytes → All IsFileName names → joined names ≡ bytes → BeginsName bytes
begins_name bytes [] some each e = absurd (omega (arith, ap length e))
begins_name bytes (name ∷ names) some each e = record {
  name = name;
  names = names;
  file = All-head IsFileName name names each;
  each = All-tail IsFileName name names each;
  text = e;
}

-- what was found is the name that the text begins with, if names follow that one
abbrev pub FindsFirst : List ℕ → Option (List ℕ) → Type 0
FindsFirst bytes found =
    (name : List ℕ) (names : List (List ℕ)) → IsFileName name → 47 ∷ (name ++ joined names) ≡ bytes → found ≡ Some name

-- a text that isn't empty and begins with no name is no text of names
pub no_names : (bytes : List ℕ) → 0 < length bytes → FindsFirst bytes None → IsNamesText bytes → ⊥
no_names bytes some none h =
    let first = begins_name bytes h.names some h.each h.text in
    let given : None ≡ Some first.name = none first.name first.names first.file first.text in
    cc

-- the text of one more name
joined-push : (names : List (List ℕ)) (name : List ℕ) → joined (names ++ name ∷ []) ≡ joined names ++ (47 ∷ name)
joined-push [] name = append-nil (47 ∷ name)
joined-push (n ∷ ns) name = ap (λ u. 47 ∷ (n ++ u)) (joined-push ns name) ∙ ap (λ u. 47 ∷ u) (sym (append_assoc n (joined ns) (47 ∷ name)))

-- behind the name that a text of names begins with stands a text of names
behind_name : (rest name behind : List ℕ) → BeginsName rest → rest ≡ 47 ∷ (name ++ behind)
    → FindsFirst rest (Some name) → IsNamesText behind
behind_name rest name behind first e only =
    let same : Some name ≡ Some first.name = only first.name first.names first.file first.text in
    let tails : name ++ joined first.names ≡ name ++ behind = cc in
    record { names = first.names; each = first.each; text = append_cancel_left name (joined first.names) behind tails }

-- one more name is read
pub HasRead-push : (bytes : List ℕ) (names : List (List ℕ)) (rest name behind : List ℕ)
    → HasRead bytes names rest → IsFileName name → rest ≡ 47 ∷ (name ++ behind) → FindsFirst rest (Some name)
    → HasRead bytes (names ++ name ∷ []) behind
HasRead-push bytes names rest name behind h file e only =
    let some : 0 < length rest = omega (arith, ap length e) in
    record {
      each = All-push IsFileName names name h.each file;
      text = rw (joined-push names name, append_assoc, ← e) h.text;
      only = λ all each whole.
          (let more = h.only all each whole in
          behind_name rest name behind (begins_name rest more.names some more.each more.text) e only);
    }

-- but for the root's, a path's text is its names, each with a slash before it
pub joined_from_path : (names : List (List ℕ)) (bytes : List ℕ) → path_text names ≡ bytes → bytes ≢ 47 ∷ [] → joined names ≡ bytes
joined_from_path [] bytes e other = absurd (other (sym e))
joined_from_path (name ∷ names) bytes e other = e
