-- The tests of a word against what a name is.
use Rattle.std.proofs.Common.{◌≡◌, ℕ, ◌≤◌, ◌&&◌, Bool, true, false, cond, not, List, length, Option, Some, None, IsSome, IfSome, ◌↔◌, nat_eq, nat_le, if◌then◌else◌, codes, refl, ap, arith}
use Rattle.std.specs.Bool.{Decides}
use Rattle.std.specs.List.{list_all}
use Rattle.std.proofs.lemmas.Bool.Decides.{nat_tests, Decides-and, Decides-not, Decides-like, Decides-eqb, Decides-by_and}
use Rattle.std.proofs.lemmas.Slice.Eq.{bytes_eq-Decides}
use Rattle.ck_model.specs.Name.{IsName, IsNameByte, IsFileName}
use Rattle.ck_script.specs.Arguments.{is_name, is_file_name, is_printable}

pub Decides-nat_le : (a b : ℕ) → Decides (nat_le a b) (a ≤ b)
Decides-nat_le a b = (λ e. grind (arith, nat_tests, e), λ h. grind (arith, nat_tests, h))

Decides-name_byte : (byte : ℕ) → Decides (is_printable byte && not (nat_eq byte 47)) (IsNameByte byte)
Decides-name_byte byte =
    Decides-like _ (λ h. record { low = h.0.0; high = h.0.1; no_slash = h.1 }) (λ h. ((h.low, h.high), h.no_slash))
    (Decides-and _ _ (Decides-and _ _ (Decides-nat_le 33 byte) (Decides-nat_le byte 126)) (Decides-not _ (Decides-eqb byte 47)))

pub Decides-name : (word : List ℕ) → Decides (is_name word) (IsName word)
Decides-name word =
    let test : ℕ → Bool = λ byte. is_printable byte && not (nat_eq byte 47) in
    Decides-like _ (λ h. record { some = h.0.0; few = h.0.1; each = h.1 }) (λ h. ((h.some, h.few), h.each))
    (Decides-and _ _ (Decides-and _ _ (Decides-nat_le 1 (length word)) (Decides-nat_le (length word) 40))
    (Decides-by_and test IsNameByte (list_all test) Decides-name_byte refl (λ _ _. refl) word))

pub Decides-file_name : (word : List ℕ) → Decides (is_file_name word) (IsFileName word)
Decides-file_name word =
    Decides-like _ (λ h. record { name = h.0.0; not_dot = h.0.1; not_dots = h.1 }) (λ h. ((h.name, h.not_dot), h.not_dots))
    (Decides-and _ _ (Decides-and _ _ (Decides-name word) (Decides-not _ (bytes_eq-Decides word (codes "."))))
    (Decides-not _ (bytes_eq-Decides word (codes ".."))))

-- a name that is read from a word exactly where the word is one
pub name_read : (word : List ℕ) (found : Option (List ℕ)) → (IsSome found ↔ IsName word) → IfSome found (λ name. name ≡ word) → found ≡ (if is_name word then Some word else None)
name_read word found some value = step (is_name word) (Decides-name word) found some value
  where
    step : (b : Bool) → Decides b (IsName word) → (found : Option (List ℕ)) → (IsSome found ↔ IsName word) → IfSome found (λ name. name ≡ word) → found ≡ cond b (Some word) None
    step true d None some value = let wrong : false ≡ true = some.1 (d.0 refl) in cc
    step true d (Some name) some value = ap Some value
    step false d None some value = refl
    step false d (Some name) some value = let wrong : false ≡ true = d.1 (some.0 refl) in cc
