-- The test of a file's name.
use Rattle.std.proofs.Common.{◌≡◌, ℕ, ◌≤◌, Bool, true, false, List, [], ◌∷◌, length, All, Some, None, cond, refl, sym, ◌∙◌, arith}
use Rattle.std.specs.Prelude.{IsTrue, ◌↔◌, nat_le}
use Rattle.std.specs.Bool.{Decides, then_some}
use Rattle.std.specs.List.{list_all}
use Rattle.std.specs.Cmp.Lexicographic.{bytes_decides}
use Rattle.std.proofs.lemmas.Bool.Decides.{nat_tests, same_from_decides, Decides-eqb, Decides-not, Decides-and, Decides-like, Decides-by_and}
use Rattle.ck_model.specs.Name.{IsName, IsNameByte, IsFileName}
use Rattle.ck_stream.specs.Parsed.{is_name_byte, is_file_name}

pub Decides-le : (a b : ℕ) → Decides (nat_le a b) (a ≤ b)
Decides-le a b = (λ h. grind (arith, nat_tests), λ h. grind (arith, nat_tests))

name_byte-Decides : (byte : ℕ) → Decides (is_name_byte byte) (IsNameByte byte)
name_byte-Decides byte =
    Decides-like _ (λ h. record { low = h.0.0; high = h.0.1; no_slash = h.1 }) (λ h. ((h.low, h.high), h.no_slash))
    (Decides-and _ _ (Decides-and _ _ (Decides-le 33 byte) (Decides-le byte 126)) (Decides-not _ (Decides-eqb byte 47)))

name_bytes-Decides : (bytes : List ℕ) → Decides (list_all is_name_byte bytes) (All IsNameByte bytes)
name_bytes-Decides = Decides-by_and is_name_byte IsNameByte (list_all is_name_byte) name_byte-Decides refl (λ _ _. refl)

-- what the test of all bytes says
pub by_test : (r : Bool) (bytes : List ℕ) → r ≡ list_all is_name_byte bytes → IsTrue r ↔ All IsNameByte bytes
by_test r bytes same = (λ h. (name_bytes-Decides bytes).0 (sym same ∙ h), λ each. same ∙ (name_bytes-Decides bytes).1 each)

pub file_name-Decides : (bytes : List ℕ) → Decides (is_file_name bytes) (IsFileName bytes)
file_name-Decides bytes =
    Decides-like _
    (λ h. record { name = record { some = h.0.0.0.0; few = h.0.0.0.1; each = h.0.0.1 }; not_dot = h.0.1; not_dots = h.1 })
    (λ h. ((((h.name.some, h.name.few), h.name.each), h.not_dot), h.not_dots))
    (Decides-and _ _ (Decides-and _ _ (Decides-and _ _ (Decides-and _ _
    (Decides-le 1 (length bytes)) (Decides-le (length bytes) 40)) (name_bytes-Decides bytes))
    (Decides-not _ (bytes_decides bytes (46 ∷ [])))) (Decides-not _ (bytes_decides bytes (46 ∷ 46 ∷ []))))

-- what the test of a name that was read says
pub is_test : (r : Bool) (bytes : List ℕ) → (IsTrue r ↔ IsFileName bytes) → r ≡ is_file_name bytes
is_test r bytes h = same_from_decides r (is_file_name bytes) (λ e. h.0 e, λ p. h.1 p) (file_name-Decides bytes)

-- what is no name is no file's name
pub no_name : (bytes : List ℕ) → (IsName bytes → is_file_name bytes ≡ true → is_file_name bytes ≡ false) → is_file_name bytes ≡ false
no_name bytes h =
    elim (is_file_name bytes) as (λ b. is_file_name bytes ≡ b → b ≡ false) [
      | true ↦ λ e. sym e ∙ h ((file_name-Decides bytes).0 e).name e
      | false ↦ λ e. refl
    ] refl

pub chosen : {A : Type 0} (r : Bool) (x : A) → then_some r x ≡ cond r (Some x) None
chosen true x = refl
chosen false x = refl
