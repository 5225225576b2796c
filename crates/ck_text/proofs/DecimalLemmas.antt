-- What is no decimal.
use Rattle.std.proofs.Common.{◌≡◌, ℕ, Bool, true, false, cond, List, [], ◌∷◌, Option, None, refl, ap, ◌∙◌}
use Rattle.std.specs.List.{fold}
use Rattle.ck_text.specs.Decimal.{is_digit, next_value}

none_either : (b : Bool) → ◌≡◌ {A = Option ℕ} (cond b None None) None
none_either true = refl
none_either false = refl

-- no digit makes a number of none
pub fold_none : (bytes : List ℕ) → fold next_value None bytes ≡ None
fold_none [] = refl
fold_none (byte ∷ bytes) = ap (λ value. fold next_value value bytes) (none_either (is_digit byte)) ∙ fold_none bytes

-- no number where the digits give none
pub either_none : (b : Bool) (o : Option ℕ) → o ≡ None → cond b None o ≡ None
either_none true o e = refl
either_none false o e = e
