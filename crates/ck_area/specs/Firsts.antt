-- The first number that passes a test, and what stands in a list already.
use Rattle.std.specs.Prelude.{◌≡◌, ℕ, ◌<◌, Bool, true, false, List, take, Option, Some, None, get_or}
use Rattle.std.specs.List.{list_any}
use Rattle.std.specs.Option.{option_map_or}

-- the first number below the limit that passes, if there is one
abbrev pub IsFirst : (ℕ → Bool) → ℕ → Option ℕ → Type 0
IsFirst test limit None = (k : ℕ) → k < limit → test k ≡ false
IsFirst test limit (Some found) = (found < limit) × (test found ≡ true) × ((k : ℕ) → k < found → test k ≡ false)

-- one of these is the same
abbrev pub stands_in : {K : Type 0} → (K → K → Bool) → List (Option K) → K → Bool
stands_in same items x = list_any (λ item. option_map_or (same x) item false) items

-- an earlier one is the same
abbrev pub repeats : {K : Type 0} → (K → K → Bool) → List (Option K) → ℕ → Bool
repeats same items at = option_map_or (stands_in same (take at items)) (get_or items at None) false
