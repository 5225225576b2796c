-- Lists of entries in the order of their keys, as finite maps.
use Rattle.std.specs.Prelude.{◌≡◌, ℕ, suc, ◌≤◌, ◌<◌, true, None, slice_index_or, List, [], ◌∷◌, length, if◌then◌else◌}
use Rattle.std.specs.declared.cmp.Ordering.{Ordering}
use Rattle.std.specs.Ordering.{is_gt}
use Rattle.std.specs.FinMap.{is_sorted, find}
use Rattle.std.specs.FinMap as map

-- how many entries stand before this key
abbrev pub place_of : {K X : Type 0} → (K → K → Ordering) → K → List (K × X) → ℕ
place_of R key [] = 0
place_of R key (e ∷ es) = if is_gt (R key e.0) then suc (place_of R key es) else 0

-- the entry at this place has the key
pub record IsFoundAt {K X : Type 0} (R : K → K → Ordering) (key : K) (es : List (K × X)) (at : ℕ) : Type 0 where
  pub place : at ≡ place_of R key es
  pub within : at < length es
  pub same : (d : K × X) → (slice_index_or es at d).0 ≡ key

-- no entry has the key, which would go to this place
pub record IsGapAt {K X : Type 0} (R : K → K → Ordering) (key : K) (es : List (K × X)) (at : ℕ) : Type 0 where
  pub place : at ≡ place_of R key es
  pub within : at ≤ length es
  pub none : find R key es ≡ None

-- the list is in order and is this map
pub record Edits {K X : Type 0} (R : K → K → Ordering) (es : List (K × X)) (m : map.FinMap R X) : Type 0 where
  pub sorted : is_sorted R es ≡ true
  pub means : map.from_sorted {R = R} es ≡ m
  pub length : length es ≡ map.len m
