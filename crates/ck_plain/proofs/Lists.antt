-- The checkpoints of the plain program as the model's: what is kept, found and changed of them.
use Rattle.std.proofs.Common.{◌≡◌, ℕ, zero, suc, ◌+◌, ◌<◌, Bool, true, false, cond, Option, Some, None, List, [], ◌∷◌, ◌++◌, length, get_or, set, take, drop, filter, map as list_map, refl, sym, ap, ◌∙◌, append_assoc, arith}
use Rattle.std.specs.List.{find, take_while, prefix_len, slice_get}
use Rattle.std.proofs.lemmas.List.{drop_more, take_more, length-map}
use Rattle.std.proofs.lemmas.List.Edits.{map_over_more}
use Rattle.std.proofs.lemmas.Option.{slice_get_read}

-- a filter by what is made of each
pub map_filter : {X Y : Type 0} (f : X → Y) (p : Y → Bool) (xs : List X) → list_map f (filter (λ x. p (f x)) xs) ≡ filter p (list_map f xs)
map_filter f p [] = refl
map_filter f p (x ∷ xs) =
    elim (p (f x)) as (λ b. list_map f (cond b (x ∷ filter (λ x. p (f x)) xs) (filter (λ x. p (f x)) xs)) ≡ cond b (f x ∷ filter p (list_map f xs)) (filter p (list_map f xs))) [
      | true ↦ ap (λ ys. f x ∷ ys) (map_filter f p xs)
      | false ↦ map_filter f p xs
    ]

pub map_append : {X Y : Type 0} (f : X → Y) (xs ys : List X) → list_map f (xs ++ ys) ≡ list_map f xs ++ list_map f ys
map_append f [] ys = refl
map_append f (x ∷ xs) ys = ap (λ zs. f x ∷ zs) (map_append f xs ys)

take_while_cons : {Y : Type 0} (q : Y → Bool) (y : Y) (ys : List Y) → q y ≡ true → take_while q (y ∷ ys) ≡ y ∷ take_while q ys
take_while_cons q y ys h = ap (λ b. take (cond b (1 + prefix_len q ys) 0) (y ∷ ys)) h ∙ ap (λ n. take n (y ∷ ys)) (one_more (prefix_len q ys))
  where
    one_more : (n : ℕ) → 1 + n ≡ suc n
    one_more n = omega arith

-- a walk along a list that has come to the element x at place i
module _ {X Y : Type 0} (f : X → Y) (xs : List X) (i : ℕ) (x : X) (within : i < length xs) (is : x ≡ get_or xs i x) where
  pub walked : list_map f (drop i xs) ≡ f x ∷ list_map f (drop (i + 1) xs)
  walked = ap (list_map f) (drop_more xs i x within) ∙ ap (λ y. f y ∷ list_map f (drop (i + 1) xs)) (sym is)

  passed : list_map f (take (i + 1) xs) ≡ list_map f (take i xs) ++ f x ∷ []
  passed = ap (list_map f) (take_more xs i x within) ∙ map_append f (take i xs) (get_or xs i x ∷ []) ∙ ap (λ y. list_map f (take i xs) ++ f y ∷ []) (sym is)

  -- the element that is found is the one here
  pub find_here : (p : Y → Bool) → p (f x) ≡ true → find p (list_map f (drop i xs)) ≡ Some (f x)
  find_here p h = ap (find p) walked ∙ ap (λ b. cond b (Some (f x)) (find p (list_map f (drop (i + 1) xs)))) h

  pub find_later : (p : Y → Bool) → p (f x) ≡ false → find p (list_map f (drop i xs)) ≡ find p (list_map f (drop (i + 1) xs))
  find_later p h = ap (find p) walked ∙ ap (λ b. cond b (Some (f x)) (find p (list_map f (drop (i + 1) xs)))) h

  pub get_here : slice_get xs i ≡ Some x
  get_here = slice_get_read xs (length xs) i x refl within is

  -- an element more that passes
  pub take_while_later : (q : Y → Bool) → q (f x) ≡ true
      → list_map f (take i xs) ++ take_while q (list_map f (drop i xs)) ≡ list_map f (take (i + 1) xs) ++ take_while q (list_map f (drop (i + 1) xs))
  take_while_later q h =
      let rest = take_while q (list_map f (drop (i + 1) xs)) in
      ap (λ ys. list_map f (take i xs) ++ take_while q ys) walked
      ∙ ap (λ ys. list_map f (take i xs) ++ ys) (take_while_cons q (f x) (list_map f (drop (i + 1) xs)) h)
      ∙ sym (append_assoc (list_map f (take i xs)) (f x ∷ []) rest)
      ∙ ap (λ ys. ys ++ rest) (sym passed)

map_set : {X Y : Type 0} (f : X → Y) (xs : List X) (i : ℕ) (y : X) → list_map f (set xs i y) ≡ set (list_map f xs) i (f y)
map_set f [] i y = refl
map_set f (x ∷ xs) zero y = refl
map_set f (x ∷ xs) (suc i) y = ap (λ ys. f x ∷ ys) (map_set f xs i y)

get_or_map : {X Y : Type 0} (f : X → Y) (xs : List X) (i : ℕ) (d : X) → get_or (list_map f xs) i (f d) ≡ f (get_or xs i d)
get_or_map f [] i d = refl
get_or_map f (x ∷ xs) zero d = refl
get_or_map f (x ∷ xs) (suc i) d = get_or_map f xs i d

-- a walk that changes each element: the one at place i becomes y
pub set_here : {X Y : Type 0} (f : X → Y) (g : Y → Y) (before now : List X) (i : ℕ) (x y : X) → i < length before
    → list_map f now ≡ list_map g (take i (list_map f before)) ++ drop i (list_map f before) → x ≡ get_or now i x → f y ≡ g (f x)
    → list_map f (set now i y) ≡ list_map g (take (i + 1) (list_map f before)) ++ drop (i + 1) (list_map f before)
set_here f g before now i x y within so_far is changed =
    let inside : i < length (list_map f before) = omega (arith, length-map before f) in
    map_set f now i y ∙ ap (set (list_map f now) i) changed
    ∙ map_over_more g (list_map f before) (list_map f now) i (f x) inside so_far (ap f is ∙ sym (get_or_map f now i x))
