-- Lists each of whose elements keeps something with those before it.
use Rattle.std.proofs.Common.{◌≡◌, Bool, true, false, T, cond, ◌||◌, List, [], ◌∷◌, ◌++◌, map as list_map, filter, Some, is_some, refl, sym, ap, subst, ◌∙◌, ◌⊎◌, inl, inr, append_assoc}
use Rattle.std.specs.Bool.{⊤}
use Rattle.std.specs.List.{list_any, AllByRecursion}
use Rattle.std.specs.declared.cmp.Ordering.{Ordering}
use Rattle.std.specs.declared.cmp.Ordering.TheVariants.{Less, Equal, Greater}
use Rattle.std.specs.Ordering.{eq_by_cmp, is_eq, is_lt}
use Rattle.std.specs.Cmp.{IsTotalOrder}
use Rattle.std.specs.FinMap.{IsAntisymmetric, find, is_sorted}
use Rattle.std.specs.FinMap.Entries.{below_all}
use Rattle.std.proofs.lemmas.Cmp.{tied_itself, eq_by_cmp_equiv}
use mathlib.Core.Bool.{false≢true}
use Rattle.ck_model.proofs.CellLaws.{equal}
use Rattle.ck_model.proofs.CaseLaws.{head_of}
use Rattle.ck_model.proofs.FilesetLaws.{all_found}

-- each of these keeps P with those before it, and the front stands before them all
abbrev pub Each : {X : Type 0} → (List X → X → Type 0) → List X → List X → Type 0
Each P front [] = ⊤
Each P front (x ∷ xs) = P front x × Each P (front ++ x ∷ []) xs

abbrev pub Among : {X : Type 0} → X → List X → Type 0
Among x [] = ⊥
Among x (y ∷ ys) = (x ≡ y) ⊎ Among x ys

-- ---- tests

apart : (r : Ordering) → T (is_lt r) → is_eq r ≡ false
apart Less h = refl
apart Equal h = absurd h
apart Greater h = absurd h

pub neither : (a b : Bool) → (a || b) ≡ false → (a ≡ false) × (b ≡ false)
neither true b h = cc
neither false b h = (refl, h)

pub none_of : (a b : Bool) → a ≡ false → b ≡ false → (a || b) ≡ false
none_of a b p q = ap (λ c. c || b) p ∙ q

module _ {X : Type 0} where
  pub among_left : (x : X) (xs ys : List X) → Among x xs → Among x (xs ++ ys)
  among_left x [] ys h = absurd h
  among_left x (y ∷ xs) ys h = elim h [ inl same ↦ inl same | inr rest ↦ inr (among_left x xs ys rest) ]

  pub among_right : (x : X) (xs ys : List X) → Among x ys → Among x (xs ++ ys)
  among_right x [] ys h = h
  among_right x (y ∷ xs) ys h = inr (among_right x xs ys h)

  pub all_among : (P : X → Type 0) (x : X) (xs : List X) → AllByRecursion P xs → Among x xs → P x
  all_among P x [] all h = absurd h
  all_among P x (y ∷ xs) all h = elim h [ inl same ↦ subst P (sym same) all.0 | inr rest ↦ all_among P x xs all.1 rest ]

  -- a test that none of these passes
  pub passes_none : (p : X → Bool) (x : X) (xs : List X) → list_any p xs ≡ false → Among x xs → p x ≡ false
  passes_none p x [] none h = absurd h
  passes_none p x (y ∷ xs) none h =
      let parts = neither (p y) (list_any p xs) none in
      elim h [ inl same ↦ ap p same ∙ parts.0 | inr rest ↦ passes_none p x xs parts.1 rest ]

  pub none_passes : (p : X → Bool) (xs : List X) → ((x : X) → Among x xs → p x ≡ false) → list_any p xs ≡ false
  none_passes p [] each = refl
  none_passes p (y ∷ xs) each = none_of (p y) (list_any p xs) (each y (inl refl)) (none_passes p xs (λ x h. each x (inr h)))

  pub among_filter : (p : X → Bool) (x : X) (xs : List X) → Among x xs → p x ≡ true → Among x (filter p xs)
  among_filter p x [] h is = absurd h
  among_filter p x (y ∷ xs) h is =
      elim h [
        | inl same ↦ subst (λ b. Among x (cond b (y ∷ filter p xs) (filter p xs))) (sym (ap p (sym same) ∙ is)) (inl same)
        | inr rest ↦ elim (p y) as (λ b. Among x (cond b (y ∷ filter p xs) (filter p xs))) [ true ↦ inr (among_filter p x xs rest is) | false ↦ among_filter p x xs rest is ]
      ]

  -- ---- each

  pub each_then : (P Q : List X → X → Type 0) (front xs : List X) → ((before : List X) (x : X) → P before x → Q before x) → Each P front xs → Each Q front xs
  each_then P Q front [] then all = tt
  each_then P Q front (x ∷ xs) then all = (then front x all.0, each_then P Q (front ++ x ∷ []) xs then all.1)

  -- what is so wherever the list is parted is so of each
  pub each_where : (P : List X → X → Type 0) (front xs : List X) → ((before : List X) (x : X) (behind : List X) → before ++ x ∷ behind ≡ front ++ xs → P before x) → Each P front xs
  each_where P front [] parted = tt
  each_where P front (x ∷ xs) parted = (
    parted front x xs refl,
    each_where P (front ++ x ∷ []) xs (λ before y behind same. parted before y behind (same ∙ append_assoc front (x ∷ []) xs)),
  )

  -- those before one of them
  pub record Before (P : List X → X → Type 0) (x : X) : Type 0 where
    pub front : List X
    pub keeps : P front x

  pub each_among : (P : List X → X → Type 0) (x : X) (front xs : List X) → Each P front xs → Among x xs → Before P x
  each_among P x front [] all h = absurd h
  each_among P x front (y ∷ xs) all h =
      elim h [
        | inl same ↦ record { front = front; keeps = subst (P front) (sym same) all.0 }
        | inr rest ↦ each_among P x (front ++ y ∷ []) xs all.1 rest
      ]

  -- one of the front, and one behind it
  pub apart_front : (q : X → X → Bool) (x y : X) (front xs : List X) → Each (λ before z. list_any (q z) before ≡ false) front xs → Among y front → Among x xs → q x y ≡ false
  apart_front q x y front [] all there here = absurd here
  apart_front q x y front (z ∷ xs) all there here =
      elim here [
        | inl same ↦ ap (λ w. q w y) same ∙ passes_none (q z) y front all.0 there
        | inr rest ↦ apart_front q x y (front ++ z ∷ []) xs all.1 (among_left y front (z ∷ []) there) rest
      ]

  -- two of them are one, or the later is apart from the earlier
  pub one_or_apart : (q : X → X → Bool) (x y : X) (front xs : List X) → Each (λ before z. list_any (q z) before ≡ false) front xs → Among x xs → Among y xs → (x ≡ y) ⊎ ((q x y ≡ false) ⊎ (q y x ≡ false))
  one_or_apart q x y front [] all here there = absurd here
  one_or_apart q x y front (z ∷ xs) all here there =
      elim here [
        | inl first ↦ elim there [
          | inl second ↦ inl (first ∙ sym second)
          | inr later ↦ inr (inr (apart_front q y x (front ++ z ∷ []) xs all.1 (among_right x front (z ∷ []) (inl first)) later))
        ]
        | inr rest ↦ elim there [
          | inl second ↦ inr (inl (apart_front q x y (front ++ z ∷ []) xs all.1 (among_right y front (z ∷ []) (inl second)) rest))
          | inr later ↦ one_or_apart q x y (front ++ z ∷ []) xs all.1 rest later
        ]
      ]

pub among_map : {X Y : Type 0} (f : X → Y) (x : X) (xs : List X) → Among x xs → Among (f x) (list_map f xs)
among_map f x [] h = absurd h
among_map f x (y ∷ xs) h = elim h [ inl same ↦ inl (ap f same) | inr rest ↦ inr (among_map f x xs rest) ]

-- ---- entries that are found

module _ {K X : Type 0} {R : K → K → Ordering} (total : IsTotalOrder R) (exact : IsAntisymmetric R) where
  -- what is found stands among them
  pub found_among : (k : K) (v : X) (es : List (K × X)) → find R k es ≡ Some v → Among (k, v) es
  found_among k v [] h = absurd (false≢true (ap is_some h))
  found_among k v (e ∷ es) h =
      elim (eq_by_cmp R k e.0) as (λ b. eq_by_cmp R k e.0 ≡ b → cond b (Some e.1) (find R k es) ≡ Some v → Among (k, v) (e ∷ es)) [
        | true ↦ λ tied same. let key : k ≡ e.0 = exact k e.0 (equal (R k e.0) tied) in let value : v ≡ e.1 = cc in inl (λ i. (key i, value i))
        | false ↦ λ _ rest. inr (found_among k v es rest)
      ] refl h

  -- no key stands before one of them
  found_behind : (x : K × X) (front es : List (K × X)) → Each (λ before z. list_any (λ e. eq_by_cmp R z.0 e.0) before ≡ false) front es → Among x es → find R x.0 es ≡ Some x.1
  found_behind x front [] all h = absurd h
  found_behind x front (e ∷ es) all h =
      elim h [
        | inl same ↦ ap (λ b. cond b (Some e.1) (find R x.0 es)) (ap (λ y. eq_by_cmp R x.0 y.0) (sym same) ∙ ap is_eq (tied_itself total x.0)) ∙ ap (λ y. Some y.1) (sym same)
        | inr rest ↦
            let apart : eq_by_cmp R x.0 e.0 ≡ false = apart_front (λ z y. eq_by_cmp R z.0 y.0) x e (front ++ e ∷ []) es all.1 (among_right e front (e ∷ []) (inl refl)) rest in
            ap (λ b. cond b (Some e.1) (find R x.0 es)) apart ∙ found_behind x (front ++ e ∷ []) es all.1 rest
      ]

  -- where no key stands twice, each is found
  pub among_found : (x : K × X) (es : List (K × X)) → Each (λ before z. list_any (λ e. eq_by_cmp R z.0 e.0) before ≡ false) [] es → Among x es → find R x.0 es ≡ Some x.1
  among_found x es all h = found_behind x [] es all h

  -- ---- entries in order

  -- each of them is found
  pub sorted_found : (x : K × X) (es : List (K × X)) → T (is_sorted R es) → Among x es → find R x.0 es ≡ Some x.1
  sorted_found x es sorted h = all_among (λ e. find R e.0 es ≡ Some e.1) x es (all_found total exact (λ e. find R e.0 es ≡ Some e.1) es sorted (λ k v found. found)) h

  below_among : (k : K) (x : K × X) (es : List (K × X)) → T (below_all R k es) → Among x es → eq_by_cmp R k x.0 ≡ false
  below_among k x [] below h = absurd h
  below_among k x (e ∷ es) below h =
      let parts = head_of (is_lt (R k e.0)) (below_all R k es) below in
      elim h [
        | inl same ↦ ap (λ (y : K × X). eq_by_cmp R k y.0) same ∙ apart (R k e.0) parts.0
        | inr rest ↦ below_among k x es parts.1 rest
      ]

  -- no key stands before one of them
  pub sorted_apart : (y x : K × X) (before behind : List (K × X)) → T (is_sorted R (before ++ x ∷ behind)) → Among y before → eq_by_cmp R x.0 y.0 ≡ false
  sorted_apart y x [] behind sorted h = absurd h
  sorted_apart y x (e ∷ before) behind sorted h =
      let parts = head_of (below_all R e.0 (before ++ x ∷ behind)) (is_sorted R (before ++ x ∷ behind)) sorted in
      elim h [
        | inl same ↦ (eq_by_cmp_equiv total).symm x.0 y.0 ∙ ap (λ (z : K × X). eq_by_cmp R z.0 x.0) same ∙ below_among e.0 x (before ++ x ∷ behind) parts.0 (among_right x before (x ∷ behind) (inl refl))
        | inr rest ↦ sorted_apart y x before behind parts.1 rest
      ]
