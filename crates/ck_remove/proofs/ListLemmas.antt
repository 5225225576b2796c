-- What all elements of a list have, of those that pass a test.
use Rattle.std.proofs.Common.{◌≡◌, ◌≢◌, ℕ, ◌<◌, Bool, true, false, cond, ◌||◌, List, [], ◌∷◌, filter, nat_eq, refl, sym, ap, subst, ◌∙◌, arith}
use Rattle.std.specs.Ordering.{nat_cmp, is_eq, eq_by_cmp}
use Rattle.std.specs.List.{list_any, AllByRecursion}
use Rattle.std.proofs.lemmas.Cmp.{nat_cmp_total, tied_itself}
use Rattle.std.proofs.lemmas.Bool.{eqb-true, false≢true, or_right}
use Rattle.std.proofs.lemmas.Bool.Decides.{nat_tests}
use Rattle.ck_chain.specs.Needless.{in_between}

pub all_map : {X : Type 0} (P Q : X → Type 0) → ((x : X) → P x → Q x) → (xs : List X) → AllByRecursion P xs → AllByRecursion Q xs
all_map P Q step [] all = tt
all_map P Q step (x ∷ xs) all = (step x all.0, all_map P Q step xs all.1)

-- what follows of the test holds of all that pass it
pub all_filter : (P : ℕ → Type 0) (p : ℕ → Bool) → ((x : ℕ) → p x ≡ true → P x) → (xs : List ℕ) → AllByRecursion P (filter p xs)
all_filter P p each [] = tt
all_filter P p each (x ∷ xs) =
    let rest = all_filter P p each xs in
    elim (p x) as (λ b. p x ≡ b → AllByRecursion P (cond b (x ∷ filter p xs) (filter p xs))) [
      | true ↦ λ passes. (each x passes, rest)
      | false ↦ λ fails. rest
    ] refl

-- and what holds of all those holds of each
pub all_at : (P : ℕ → Type 0) (p : ℕ → Bool) (id : ℕ) → p id ≡ true → (xs : List ℕ) → AllByRecursion P (filter p xs) → list_any (nat_eq id) xs ≡ true → P id
all_at P p id passes [] all there = absurd (false≢true there)
all_at P p id passes (x ∷ xs) all there =
    elim (nat_eq id x) as (λ b. nat_eq id x ≡ b → (b || list_any (nat_eq id) xs) ≡ true → P id) [
      | true ↦ λ same _.
          let is : id ≡ x = eqb-true id x same in
          let all_here = subst (λ b. AllByRecursion P (cond b (x ∷ filter p xs) (filter p xs))) (sym (ap p is) ∙ passes) all in
          subst P (sym is) all_here.0
      | false ↦ λ _ further.
          all_at P p id passes xs (elim (p x) as (λ b. AllByRecursion P (cond b (x ∷ filter p xs) (filter p xs)) → AllByRecursion P (filter p xs)) [
            | true ↦ λ h. h.1
            | false ↦ λ h. h
          ] all) further
    ] refl there

-- what doesn't pass is left out
pub filter_none : (p : ℕ → Bool) (xs : List ℕ) → ((x : ℕ) → list_any (eq_by_cmp nat_cmp x) xs ≡ true → p x ≡ false) → filter p xs ≡ []
filter_none p [] fails = refl
filter_none p (x ∷ xs) fails =
    let here : list_any (eq_by_cmp nat_cmp x) (x ∷ xs) ≡ true = ap (λ o. is_eq o || list_any (eq_by_cmp nat_cmp x) xs) (tied_itself nat_cmp_total x) in
    ap (λ b. cond b (x ∷ filter p xs) (filter p xs)) (fails x here)
    ∙ filter_none p xs (λ y there. fails y (or_right (eq_by_cmp nat_cmp y x) (list_any (eq_by_cmp nat_cmp y) xs) there))

-- a narrower test of those that don't pass it
pub filter_outside : (p q : ℕ → Bool) → ((x : ℕ) → q x ≡ true → p x ≡ false) → (xs : List ℕ) → filter p (filter q xs) ≡ []
filter_outside p q apart [] = refl
filter_outside p q apart (x ∷ xs) =
    let rest = filter_outside p q apart xs in
    elim (q x) as (λ b. q x ≡ b → filter p (cond b (x ∷ filter q xs) (filter q xs)) ≡ []) [
      | true ↦ λ passes. ap (λ b. cond b (x ∷ filter p (filter q xs)) (filter p (filter q xs))) (apart x passes) ∙ rest
      | false ↦ λ _. rest
    ] refl

-- none of those below a number is that
pub all_below : (g : ℕ) (ids : List ℕ) → AllByRecursion (λ x. x ≢ g) (filter (in_between 0 g) ids)
all_below g ids = all_filter (λ x. x ≢ g) (in_between 0 g) (λ x passes same. let lower : x < g = grind (arith, nat_tests) in absurd (omega arith)) ids
