-- The first of the ids above a number, and the parts that a test of keys makes of a list in order.
use Rattle.std.proofs.Common.{◌≡◌, ℕ, zero, suc, ◌<◌, ◌≤◌, Bool, true, false, cond, T, List, [], ◌∷◌, length, get_or, nat_lt, nat_le, refl, sym, ap, subst, ◌∙◌, arith}
use Rattle.std.specs.declared.cmp.Ordering.{Ordering}
use Rattle.std.specs.Ordering.{nat_cmp, is_lt, is_gt}
use Rattle.std.specs.FinMap.{is_sorted}
use Rattle.std.specs.FinMap.Entries.{below_all}
use Rattle.std.specs.List.{AllWithin}
use Rattle.std.specs.List.Sorted.{IsPartitionedBy}
use Rattle.std.proofs.lemmas.Bool.Decides.{nat_tests}
use Rattle.ck_model.specs.declared.checkpoint.Fileset.{Fileset}
use Rattle.ck_model.specs.Ordered.{place_of}
use Rattle.ck_slots.specs.Cut.{front}
use Rattle.ck_slots.specs.Recorded.{ids_behind}
use Rattle.ck_slots.proofs.Cuts.{both_of, below_at, Falls}

module _ {K X : Type 0} (R : K → K → Ordering) (test : K → Bool) (falls : Falls R test) where
  at_head : (e : K × X) (es : List (K × X)) (j : ℕ) (d : K × X) → T (is_sorted R (e ∷ es)) → j < suc (length es) → test (get_or (e ∷ es) j d).0 ≡ true → test e.0 ≡ true
  at_head e es zero d sorted within passes = passes
  at_head e es (suc j) d sorted within passes =
      let parts = both_of (below_all R e.0 es) (is_sorted R es) sorted in
      falls e.0 (get_or es j d).0 (below_at R e.0 es j d parts.0 (omega arith)) passes

  -- a test that falls splits a list in order
  pub partitioned : (es : List (K × X)) → T (is_sorted R es) → IsPartitionedBy (λ e. test e.0) es
  partitioned [] sorted i j d le within passes = absurd (omega arith)
  partitioned (e ∷ es) sorted zero j d le within passes = at_head e es j d sorted within passes
  partitioned (e ∷ es) sorted (suc i) zero d le within passes = absurd (omega arith)
  partitioned (e ∷ es) sorted (suc i) (suc j) d le within passes =
      partitioned es (both_of (below_all R e.0 es) (is_sorted R es) sorted).1 i j d (omega arith) (omega arith) passes

-- the place between what passes and what doesn't
pub front_is : {K X : Type 0} (test : K → Bool) (es : List (K × X)) (at : ℕ) → at ≤ length es → AllWithin (λ e. test e.0 ≡ true) es 0 at → AllWithin (λ e. test e.0 ≡ false) es at (length es) → at ≡ front test es
front_is test [] at le before behind = omega arith
front_is test (e ∷ es) zero le before behind = sym (ap (λ b. cond b (suc (front test es)) 0) (behind 0 e (omega arith) (omega arith)))
front_is test (e ∷ es) (suc at) le before behind =
    ap suc (front_is test es at (omega arith) (λ k d low high. before (suc k) d (omega arith) (omega arith)) (λ k d low high. behind (suc k) d (omega arith) (omega arith)))
    ∙ sym (ap (λ b. cond b (suc (front test es)) 0) (before 0 e (omega arith) (omega arith)))

-- ---- ids

pub below_falls : (id : ℕ) → Falls nat_cmp (λ x. nat_lt x id)
below_falls id x y lt h = grind (arith, nat_tests)

pub upto_falls : (id : ℕ) → Falls nat_cmp (λ x. nat_le x id)
upto_falls id x y lt h = grind (arith, nat_tests)

gt_is : (id x : ℕ) → is_gt (nat_cmp id x) ≡ nat_lt x id
gt_is id x = grind (arith, nat_tests)

pub place_is : (id : ℕ) (es : List (ℕ × Fileset)) → place_of nat_cmp id es ≡ front (λ x. nat_lt x id) es
place_is id [] = refl
place_is id (e ∷ es) =
    ap (λ b. cond b (suc (place_of nat_cmp id es)) 0) (gt_is id e.0)
    ∙ ap (λ n. cond (nat_lt e.0 id) (suc n) 0) (place_is id es)

step_in : (after : ℕ) (e : ℕ × Fileset) (es : List (ℕ × Fileset)) → after < e.0 → ids_behind (e ∷ es) after ≡ e.0 ∷ ids_behind es after
step_in after e es lt = let t : nat_lt after e.0 ≡ true = grind (arith, nat_tests) in ap (λ b. cond b (e.0 ∷ ids_behind es after) (ids_behind es after)) t

step_out : (after : ℕ) (e : ℕ × Fileset) (es : List (ℕ × Fileset)) → e.0 ≤ after → ids_behind (e ∷ es) after ≡ ids_behind es after
step_out after e es le = let t : nat_lt after e.0 ≡ false = grind (arith, nat_tests) in ap (λ b. cond b (e.0 ∷ ids_behind es after) (ids_behind es after)) t

less_is : (x y : ℕ) → T (is_lt (nat_cmp x y)) → x < y
less_is x y h = grind (arith, nat_tests)

later_ids : (after x : ℕ) (es : List (ℕ × Fileset)) → after ≤ x → T (below_all nat_cmp x es) → ids_behind es after ≡ ids_behind es x
later_ids after x [] le below = refl
later_ids after x (e ∷ es) le below =
    let parts = both_of (is_lt (nat_cmp x e.0)) (below_all nat_cmp x es) below in
    let lt = less_is x e.0 parts.0 in
    step_in after e es (omega arith) ∙ ap (λ ids. e.0 ∷ ids) (later_ids after x es le parts.1) ∙ sym (step_in x e es lt)

-- the first id above this number, and those above it
pub next_at_front : (after : ℕ) (es : List (ℕ × Fileset)) (e : ℕ × Fileset) → T (is_sorted nat_cmp es) → front (λ x. nat_le x after) es < length es → get_or es (front (λ x. nat_le x after) es) e ≡ e → (after < e.0) × (ids_behind es after ≡ e.0 ∷ ids_behind es e.0)
next_at_front after [] e sorted within is = absurd (omega arith)
next_at_front after (x ∷ es) e sorted within is =
    let parts = both_of (below_all nat_cmp x.0 es) (is_sorted nat_cmp es) sorted in
    let at = front (λ n. nat_le n after) es in
    elim (nat_le x.0 after) as (λ b. nat_le x.0 after ≡ b → cond b (suc at) 0 < suc (length es) → get_or (x ∷ es) (cond b (suc at) 0) e ≡ e → (after < e.0) × (ids_behind (x ∷ es) after ≡ e.0 ∷ ids_behind (x ∷ es) e.0)) [
      | true ↦ λ p within is.
          let le : x.0 ≤ after = grind (arith, nat_tests) in
          let rest = next_at_front after es e parts.1 (omega arith) is in
          let up : x.0 ≤ e.0 = omega (arith, rest.0) in
          (rest.0, step_out after x es le ∙ rest.1 ∙ ap (λ ids. e.0 ∷ ids) (sym (step_out e.0 x es up)))
      | false ↦ λ p within is.
          let lt : after < x.0 = grind (arith, nat_tests) in
          let all : ids_behind (x ∷ es) after ≡ x.0 ∷ ids_behind (x ∷ es) x.0 =
          step_in after x es lt ∙ ap (λ ids. x.0 ∷ ids) (later_ids after x.0 es (omega arith) parts.0 ∙ sym (step_out x.0 x es (omega arith))) in
          subst (λ (y : ℕ × Fileset). (after < y.0) × (ids_behind (x ∷ es) after ≡ y.0 ∷ ids_behind (x ∷ es) y.0)) is (lt, all)
    ] refl within is

pub none_at_front : (after : ℕ) (es : List (ℕ × Fileset)) → length es ≤ front (λ x. nat_le x after) es → ids_behind es after ≡ []
none_at_front after [] past = refl
none_at_front after (x ∷ es) past =
    let at = front (λ n. nat_le n after) es in
    elim (nat_le x.0 after) as (λ b. nat_le x.0 after ≡ b → suc (length es) ≤ cond b (suc at) 0 → ids_behind (x ∷ es) after ≡ []) [
      | true ↦ λ p past. let le : x.0 ≤ after = grind (arith, nat_tests) in step_out after x es le ∙ none_at_front after es (omega arith)
      | false ↦ λ p past. absurd (omega arith)
    ] refl past
