-- The first number that passes a test.
use Rattle.std.proofs.Common.{◌≡◌, ℕ, zero, suc, ◌<◌, ◌+◌, Bool, true, false, cond, Option, Some, None, inl, inr, arith, List, length, map as list_map, subst, sym, ap, ◌∙◌, refl}
use Rattle.std.proofs.lemmas.List.{length-map}
use Rattle.std.specs.declared.result.Result.{Result}
use Rattle.std.specs.Result.{IfOk}
use mathlib.Core.Bool.{false≢true}
use Rattle.std.proofs.lemmas.Bool.{cases_lt}
use Rattle.ck_area.specs.Area.{Area}
use Rattle.ck_area.specs.Damage.{breaks, damaged_from, damage}
use Rattle.ck_area.specs.Firsts.{IsFirst, repeats}

-- the first repeat, where the test for the same and the list are known under other names
pub repeat_known : {X K E : Type 0} (same other : K → K → Bool) (tied : (x y : K) → same x y ≡ other x y) (part : X → Option K) (area : List X) (items : List (Option K)) (r : Result (Option ℕ) E)
    → items ≡ list_map part area → IfOk r (IsFirst (repeats same items) (length items)) → IfOk r (IsFirst (repeats other (list_map part area)) (length area))
repeat_known {X} {K} same other tied part area items r is h =
    let all : same ≡ other = λ i x y. tied x y i in
    let first = subst (λ (test : K → K → Bool). IfOk r (IsFirst (repeats test items) (length items))) all h in
    let second = subst (λ (list : List (Option K)). IfOk r (IsFirst (repeats other list) (length list))) is first in
    subst (λ (n : ℕ). IfOk r (IsFirst (repeats other (list_map part area)) n)) (length-map area part) second

-- the same test, as it is known elsewhere
pub first_alike : (test other : ℕ → Bool) (limit : ℕ) (first : Option ℕ) → ((k : ℕ) → test k ≡ other k) → IsFirst test limit first → IsFirst other limit first
first_alike test other limit first alike h = let all : test ≡ other = λ i k. alike k i in subst (λ (t : ℕ → Bool). IsFirst t limit first) all h

-- ---- the first slot that breaks a rule

module _ (blocks records : ℕ) (area : Area) where
  found_at : (slot left : ℕ) (first : Option ℕ) → slot + suc left ≡ length area → ((k : ℕ) → k < slot → breaks blocks records area k ≡ false)
      → breaks blocks records area slot ≡ true → IsFirst (breaks blocks records area) (length area) first → Some slot ≡ first
  found_at slot left None whole before it h = absurd (false≢true (sym (h slot (omega arith)) ∙ it))
  found_at slot left (Some found) whole before it h =
      elim (cases_lt found slot) [
        | inl lower ↦ absurd (false≢true (sym (before found lower) ∙ h.1))
        | inr upper ↦ elim (cases_lt slot found) [
          | inl higher ↦ absurd (false≢true (sym (h.2 slot higher) ∙ it))
          | inr same ↦ let is : slot ≡ found = omega arith in ap (λ (n : ℕ). Some n) is
        ]
      ]

  before_more : (slot : ℕ) → ((k : ℕ) → k < slot → breaks blocks records area k ≡ false) → breaks blocks records area slot ≡ false → (k : ℕ) → k < suc slot → breaks blocks records area k ≡ false
  before_more slot before not_it k below =
      elim (cases_lt k slot) [
        | inl lower ↦ before k lower
        | inr upper ↦ let is : slot ≡ k = omega arith in ap (breaks blocks records area) (sym is) ∙ not_it
      ]

  first_from : (slot left : ℕ) (first : Option ℕ) → slot + left ≡ length area → ((k : ℕ) → k < slot → breaks blocks records area k ≡ false)
      → IsFirst (breaks blocks records area) (length area) first → damaged_from blocks records area slot left ≡ first
  first_from slot zero None whole before h = refl
  first_from slot zero (Some found) whole before h = let low : found < slot = omega (arith, h.0) in let not_it = before found low in let it = h.1 in absurd (false≢true (sym not_it ∙ it))
  first_from slot (suc left) first whole before h =
      elim (breaks blocks records area slot) as (λ b. breaks blocks records area slot ≡ b → cond b (Some slot) (damaged_from blocks records area (suc slot) left) ≡ first) [
        | true ↦ λ it. found_at slot left first whole before it h
        | false ↦ λ not_it. first_from (suc slot) left first (omega arith) (before_more slot before not_it) h
      ] refl

  pub first_is_damage : (first : Option ℕ) → IsFirst (breaks blocks records area) (length area) first → first ≡ damage blocks records area
  first_is_damage first h = sym (first_from 0 (length area) first (omega arith) (λ k below. absurd (omega arith)) h)
