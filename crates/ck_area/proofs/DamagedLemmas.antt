-- The first slot that breaks a rule, slot by slot.
use Rattle.std.proofs.Common.{◌≡◌, ℕ, zero, suc, ◌+◌, ◌<◌, ◌≤◌, true, false, nat_lt, Some, if◌then◌else◌, refl, ap, ◌∙◌, arith}
use Rattle.std.proofs.lemmas.Bool.Decides.{nat_tests}
use Rattle.ck_area.specs.Area.{Area}
use Rattle.ck_area.specs.Damage.{breaks, damaged_from}

module _ (blocks records : ℕ) (area : Area) where
  stays : (slot left : ℕ) → breaks blocks records area slot ≡ false → damaged_from blocks records area slot (suc left) ≡ damaged_from blocks records area (suc slot) left
  stays slot left kept = ap (λ b. if b then Some slot else damaged_from blocks records area (suc slot) left) kept

  first_from : (slot left k : ℕ) → slot ≤ k → k < slot + left → ((j : ℕ) → slot ≤ j → j < k → breaks blocks records area j ≡ false) → breaks blocks records area k ≡ true → damaged_from blocks records area slot left ≡ Some k
  first_from slot zero k low high kept broken = absurd (omega (arith, low, high))
  first_from slot (suc left) k low high kept broken =
      elim (nat_lt slot k) as (λ b. nat_lt slot k ≡ b → damaged_from blocks records area slot (suc left) ≡ Some k) [
        | true ↦ λ is. let less : slot < k = grind (arith, nat_tests) in
            stays slot left (kept slot (omega arith) less)
            ∙ first_from (suc slot) left k (omega (arith, less)) (omega (arith, high)) (λ j above below. kept j (omega (arith, above)) below) broken
        | false ↦ λ is. let same : slot ≡ k = grind (arith, nat_tests) in
            ap (λ n. if breaks blocks records area n then Some n else damaged_from blocks records area (suc n) left) same
            ∙ ap (λ b. if b then Some k else damaged_from blocks records area (suc k) left) broken
      ] refl
