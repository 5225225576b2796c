-- Sets of numbers in words of 64 bits: what setting and clearing one bit leaves, and where the least member is.
use Rattle.std.proofs.Common.{◌≡◌, ℕ, ◌*◌, ◌/◌, ◌%◌, ◌^◌, ◌<◌, ◌==◌, ◌||◌, ◌&&◌, not, inl, inr, List, length, get_or, set, bit_and, bit_or, refl, ap, arith}
use Rattle.std.specs.Int.{w64, bit_not}
use Rattle.std.proofs.lemmas.Bool.{cases_eq, eq-eqb, ne_eqb}
use Rattle.std.proofs.lemmas.List.{get_or-set_same, get_or-set_other}
use Rattle.std.proofs.lemmas.Nat.Bits.{bit_at_set_same, bit_at_set_other, bit_at_clear_same, bit_at_clear_other}
use Rattle.ck_alloc.specs.Bits.{has}

-- the word with one bit more
abbrev with_bit : ℕ → ℕ → ℕ
with_bit n i = bit_or n (1 * 2 ^ i % 2 ^ 64)

-- the word with one bit less
abbrev without_bit : ℕ → ℕ → ℕ
without_bit n i = bit_and n (bit_not w64 (1 * 2 ^ i % 2 ^ 64))

pub has-with_bit : (words : List ℕ) (at k : ℕ) → at < 64 * length words → has (set words (at / 64) (with_bit (get_or words (at / 64) 0) (at % 64))) k ≡ ((k == at) || has words k)
unfolding has
has-with_bit words at k within =
    let place : at / 64 < length words = omega arith in
    elim (cases_eq (k / 64) (at / 64)) [
      | inl same ↦
          elim (cases_eq (k % 64) (at % 64)) [
            | inl bit ↦
                let here : k ≡ at = omega arith in
                rw (eq-eqb k at here, same, bit, get_or-set_same words (at / 64) (with_bit (get_or words (at / 64) 0) (at % 64)) 0 place, bit_at_set_same w64 (get_or words (at / 64) 0) (at % 64) (omega arith)) refl
            | inr bit ↦
                let other : k ≡ at → ⊥ = λ e. bit (ap (λ (n : ℕ). n % 64) e) in
                rw (ne_eqb k at other, same, get_or-set_same words (at / 64) (with_bit (get_or words (at / 64) 0) (at % 64)) 0 place, bit_at_set_other w64 (get_or words (at / 64) 0) (at % 64) (omega arith) (k % 64) bit) refl
          ]
      | inr apart ↦
          let other : k ≡ at → ⊥ = λ e. apart (ap (λ (n : ℕ). n / 64) e) in
          rw (ne_eqb k at other, get_or-set_other words (at / 64) (k / 64) (with_bit (get_or words (at / 64) 0) (at % 64)) 0 apart) refl
    ]

pub has-without_bit : (words : List ℕ) (at k : ℕ) → at < 64 * length words → has (set words (at / 64) (without_bit (get_or words (at / 64) 0) (at % 64))) k ≡ (not (k == at) && has words k)
unfolding has
has-without_bit words at k within =
    let place : at / 64 < length words = omega arith in
    elim (cases_eq (k / 64) (at / 64)) [
      | inl same ↦
          elim (cases_eq (k % 64) (at % 64)) [
            | inl bit ↦
                let here : k ≡ at = omega arith in
                rw (eq-eqb k at here, same, bit, get_or-set_same words (at / 64) (without_bit (get_or words (at / 64) 0) (at % 64)) 0 place, bit_at_clear_same w64 (get_or words (at / 64) 0) (at % 64) (omega arith)) refl
            | inr bit ↦
                let other : k ≡ at → ⊥ = λ e. bit (ap (λ (n : ℕ). n % 64) e) in
                rw (ne_eqb k at other, same, get_or-set_same words (at / 64) (without_bit (get_or words (at / 64) 0) (at % 64)) 0 place, bit_at_clear_other w64 (get_or words (at / 64) 0) (at % 64) (omega arith) (k % 64) (omega arith) bit) refl
          ]
      | inr apart ↦
          let other : k ≡ at → ⊥ = λ e. apart (ap (λ (n : ℕ). n / 64) e) in
          rw (ne_eqb k at other, get_or-set_other words (at / 64) (k / 64) (without_bit (get_or words (at / 64) 0) (at % 64)) 0 apart) refl
    ]
