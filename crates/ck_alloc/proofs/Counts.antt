-- How many numbers below a limit pass a test, after one more or one fewer does, or those of two tests.
use Rattle.std.proofs.Common.{◌≡◌, ℕ, zero, suc, ◌+◌, ◌<◌, ◌≤◌, ◌==◌, ◌||◌, ◌&&◌, Bool, true, false, not, cond, inl, inr, refl, sym, ap, ◌∙◌, arith}
use Rattle.std.proofs.lemmas.Bool.{cases_eq, cases_Bool, eq-eqb, ne_eqb}
use Rattle.ck_alloc.specs.Bits.{count_below}

-- 1 where the test passes
abbrev one_if : Bool → ℕ
one_if b = cond b 1 0

pub count_below-same : (p q : ℕ → Bool) (n : ℕ) → ((k : ℕ) → k < n → p k ≡ q k) → count_below p n ≡ count_below q n
count_below-same p q zero same = refl
count_below-same p q (suc n) same =
    let rest = count_below-same p q n (λ k h. same k (omega arith)) in
    rw (same n (omega arith), rest) refl

pub count_below-none : (p : ℕ → Bool) (n : ℕ) → ((k : ℕ) → k < n → p k ≡ false) → count_below p n ≡ 0
count_below-none p zero none = refl
count_below-none p (suc n) none =
    let rest = count_below-none p n (λ k h. none k (omega arith)) in
    rw (none n (omega arith), rest) refl

pub count_below-le : (p : ℕ → Bool) (n : ℕ) → count_below p n ≤ n
count_below-le p zero = omega arith
count_below-le p (suc n) =
    let rest = count_below-le p n in
    elim (cases_Bool (p n)) [ inl passed ↦ rw passed (omega (arith, rest)) | inr failed ↦ rw failed (omega (arith, rest)) ]

-- one more number passes
pub count_below-one_more : (p q : ℕ → Bool) (at n : ℕ) → at < n → p at ≡ false → ((k : ℕ) → q k ≡ ((k == at) || p k)) → count_below q n ≡ count_below p n + 1
count_below-one_more p q at zero within absent more = absurd (omega arith)
count_below-one_more p q at (suc n) within absent more =
    elim (cases_eq n at) [
      | inl here ↦
          let below = count_below-same q p n (λ k h. let other : k ≡ at → ⊥ = λ e. absurd (omega (arith, e, here, h)) in more k ∙ ap (λ b. b || p k) (ne_eqb k at other)) in
          let passes : q n ≡ true = more n ∙ ap (λ b. b || p n) (eq-eqb n at here) in
          let failed : p n ≡ false = ap p here ∙ absent in
          rw (passes, failed, below) (omega arith)
      | inr other ↦
          let rest = count_below-one_more p q at n (omega arith) absent more in
          let same : q n ≡ p n = more n ∙ ap (λ b. b || p n) (ne_eqb n at other) in
          rw (same, rest) (omega arith)
    ]

-- one number fewer passes
pub count_below-one_less : (p q : ℕ → Bool) (at n : ℕ) → at < n → p at ≡ true → ((k : ℕ) → q k ≡ (not (k == at) && p k)) → count_below p n ≡ count_below q n + 1
count_below-one_less p q at n within present less =
    count_below-one_more q p at n within (less at ∙ ap (λ b. not b && p at) (eq-eqb at at refl))
    (λ k. elim (cases_eq k at) [
      | inl here ↦ ap p here ∙ present ∙ sym (ap (λ b. b || q k) (eq-eqb k at here))
      | inr other ↦ sym (ap (λ b. b || q k) (ne_eqb k at other) ∙ less k ∙ ap (λ b. not b && p k) (ne_eqb k at other))
    ])

-- a number that passes is counted
pub count_below-some : (p : ℕ → Bool) (at n : ℕ) → at < n → p at ≡ true → 0 < count_below p n
count_below-some p at zero within present = absurd (omega arith)
count_below-some p at (suc n) within present =
    elim (cases_eq n at) [
      | inl here ↦ rw (ap p here ∙ present) (omega arith)
      | inr other ↦
          let rest = count_below-some p at n (omega arith) present in
          omega (arith, rest)
    ]

-- those that pass either of two tests, no number passing both
pub count_below-or : (p q r : ℕ → Bool) (n : ℕ) → ((k : ℕ) → p k ≡ true → q k ≡ false) → ((k : ℕ) → r k ≡ (p k || q k)) → count_below r n ≡ count_below p n + count_below q n
count_below-or p q r zero apart either = refl
count_below-or p q r (suc n) apart either =
    let rest = count_below-or p q r n apart either in
    elim (cases_Bool (p n)) [
      | inl passed ↦
          let other : q n ≡ false = apart n passed in
          let passes : r n ≡ true = either n ∙ ap (λ b. b || q n) passed in
          rw (passed, other, passes, rest) (omega arith)
      | inr failed ↦
          let same : r n ≡ q n = either n ∙ ap (λ b. b || q n) failed in
          rw (failed, same, rest) (omega arith)
    ]

-- those that pass neither of two tests are the others
pub count_below-rest : (p q : ℕ → Bool) (n : ℕ) → ((k : ℕ) → p k ≡ true → q k ≡ false) → count_below p n + count_below (λ k. not (p k || q k)) n + count_below q n ≡ n
count_below-rest p q zero apart = refl
count_below-rest p q (suc n) apart =
    let rest = count_below-rest p q n apart in
    elim (cases_Bool (p n)) [
      | inl passed ↦
          let other : q n ≡ false = apart n passed in
          rw (passed, other) (omega (arith, rest))
      | inr failed ↦
          elim (cases_Bool (q n)) [
            | inl second ↦ rw (failed, second) (omega (arith, rest))
            | inr neither ↦ rw (failed, neither) (omega (arith, rest))
          ]
    ]
