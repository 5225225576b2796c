-- The set of the numbers that pass a test, and what a changed test makes of the blocks' states.
use Rattle.std.proofs.Common.{◌≡◌, ℕ, zero, suc, ◌<◌, ◌==◌, ◌||◌, ◌&&◌, nat_lt, Bool, true, false, not, cond, inl, inr, List, refl, sym, ap, ◌∙◌, arith}
use Rattle.std.specs.Ordering.{nat_cmp}
use Rattle.std.specs.Cmp.{nat_cmp_total}
use Rattle.std.specs.List.{list_any, All}
use Rattle.std.specs.FinSet as set
use Rattle.std.specs.FinSet.{contains-empty, contains-from_list_nat, len-empty, len-insert}
use Rattle.std.proofs.lemmas.Bool.{cases_eq, cases_lt, cases_Bool, eq-eqb, ne_eqb, lt-ltb, le-ltb}
use Rattle.std.proofs.lemmas.List.Elements.{All-weaker}
use Rattle.std.proofs.lemmas.List.Folds.{list_any_none}
use Rattle.ck_alloc.specs.Bits.{count_below}
use Rattle.ck_alloc.specs.Members.{members_below}
use Rattle.ck_alloc.proofs.BlockLaws.{contains-with, contains-without, same_numbers}

-- ---- sets of the numbers that pass a test

-- one place more of a test
one_place : (test : ℕ → Bool) (n k : ℕ) → test n ≡ true → ((k == n) || (nat_lt k n && test k)) ≡ (nat_lt k (suc n) && test k)
one_place test n k passed =
    elim (cases_eq k n) [
      | inl here ↦ rw (here, eq-eqb n n refl, lt-ltb n (suc n) (omega arith), passed) refl
      | inr other ↦ elim (cases_lt k n) [
        | inl below ↦ rw (ne_eqb k n other, lt-ltb k n below, lt-ltb k (suc n) (omega arith)) refl
        | inr above ↦ rw (ne_eqb k n other, le-ltb k n above, le-ltb k (suc n) (omega arith)) refl
      ]
    ]

no_place : (test : ℕ → Bool) (n k : ℕ) → test n ≡ false → (nat_lt k n && test k) ≡ (nat_lt k (suc n) && test k)
no_place test n k failed =
    elim (cases_eq k n) [
      | inl here ↦ rw (here, le-ltb n n (omega arith), lt-ltb n (suc n) (omega arith), failed) refl
      | inr other ↦ elim (cases_lt k n) [
        | inl below ↦ rw (lt-ltb k n below, lt-ltb k (suc n) (omega arith)) refl
        | inr above ↦ rw (le-ltb k n above, le-ltb k (suc n) (omega arith)) refl
      ]
    ]

pub contains-members_below : (test : ℕ → Bool) (n k : ℕ) → set.contains (members_below test n) k ≡ (nat_lt k n && test k)
unfolding members_below
contains-members_below test zero k = contains-empty nat_cmp k ∙ sym (ap (λ b. b && test k) (le-ltb k 0 (omega arith)))
contains-members_below test (suc n) k =
    let below = contains-members_below test n k in
    elim (cases_Bool (test n)) [
      | inl passed ↦ ap (λ b. set.contains (cond b (set.insert (members_below test n) n) (members_below test n)) k) passed
          ∙ contains-with (members_below test n) n k ∙ ap (λ b. (k == n) || b) below ∙ one_place test n k passed
      | inr failed ↦ ap (λ b. set.contains (cond b (set.insert (members_below test n) n) (members_below test n)) k) failed
          ∙ below ∙ no_place test n k failed
    ]

pub len-members_below : (test : ℕ → Bool) (n : ℕ) → set.len (members_below test n) ≡ count_below test n
unfolding members_below
len-members_below test zero = len-empty nat_cmp
len-members_below test (suc n) =
    let below = len-members_below test n in
    let absent : set.contains (members_below test n) n ≡ false = contains-members_below test n n ∙ ap (λ b. b && test n) (le-ltb n n (omega arith)) in
    elim (cases_Bool (test n)) [
      | inl passed ↦ rw (passed, len-insert nat_cmp_total (members_below test n) n, absent, below) refl
      | inr failed ↦ rw (failed, below) (omega arith)
    ]

-- a test of the numbers below n
abbrev below : ℕ → ℕ → Bool → Bool
below n k b = nat_lt k n && b

pub members_below-same : (p q : ℕ → Bool) (n : ℕ) → ((k : ℕ) → k < n → p k ≡ q k) → members_below p n ≡ members_below q n
members_below-same p q n same =
    let step : (k : ℕ) → below n k (p k) ≡ below n k (q k) = λ k. elim (cases_lt k n) [
      | inl inside ↦ ap (below n k) (same k inside)
      | inr outside ↦ rw (le-ltb k n outside) refl
    ] in
    same_numbers _ _ (λ k. contains-members_below p n k ∙ step k ∙ sym (contains-members_below q n k))

pub members_below-insert : (test more : ℕ → Bool) (at n : ℕ) → at < n → ((k : ℕ) → more k ≡ ((k == at) || test k)) → members_below more n ≡ set.insert (members_below test n) at
members_below-insert test more at n within one =
    let step : (k : ℕ) → below n k ((k == at) || test k) ≡ ((k == at) || below n k (test k)) = λ k. elim (cases_eq k at) [
      | inl here ↦ rw (here, eq-eqb at at refl, lt-ltb at n within) refl
      | inr other ↦ rw (ne_eqb k at other) refl
    ] in
    same_numbers _ _ (λ k. contains-members_below more n k ∙ ap (below n k) (one k) ∙ step k
    ∙ sym (contains-with (members_below test n) at k ∙ ap (λ b. (k == at) || b) (contains-members_below test n k)))

nowhere : (b : Bool) → (b && false) ≡ false
nowhere true = refl
nowhere false = refl

pub members_below-remove : (test fewer : ℕ → Bool) (at n : ℕ) → ((k : ℕ) → fewer k ≡ (not (k == at) && test k)) → members_below fewer n ≡ set.remove (members_below test n) at
members_below-remove test fewer at n one =
    let step : (k : ℕ) → below n k (not (k == at) && test k) ≡ (not (k == at) && below n k (test k)) = λ k. elim (cases_eq k at) [
      | inl here ↦ rw (eq-eqb k at here) (nowhere (nat_lt k n))
      | inr other ↦ rw (ne_eqb k at other) refl
    ] in
    same_numbers _ _ (λ k. contains-members_below fewer n k ∙ ap (below n k) (one k) ∙ step k
    ∙ sym (contains-without (members_below test n) at k ∙ ap (λ b. not (k == at) && b) (contains-members_below test n k)))

pub members_below-none : (test : ℕ → Bool) (n : ℕ) → ((k : ℕ) → test k ≡ false) → members_below test n ≡ set.empty
members_below-none test n none =
    same_numbers _ _ (λ k. contains-members_below test n k ∙ ap (below n k) (none k) ∙ nowhere (nat_lt k n) ∙ sym (contains-empty nat_cmp k))

-- the set of a list of numbers below n
pub members_below-list : (test : ℕ → Bool) (numbers : List ℕ) (n : ℕ) → All (λ k. k < n) numbers → ((k : ℕ) → k < n → test k ≡ list_any (λ m. m == k) numbers) → members_below test n ≡ set.from_list numbers
members_below-list test numbers n within same =
    let listed : ℕ → Bool = λ k. list_any (λ m. m == k) numbers in
    let step : (k : ℕ) → below n k (test k) ≡ listed k = λ k. elim (cases_lt k n) [
      | inl inside ↦ rw (lt-ltb k n inside) (same k inside)
      | inr outside ↦ rw (le-ltb k n outside) (sym (list_any_none (λ m. m == k) numbers (All-weaker (λ m. m < n) (λ m. (m == k) ≡ false) (λ m h. ne_eqb m k (λ e. absurd (omega (arith, e, h, outside)))) numbers within)))
    ] in
    same_numbers _ _ (λ k. contains-members_below test n k ∙ step k ∙ sym (contains-from_list_nat numbers k))
