-- How often numbers stand in lists, after an edit.
use Rattle.std.proofs.Common.{◌≡◌, ℕ, suc, ◌+◌, ◌<◌, ◌≤◌, Bool, true, false, cond, List, [], ◌∷◌, ◌++◌, take, drop, drop-cons, length, get_or, nat_eq, nat_lt, refl, sym, ap, ◌∙◌, arith, inl, inr}
use Rattle.std.specs.List.{insert, remove}
use Rattle.std.proofs.lemmas.List.{take-append-drop}
use Rattle.std.proofs.lemmas.Bool.{cases_lt}
use Rattle.std.proofs.lemmas.Bool.Decides.{nat_tests}
use Rattle.ck_slots.specs.Arranged.{times, StandOnce}

abbrev pub one : ℕ → ℕ → ℕ
one n number = cond (nat_eq n number) 1 0

pub times-append : (number : ℕ) (xs ys : List ℕ) → times number (xs ++ ys) ≡ times number xs + times number ys
times-append number [] ys = omega arith
times-append number (n ∷ xs) ys = let rest = times-append number xs ys in omega arith

-- the parts of a list round one of its elements
around : (xs : List ℕ) (at : ℕ) → at < length xs → take at xs ++ get_or xs at 0 ∷ drop (suc at) xs ≡ xs
around xs at within = ap (λ ys. take at xs ++ ys) (sym (drop-cons xs at 0 within)) ∙ take-append-drop at xs

pub times-insert : (number n : ℕ) (xs : List ℕ) (at : ℕ) → times number (insert xs at n) ≡ one n number + times number xs
times-insert number n xs at =
    let parts = times-append number (take at xs) (n ∷ drop at xs) in
    let whole = ap (times number) (sym (take-append-drop at xs)) ∙ times-append number (take at xs) (drop at xs) in
    omega (arith, parts, whole)

pub times-remove : (number : ℕ) (xs : List ℕ) (at : ℕ) → at < length xs → one (get_or xs at 0) number + times number (remove xs at) ≡ times number xs
times-remove number xs at within =
    let parts = times-append number (take at xs) (drop (suc at) xs) in
    let whole = ap (times number) (sym (around xs at within)) ∙ times-append number (take at xs) (get_or xs at 0 ∷ drop (suc at) xs) in
    omega (arith, parts, whole)

pub one_itself : (n : ℕ) → one n n ≡ 1
one_itself n = let same : nat_eq n n ≡ true = grind (arith, nat_tests) in ap (λ b. cond b 1 0) same

pub times_some : (xs : List ℕ) (at : ℕ) → at < length xs → 1 ≤ times (get_or xs at 0) xs
times_some xs at within = omega (arith, times-remove (get_or xs at 0) xs at within, one_itself (get_or xs at 0))

below_of : (b : Bool) (n count : ℕ) → nat_lt n count ≡ b → 1 ≤ cond b 1 0 → n < count
below_of true n count p h = grind (arith, nat_tests)
below_of false n count p h = absurd (omega arith)

-- the numbers of both lists are below the count
pub in_range : (count : ℕ) (order free : List ℕ) → StandOnce count order free → (at : ℕ) → at < length order → get_or order at 0 < count
in_range count order free once at within = below_of _ (get_or order at 0) count refl (omega (arith, once (get_or order at 0), times_some order at within))

pub free_in_range : (count : ℕ) (order free : List ℕ) → StandOnce count order free → (at : ℕ) → at < length free → get_or free at 0 < count
free_in_range count order free once at within = below_of _ (get_or free at 0) count refl (omega (arith, once (get_or free at 0), times_some free at within))

at_most_one : (b : Bool) → cond b 1 0 ≤ 1
at_most_one true = omega arith
at_most_one false = omega arith

-- no number stands twice among those in order
pub never_twice : (count : ℕ) (order free : List ℕ) → StandOnce count order free → (number : ℕ) → times number order ≤ 1
never_twice count order free once number = omega (arith, once number, at_most_one (nat_lt number count))

-- a free number isn't in order
pub free_is_apart : (count : ℕ) (order free rest : List ℕ) (number : ℕ) → StandOnce count order free → free ≡ rest ++ number ∷ [] → times number order ≡ 0
free_is_apart count order free rest number once is =
    let parts = ap (times number) is ∙ times-append number rest (number ∷ []) in
    omega (arith, once number, at_most_one (nat_lt number count), parts, one_itself number)

pub free_is_below : (count : ℕ) (order free rest : List ℕ) (number : ℕ) → StandOnce count order free → free ≡ rest ++ number ∷ [] → number < count
free_is_below count order free rest number once is =
    let parts = ap (times number) is ∙ times-append number rest (number ∷ []) in
    below_of _ number count refl (omega (arith, once number, parts, one_itself number))

-- ---- the edits

one_below : (count k : ℕ) → k < count → one count k + cond (nat_lt k count) 1 0 ≡ cond (nat_lt k (count + 1)) 1 0
one_below count k lt =
    let a : nat_eq count k ≡ false = grind (arith, nat_tests) in
    let b : nat_lt k count ≡ true = grind (arith, nat_tests) in
    let c : nat_lt k (count + 1) ≡ true = grind (arith, nat_tests) in
    ap (λ t. cond t 1 0 + cond (nat_lt k count) 1 0) a ∙ ap (λ t. 0 + cond t 1 0) b ∙ sym (ap (λ t. cond t 1 0) c)

one_at : (count k : ℕ) → k ≡ count → one count k + cond (nat_lt k count) 1 0 ≡ cond (nat_lt k (count + 1)) 1 0
one_at count k same =
    let a : nat_eq count k ≡ true = grind (arith, nat_tests) in
    let b : nat_lt k count ≡ false = grind (arith, nat_tests) in
    let c : nat_lt k (count + 1) ≡ true = grind (arith, nat_tests) in
    ap (λ t. cond t 1 0 + cond (nat_lt k count) 1 0) a ∙ ap (λ t. 1 + cond t 1 0) b ∙ sym (ap (λ t. cond t 1 0) c)

one_above : (count k : ℕ) → count < k → one count k + cond (nat_lt k count) 1 0 ≡ cond (nat_lt k (count + 1)) 1 0
one_above count k gt =
    let a : nat_eq count k ≡ false = grind (arith, nat_tests) in
    let b : nat_lt k count ≡ false = grind (arith, nat_tests) in
    let c : nat_lt k (count + 1) ≡ false = grind (arith, nat_tests) in
    ap (λ t. cond t 1 0 + cond (nat_lt k count) 1 0) a ∙ ap (λ t. 0 + cond t 1 0) b ∙ sym (ap (λ t. cond t 1 0) c)

one_more : (count k : ℕ) → one count k + cond (nat_lt k count) 1 0 ≡ cond (nat_lt k (count + 1)) 1 0
one_more count k = elim (cases_lt k count) [
  | inl lt ↦ one_below count k lt
  | inr ge ↦ elim (cases_lt count k) [
    | inl gt ↦ one_above count k gt
    | inr le ↦ one_at count k (omega arith)
  ]
]

-- the last free number goes into the order
pub once_taken : (count : ℕ) (order free rest : List ℕ) (number at : ℕ) → StandOnce count order free → free ≡ rest ++ number ∷ [] → StandOnce count (insert order at number) rest
once_taken count order free rest number at once is k =
    let parts = ap (times k) is ∙ times-append k rest (number ∷ []) in
    omega (arith, once k, parts, times-insert k number order at)

-- the count as a new number goes into the order
pub once_new : (count : ℕ) (order free : List ℕ) (at : ℕ) → StandOnce count order free → StandOnce (count + 1) (insert order at count) free
once_new count order free at once k =
    let more : one count k + cond (nat_lt k count) 1 0 ≡ cond (nat_lt k (count + 1)) 1 0 = one_more count k in
    omega (arith, once k, times-insert k count order at, more)

-- a number of the order becomes free
pub once_freed : (count : ℕ) (order free : List ℕ) (at : ℕ) → at < length order → StandOnce count order free → StandOnce count (remove order at) (free ++ get_or order at 0 ∷ [])
once_freed count order free at within once k =
    omega (arith, once k, times-remove k order at within, times-append k free (get_or order at 0 ∷ []))
