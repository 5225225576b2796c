-- A bit for each word that has a member: after one bit more or less, after a merge, and the way to the least member.
use Rattle.std.proofs.Common.{◌≡◌, ℕ, zero, suc, ◌+◌, ◌*◌, ◌/◌, ◌%◌, ◌^◌, ◌<◌, ◌≤◌, ◌==◌, ◌||◌, ◌&&◌, ◌≢◌, max, true, false, not, inl, inr, List, length, get_or, replicate, bit_or, refl, sym, ap, ◌∙◌, arith}
use Rattle.std.specs.Int.{w64, bit_at, trailing_zeros}
use Rattle.std.proofs.lemmas.Bool.{cases_eq, cases_lt, eq-eqb, ne_eqb, eqb-true, not-false, false_from_ne_true, false≢true}
use Rattle.std.proofs.lemmas.List.{get_or-replicate, get_or_past, length-replicate}
use Rattle.std.proofs.lemmas.Nat.{le_or_l, le_or_r}
use Rattle.std.proofs.lemmas.Nat.Bits.{bit_at-zero, bit_at_or, bit_at-lt, bit_at-trailing_zeros}
use Rattle.ck_alloc.specs.Bits.{has, Marks}

-- a word that is 0 has no member
pub has-zero_word : (words : List ℕ) (k : ℕ) → get_or words (k / 64) 0 ≡ 0 → has words k ≡ false
unfolding has
has-zero_word words k empty = rw (empty, bit_at-zero (k % 64)) refl

-- the word of a member isn't 0
pub member_word : (words : List ℕ) (k : ℕ) → has words k ≡ true → 0 < get_or words (k / 64) 0
member_word words k member =
    elim (cases_eq (get_or words (k / 64) 0) 0) [
      | inl empty ↦ absurd (false≢true (sym (has-zero_word words k empty) ∙ member))
      | inr full ↦ omega arith
    ]

-- words without a member
abbrev none : ℕ → List ℕ
none n = replicate n 0

pub get_or-zeros : (n k : ℕ) → get_or (none n) k 0 ≡ 0
get_or-zeros n k =
    elim (cases_lt k n) [
      | inl lt ↦ get_or-replicate n k 0 0 lt
      | inr le ↦ get_or_past (replicate n 0) k 0 (omega (arith, length-replicate {A = ℕ}))
    ]

pub has-zeros : (n k : ℕ) → has (replicate n 0) k ≡ false
has-zeros n k = has-zero_word (replicate n 0) k (get_or-zeros n (k / 64))

pub Marks-zeros : (m n : ℕ) → Marks (replicate m 0) (replicate n 0)
Marks-zeros m n word = has-zeros m word ∙ sym (ap (λ v. not (v == 0)) (get_or-zeros n word))

-- one of two bits, or both
max_is_one : (a b : ℕ) → a < 2 → b < 2 → (max a b == 1) ≡ ((a == 1) || (b == 1))
max_is_one zero zero _ _ = refl
max_is_one zero (suc zero) _ _ = refl
max_is_one (suc zero) zero _ _ = refl
max_is_one (suc zero) (suc zero) _ _ = refl
max_is_one (suc (suc a)) b high _ = absurd (omega arith)
max_is_one a (suc (suc b)) _ high = absurd (omega arith)

-- the members of merged words
pub has-merged : (merged words others : List ℕ) → ((word : ℕ) → get_or merged word 0 ≡ bit_or (get_or words word 0) (get_or others word 0)) → (k : ℕ) → has merged k ≡ (has words k || has others k)
unfolding has
has-merged merged words others each k =
    rw (each (k / 64), bit_at_or) (max_is_one _ _ (bit_at-lt _ _) (bit_at-lt _ _))

-- words merged are empty where both are
empty_merged : (a b : ℕ) → not (bit_or a b == 0) ≡ (not (a == 0) || not (b == 0))
empty_merged a b =
    elim (cases_eq a 0) [
      | inl a_empty ↦
          elim (cases_eq b 0) [
            | inl b_empty ↦ rw (a_empty, b_empty) refl
            | inr b_full ↦
                let full : bit_or a b ≡ 0 → ⊥ = λ e. b_full (omega (arith, le_or_r a b, e)) in
                rw (ne_eqb (bit_or a b) 0 full, eq-eqb a 0 a_empty, ne_eqb b 0 b_full) refl
          ]
      | inr a_full ↦
          let full : bit_or a b ≡ 0 → ⊥ = λ e. a_full (omega (arith, le_or_l a b, e)) in
          rw (ne_eqb (bit_or a b) 0 full, ne_eqb a 0 a_full) refl
    ]

pub Marks-merged : (marks groups others words more merged : List ℕ) → Marks groups words → Marks others more → ((k : ℕ) → has marks k ≡ (has groups k || has others k)) → ((word : ℕ) → get_or merged word 0 ≡ bit_or (get_or words word 0) (get_or more word 0)) → Marks marks merged
Marks-merged marks groups others words more merged first second both each word =
    both word ∙ ap (λ b. b || has others word) (first word) ∙ ap (λ b. not (get_or words word 0 == 0) || b) (second word)
    ∙ sym (ap (λ v. not (v == 0)) (each word) ∙ empty_merged (get_or words word 0) (get_or more word 0))

-- one member more
pub Marks-set_bit : (marks groups words more : List ℕ) (place : ℕ) → Marks groups words → ((k : ℕ) → has marks k ≡ ((k == place) || has groups k)) → ((word : ℕ) → word ≢ place → get_or more word 0 ≡ get_or words word 0) → 0 < get_or more place 0 → Marks marks more
Marks-set_bit marks groups words more place marked set others full word =
    elim (cases_eq word place) [
      | inl here ↦
          let filled : get_or more word 0 ≡ 0 → ⊥ = λ e. absurd (omega (arith, e, full, ap (λ w. get_or more w 0) here)) in
          set word ∙ ap (λ b. b || has groups word) (eq-eqb word place here) ∙ sym (ap not (ne_eqb (get_or more word 0) 0 filled))
      | inr other ↦
          set word ∙ ap (λ b. b || has groups word) (ne_eqb word place other) ∙ marked word ∙ sym (ap (λ v. not (v == 0)) (others word other))
    ]

-- one member less, its word being empty now
pub Marks-emptied : (marks groups words fewer : List ℕ) (place : ℕ) → Marks groups words → ((k : ℕ) → has marks k ≡ (not (k == place) && has groups k)) → ((word : ℕ) → word ≢ place → get_or fewer word 0 ≡ get_or words word 0) → get_or fewer place 0 ≡ 0 → Marks marks fewer
Marks-emptied marks groups words fewer place marked cleared others empty word =
    elim (cases_eq word place) [
      | inl here ↦
          cleared word ∙ ap (λ b. not b && has groups word) (eq-eqb word place here) ∙ sym (ap (λ v. not (v == 0)) (ap (λ w. get_or fewer w 0) here ∙ empty))
      | inr other ↦
          cleared word ∙ ap (λ b. not b && has groups word) (ne_eqb word place other) ∙ marked word ∙ sym (ap (λ v. not (v == 0)) (others word other))
    ]

-- one member less, its word having another one
pub Marks-kept : (groups words fewer : List ℕ) (place : ℕ) → Marks groups words → ((word : ℕ) → word ≢ place → get_or fewer word 0 ≡ get_or words word 0) → 0 < get_or words place 0 → 0 < get_or fewer place 0 → Marks groups fewer
Marks-kept groups words fewer place marked others was full word =
    elim (cases_eq word place) [
      | inl here ↦
          let filled : get_or words word 0 ≡ 0 → ⊥ = λ e. absurd (omega (arith, e, was, ap (λ w. get_or words w 0) here)) in
          let still : get_or fewer word 0 ≡ 0 → ⊥ = λ e. absurd (omega (arith, e, full, ap (λ w. get_or fewer w 0) here)) in
          marked word ∙ ap not (ne_eqb (get_or words word 0) 0 filled) ∙ sym (ap not (ne_eqb (get_or fewer word 0) 0 still))
      | inr other ↦ marked word ∙ sym (ap (λ v. not (v == 0)) (others word other))
    ]

-- ---- the way to the least member

-- the least member stands in the first word that isn't 0
pub first_word_member : (words : List ℕ) (word : ℕ) → 0 < get_or words word 0 → get_or words word 0 < 2 ^ 64 → ((k : ℕ) → k < word → get_or words k 0 ≡ 0)
    → (has words (64 * word + trailing_zeros w64 (get_or words word 0)) ≡ true) × ((k : ℕ) → has words k ≡ true → 64 * word + trailing_zeros w64 (get_or words word 0) ≤ k)
unfolding has
first_word_member words word full fits first =
    let place = trailing_zeros w64 (get_or words word 0) in
    let lowest = bit_at-trailing_zeros w64 (get_or words word 0) full fits in
    let in_word : (64 * word + place) / 64 ≡ word = omega (arith, lowest.0) in
    let in_place : (64 * word + place) % 64 ≡ place = omega (arith, lowest.0) in (
      rw (in_word, in_place, lowest.1) refl,
      λ k member. elim (cases_lt k (64 * word + place)) [
        | inr behind ↦ behind
        | inl before ↦ elim (cases_lt (k / 64) word) [
          | inl earlier ↦ absurd (false≢true (sym (has-zero_word words k (first (k / 64) earlier)) ∙ member))
          | inr same ↦
              let here : k / 64 ≡ word = omega (arith, lowest.0) in
              let lower : k % 64 < place = omega arith in
              absurd (false≢true (sym (ap (λ (b : ℕ). b == 1) (ap (λ (w : ℕ). bit_at (get_or words w 0) (k % 64)) here ∙ lowest.2 (k % 64) lower)) ∙ member))
        ]
      ],
    )

-- a marked word isn't 0, and a word that isn't marked is 0
pub marked_word : (groups words : List ℕ) (word : ℕ) → Marks groups words → has groups word ≡ true → 0 < get_or words word 0
marked_word groups words word marked mark =
    elim (cases_eq (get_or words word 0) 0) [
      | inl empty ↦ absurd (false≢true (sym (marked word ∙ ap (λ v. not (v == 0)) empty) ∙ mark))
      | inr full ↦ omega arith
    ]

pub unmarked_word : (groups words : List ℕ) (word : ℕ) → Marks groups words → has groups word ≡ false → get_or words word 0 ≡ 0
unmarked_word groups words word marked mark = eqb-true _ _ (not-false _ (sym (marked word) ∙ mark))

-- the first marked word is the first that isn't 0
pub first_marked : (groups words : List ℕ) (word : ℕ) → Marks groups words → has groups word ≡ true → ((k : ℕ) → has groups k ≡ true → word ≤ k)
    → (0 < get_or words word 0) × ((k : ℕ) → k < word → get_or words k 0 ≡ 0)
first_marked groups words word marked mark first = (
  marked_word groups words word marked mark,
  λ k before. unmarked_word groups words k marked (false_from_ne_true (has groups k) (λ member. absurd (omega (arith, first k member, before)))),
)

-- a word that isn't 0 is one of the words
pub word_within : (words : List ℕ) (word : ℕ) → 0 < get_or words word 0 → word < length words
word_within words word full =
    elim (cases_lt word (length words)) [
      | inl within ↦ within
      | inr past ↦ absurd (omega (arith, get_or_past words word 0 past))
    ]
