-- The words of a line, one after another.
use Rattle.std.proofs.Common.{◌≡◌, ℕ, suc, ◌+◌, ◌<◌, ◌≤◌, Bool, true, false, cond, not, List, [], ◌∷◌, ◌++◌, length, take, drop, filter, map, if◌then◌else◌, nat_lt, length-take-le, length-drop, append_assoc, refl, sym, ap, subst, ◌∙◌, arith}
use Rattle.std.specs.Prelude.{slice_range}
use Rattle.std.proofs.lemmas.List.{map-append, append-nil}
use Rattle.std.proofs.lemmas.List.Elements.{All-push, All-weaker}
use Rattle.std.proofs.lemmas.List.Quantifiers.{all_pairs_push}
use Rattle.std.proofs.lemmas.Bool.Decides.{nat_tests}
use Rattle.std.specs.List.{slice_split, position_or_len, onto_first, All, AllByRecursion, AllPairs}
use Rattle.std.proofs.lemmas.List.Splits.{slice_split-cons_yes, slice_split-cons_no}
use lib.Seq.{drop-drop}
use Rattle.ck_text.specs.Words.{is_blank, words_of, word_between}

-- one word, if it isn't empty
abbrev pub one_word : List ℕ → List (List ℕ)
one_word word = if nat_lt 0 (length word) then word ∷ [] else []

-- the part before the first blank, and the others
pub record Parts (xs : List ℕ) : Type 0 where
  pub rest : List (List ℕ)
  pub split : slice_split is_blank xs ≡ take (position_or_len is_blank xs) xs ∷ rest
  pub words : filter (λ part. nat_lt 0 (length part)) rest ≡ words_of (drop (position_or_len is_blank xs + 1) xs)

parts_after : (x : ℕ) (xs : List ℕ) (at : ℕ) → position_or_len is_blank (x ∷ xs) ≡ at →
    (rest : List (List ℕ)) → slice_split is_blank (x ∷ xs) ≡ take at (x ∷ xs) ∷ rest →
    filter (λ part. nat_lt 0 (length part)) rest ≡ words_of (drop (at + 1) (x ∷ xs)) → Parts (x ∷ xs)
parts_after x xs at is rest split words = record {
  rest = rest;
  split = split ∙ ap (λ n. take n (x ∷ xs) ∷ rest) (sym is);
  words = words ∙ ap (λ n. words_of (drop (n + 1) (x ∷ xs))) (sym is);
}

suc_is : (n : ℕ) → 1 + n ≡ suc n
suc_is n = omega arith

pub parts_of : (xs : List ℕ) → Parts xs
parts_of [] = record { rest = []; split = refl; words = refl }
parts_of (x ∷ xs) =
    let below = parts_of xs in
    let n = position_or_len is_blank xs in
    elim (is_blank x) as (λ b. is_blank x ≡ b → Parts (x ∷ xs)) [
      | true ↦ λ e. parts_after x xs 0 (ap (λ b. cond (not b) (1 + n) 0) e) (slice_split is_blank xs) (slice_split-cons_yes is_blank x xs e) refl
      | false ↦ λ e. parts_after x xs (suc n) (ap (λ b. cond (not b) (1 + n) 0) e ∙ suc_is n) below.rest
          (slice_split-cons_no is_blank x xs e ∙ ap (onto_first x) below.split)
          (below.words ∙ ap (λ m. words_of (drop m (x ∷ xs))) (same n))
    ] refl
  where
    same : (n : ℕ) → suc (n + 1) ≡ suc n + 1
    same n = omega arith

one_or_none : (b : Bool) (word : List ℕ) (words : List (List ℕ)) → cond b (word ∷ words) words ≡ cond b (word ∷ []) [] ++ words
one_or_none true word words = refl
one_or_none false word words = refl

-- the first word, if the line doesn't begin with a blank, and then the others
pub words_first : (xs : List ℕ) → words_of xs ≡ one_word (take (position_or_len is_blank xs) xs) ++ words_of (drop (position_or_len is_blank xs + 1) xs)
words_first xs =
    let parts = parts_of xs in
    let first = take (position_or_len is_blank xs) xs in
    ap (filter (λ part. nat_lt 0 (length part))) parts.split
    ∙ one_or_none (nat_lt 0 (length first)) first (filter (λ part. nat_lt 0 (length part)) parts.rest)
    ∙ ap (λ words. one_word first ++ words) parts.words

-- the words at these places
abbrev pub words_at : List ℕ → List (ℕ × ℕ) → List (List ℕ)
words_at line places = map (λ word. slice_range line word.0 word.1) places

same_test : (at n m : ℕ) → m ≡ n → nat_lt at (at + n) ≡ nat_lt 0 m
same_test at n m e = grind (arith, nat_tests, e)

range_is : (line : List ℕ) (at n : ℕ) → slice_range line at (at + n) ≡ take n (drop at line)
range_is line at n = ap (λ k. take k (drop at line)) (omega arith)

here_is : (line : List ℕ) (at n : ℕ) → at + n ≤ length line → words_at line (word_between at (at + n)) ≡ one_word (take n (drop at line))
here_is line at n within =
    let len : length (take n (drop at line)) ≡ n = length-take-le n (drop at line) (simp length-drop (omega arith)) in
    step (nat_lt at (at + n)) (nat_lt 0 (length (take n (drop at line)))) (same_test at n _ len)
  where
    step : (a b : Bool) → a ≡ b → words_at line (cond a ((at, at + n) ∷ []) []) ≡ cond b (take n (drop at line) ∷ []) []
    step true true e = ap (λ word. word ∷ []) (range_is line at n)
    step true false e = cc
    step false true e = cc
    step false false e = refl

-- one word more at the places that are found
pub next_found : (line : List ℕ) (places : List (ℕ × ℕ)) (at end : ℕ) → end ≡ at + position_or_len is_blank (drop at line) → end ≤ length line →
    words_at line places ++ words_of (drop at line) ≡ words_of line → words_at line (places ++ word_between at end) ++ words_of (drop (end + 1) line) ≡ words_of line
next_found line places at end is within found =
    let n = position_or_len is_blank (drop at line) in
    let here = here_is line at n (omega (arith, is)) in
    let rest : drop (n + 1) (drop at line) ≡ drop (at + n + 1) line = drop_drop_is (n + 1) at line (at + n + 1) (omega arith) in
    let all = sym found ∙ ap (λ words. words_at line places ++ words) (words_first (drop at line) ∙ (λ i. sym here i ++ words_of (rest i))) in
    sym (all ∙ sym (append_assoc (words_at line places) (words_at line (word_between at (at + n))) (words_of (drop (at + n + 1) line)))
    ∙ (λ i. sym (map-append (λ (word : ℕ × ℕ). slice_range line word.0 word.1) places (word_between at (at + n))) i ++ words_of (drop (at + n + 1) line))
    ∙ ap (λ e. words_at line (places ++ word_between at e) ++ words_of (drop (e + 1) line)) (sym is))
  where
    drop_drop_is : (a b : ℕ) (xs : List ℕ) (c : ℕ) → c ≡ b + a → drop a (drop b xs) ≡ drop c xs
    drop_drop_is a b xs c e = drop-drop a b xs ∙ ap (λ n. drop n xs) (omega (arith, e))

-- each place is a word's, within the line
abbrev pub AreWithin : List ℕ → List (ℕ × ℕ) → Type 0
AreWithin line places = AllByRecursion (λ word. (word.0 < word.1) × (word.1 ≤ length line)) places

pub next_within : (line : List ℕ) (places : List (ℕ × ℕ)) (at end : ℕ) → end ≤ length line → AreWithin line places → AreWithin line (places ++ word_between at end)
next_within line [] at end within h =
    elim (nat_lt at end) as (λ b. nat_lt at end ≡ b → AreWithin line (cond b ((at, end) ∷ []) [])) [
      | true ↦ λ e. let lt : at < end = grind (arith, nat_tests, e) in ((lt, within), tt)
      | false ↦ λ e. tt
    ] refl
next_within line (place ∷ places) at end within h = (h.0, next_within line places at end within h.1)

-- each place ends before this one
abbrev pub AreBefore : ℕ → List (ℕ × ℕ) → Type 0
AreBefore at places = All (λ word. word.1 < at) places

-- each place ends before the later ones begin
abbrev pub AreApart : List (ℕ × ℕ) → Type 0
AreApart places = AllPairs (λ earlier later. earlier.1 < later.0) places

pub next_before : (places : List (ℕ × ℕ)) (at end : ℕ) → at ≤ end → AreBefore at places → AreBefore (end + 1) (places ++ word_between at end)
next_before places at end later before =
    let below : AreBefore (end + 1) places = All-weaker (λ (word : ℕ × ℕ). word.1 < at) (λ (word : ℕ × ℕ). word.1 < end + 1) (λ word h. omega (arith, later, h)) places before in
    elim (nat_lt at end) as (λ b. AreBefore (end + 1) (places ++ cond b ((at, end) ∷ []) [])) [
      | true ↦ All-push (λ (word : ℕ × ℕ). word.1 < end + 1) places (at, end) below (omega arith)
      | false ↦ subst (AreBefore (end + 1)) (sym (append-nil places)) below
    ]

pub next_apart : (places : List (ℕ × ℕ)) (at end : ℕ) → AreBefore at places → AreApart places → AreApart (places ++ word_between at end)
next_apart places at end before apart =
    elim (nat_lt at end) as (λ b. AreApart (places ++ cond b ((at, end) ∷ []) [])) [
      | true ↦ all_pairs_push (λ (earlier later : ℕ × ℕ). earlier.1 < later.0) places (at, end) apart before
      | false ↦ subst AreApart (sym (append-nil places)) apart
    ]
