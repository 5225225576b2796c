-- The lines of a text, one after another.
use Rattle.std.proofs.Common.{◌≡◌, ℕ, ◌+◌, ◌-◌, ◌<◌, ◌≤◌, ◌==◌, Bool, true, false, cond, List, [], ◌∷◌, length, take, drop, nat_lt, nat_eq, length-drop, refl, sym, ap, ◌∙◌, arith}
use Rattle.std.specs.Prelude.{slice_range}
use Rattle.std.specs.List.{slice_split, position_or_len}
use Rattle.std.specs.Str.Lines.{lines, lines_of_parts, strip_carriage_return}
use Rattle.std.proofs.lemmas.Bool.Decides.{nat_tests}
use Rattle.std.proofs.lemmas.List.{drop_all}
use Rattle.std.proofs.lemmas.List.Splits.{slice_split_first, slice_split_none, length-slice_split}
use Rattle.std.proofs.lemmas.List.Sums.{fails_before_first}
use lib.Seq.{drop-drop}
use Rattle.ck_script.specs.Steps.{line_at}

abbrev pub is_feed : ℕ → Bool
is_feed byte = byte == 10

more_parts : (part : List ℕ) (parts : List (List ℕ)) → 0 < length parts → lines_of_parts (part ∷ parts) ≡ strip_carriage_return part ∷ lines_of_parts parts
more_parts part [] some = absurd (omega (arith, some))
more_parts part (next ∷ parts) some = refl

last_part : (part : List ℕ) → 0 < length part → lines_of_parts (part ∷ []) ≡ part ∷ []
last_part part some =
    let e : nat_eq (length part) 0 ≡ false = grind (arith, nat_tests, some) in
    ap (λ b. cond b [] (part ∷ [])) e

-- the first line of a text that isn't empty
abbrev pub first_line : List ℕ → List ℕ
first_line text = cond (nat_lt (position_or_len is_feed text) (length text)) (strip_carriage_return (take (position_or_len is_feed text) text)) text

pub lines_first : (text : List ℕ) → 0 < length text → lines text ≡ first_line text ∷ lines (drop (position_or_len is_feed text + 1) text)
lines_first text some =
    let n = position_or_len is_feed text in
    elim (nat_lt n (length text)) as (λ b. nat_lt n (length text) ≡ b → lines text ≡ cond b (strip_carriage_return (take n text)) text ∷ lines (drop (n + 1) text)) [
      | true ↦ λ e. let lt : n < length text = grind (arith, nat_tests, e) in
          let rest : 0 < length (slice_split is_feed (drop (n + 1) text)) = omega (arith, length-slice_split is_feed (drop (n + 1) text)) in
          ap lines_of_parts (slice_split_first is_feed text 0 lt) ∙ more_parts (take n text) (slice_split is_feed (drop (n + 1) text)) rest
      | false ↦ λ e. let ge : length text ≤ n = grind (arith, nat_tests, e) in
          ap lines_of_parts (slice_split_none is_feed text (λ k d l. fails_before_first is_feed text k d (omega (arith, l, ge))))
          ∙ last_part text some ∙ ap (λ rest. text ∷ lines rest) (sym (drop_all (n + 1) text (omega (arith, ge))))
    ] refl

same_test : (n m at len : ℕ) → m ≡ len - at → at < len → nat_lt n m ≡ nat_lt (at + n) len
same_test n m at len e within = grind (arith, nat_tests, e, within)

range_is : (text : List ℕ) (at n : ℕ) → slice_range text at (at + n) ≡ take n (drop at text)
range_is text at n = ap (λ k. take k (drop at text)) (omega arith)

drop_drop_is : (a b : ℕ) (xs : List ℕ) (c : ℕ) → c ≡ b + a → drop a (drop b xs) ≡ drop c xs
drop_drop_is a b xs c e = drop-drop a b xs ∙ ap (λ n. drop n xs) (omega (arith, e))

-- the line that begins here, and then the others
pub next_line : (text : List ℕ) (at end : ℕ) → at < length text → end ≡ at + position_or_len is_feed (drop at text) → lines (drop at text) ≡ line_at text at end ∷ lines (drop (end + 1) text)
next_line text at end within is =
    let n = position_or_len is_feed (drop at text) in
    let some : 0 < length (drop at text) = simp length-drop (omega arith) in
    let test = same_test n (length (drop at text)) at (length text) (length-drop at text) within in
    let rest : drop (n + 1) (drop at text) ≡ drop (at + n + 1) text = drop_drop_is (n + 1) at text (at + n + 1) (omega arith) in
    lines_first (drop at text) some
    ∙ (λ i. cond (test i) (strip_carriage_return (sym (range_is text at n) i)) (drop at text) ∷ lines (rest i))
    ∙ ap (λ e. line_at text at e ∷ lines (drop (e + 1) text)) (sym is)
