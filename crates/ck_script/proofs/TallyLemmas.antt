-- The sums over the lines of a script.
use Rattle.std.proofs.Common.{◌≡◌, ◌≢◌, ℕ, suc, ◌+◌, ◌≤◌, ◌<◌, Bool, true, false, cond, IsTrue, List, [], ◌∷◌, ◌++◌, length, Some, None, nat_eq, refl, sym, ap, ◌∙◌, arith, length-append}
use Rattle.std.specs.Prelude.{slice_index, slice_set, replicate}
use Rattle.std.specs.List.{cons_option}
use Rattle.std.proofs.Math.ListN.{length-set}
use Rattle.std.proofs.lemmas.List.{get_or-set_same, get_or-set_other, get_or-replicate}
use Rattle.std.proofs.lemmas.List.Sums.{sum_by_push}
use Rattle.std.proofs.lemmas.Bool.Decides.{nat_tests}
use Rattle.ck_script.specs.declared.line.Line.{Line}
use Rattle.ck_script.specs.Limits.{are_within_limits, asked_by, streams_by}
use Rattle.ck_script.specs.Numbered.{numbers_in}
use Rattle.ck_script.specs.Steps.{IsTally}
use Rattle.ck_script.proofs.KeepsLemmas.{numbers_more, limits_are}

numbers_few : (lines : List Line) (actor : ℕ) → length (numbers_in lines actor) ≤ length lines
numbers_few [] actor = omega arith
numbers_few (line ∷ lines) actor = step (nat_eq line.actor actor) (numbers_few lines actor)
  where
    step : (b : Bool) → length (numbers_in lines actor) ≤ length lines → length (cons_option (cond b (Some line.seq) None) (numbers_in lines actor)) ≤ suc (length lines)
    step true h = omega (arith, h)
    step false h = omega (arith, h)

-- an actor's count leaves room
pub count_few : (lines : List Line) (asked streams : ℕ) (counts : List ℕ) (actor : ℕ) → IsTally lines asked streams counts → actor < 65 → slice_index counts actor ≤ 65536
count_few lines asked streams counts actor tally lt =
    let few = numbers_few lines actor in
    let limits = limits_are lines tally.within in
    omega (arith, tally.counts_is actor lt, few, limits.0)

counts_more : (lines : List Line) (line : Line) (counts : List ℕ) (actor : ℕ) → length counts ≡ 65 → line.actor < 65 → slice_index counts line.actor ≡ length (numbers_in lines line.actor) → slice_index counts actor ≡ length (numbers_in lines actor) →
    slice_index (slice_set counts line.actor (slice_index counts line.actor + 1)) actor ≡ length (numbers_in (lines ++ line ∷ []) actor)
counts_more lines line counts actor len within here there =
    elim (nat_eq line.actor actor) as (λ b. nat_eq line.actor actor ≡ b → slice_index (slice_set counts line.actor (slice_index counts line.actor + 1)) actor ≡ length (numbers_in lines actor ++ cond b (line.seq ∷ []) [])) [
      | true ↦ λ e.
          let same : line.actor ≡ actor = grind (arith, nat_tests, e) in
          let lt : line.actor < length counts = omega (arith, within, len) in
          ap (slice_index (slice_set counts line.actor (slice_index counts line.actor + 1))) (sym same)
          ∙ get_or-set_same counts line.actor (slice_index counts line.actor + 1) 0 lt
          ∙ ap (λ n. n + 1) (ap (slice_index counts) same ∙ there)
          ∙ sym (one_longer (numbers_in lines actor) line.seq)
      | false ↦ λ e.
          let other : actor ≢ line.actor = λ same. differ (sym same) e in
          get_or-set_other counts line.actor actor (slice_index counts line.actor + 1) 0 other ∙ there ∙ sym (none_longer (numbers_in lines actor))
    ] refl ∙ sym (ap length (numbers_more lines line actor))
  where
    one_longer : (xs : List ℕ) (x : ℕ) → length (xs ++ x ∷ []) ≡ length xs + 1
    one_longer xs x = simp length-append (omega arith)

    none_longer : (xs : List ℕ) → length (xs ++ []) ≡ length xs
    none_longer xs = simp length-append (omega arith)

    differ : line.actor ≡ actor → nat_eq line.actor actor ≡ false → ⊥
    differ same e = let yes : nat_eq line.actor actor ≡ true = grind (arith, nat_tests, same) in cc

-- no line, and no call of any actor
pub tally_none : (lines : List Line) (counts : List ℕ) → lines ≡ [] → counts ≡ replicate 65 0 → IsTally lines 0 0 counts
tally_none lines counts none zeros = rw (none, zeros) (record {
  asked_is = refl;
  streams_is = refl;
  whole = refl;
  counts_is = λ actor lt. get_or-replicate 65 actor 0 0 lt;
  within = refl;
})

-- the sums with those of one line more
pub tally_more : (lines : List Line) (line : Line) (asked streams more_asked more_streams : ℕ) (counts : List ℕ) → IsTally lines asked streams counts → line.actor < 65 →
    more_asked ≡ asked_by line.call → more_streams ≡ streams_by line.call → IsTrue (are_within_limits (lines ++ line ∷ [])) →
    IsTally (lines ++ line ∷ []) (asked + more_asked) (streams + more_streams) (slice_set counts line.actor (slice_index counts line.actor + 1))
tally_more lines line asked streams more_asked more_streams counts tally actor asked_is streams_is within = record {
  asked_is = (λ i. tally.asked_is i + asked_is i) ∙ sym (sum_by_push (λ (line : Line). asked_by line.call) lines line);
  streams_is = (λ i. tally.streams_is i + streams_is i) ∙ sym (sum_by_push (λ (line : Line). streams_by line.call) lines line);
  whole = length-set counts line.actor (slice_index counts line.actor + 1) ∙ tally.whole;
  counts_is = λ of lt. counts_more lines line counts of tally.whole actor (tally.counts_is line.actor actor) (tally.counts_is of lt);
  within = within;
}
