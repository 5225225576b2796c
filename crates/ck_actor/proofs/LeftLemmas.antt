-- The calls that are left behind the listed turns, one after another.
use Rattle.std.proofs.Common.{◌≡◌, ◌≤◌, ◌<◌, inl, inr, ℕ, ◌+◌, Bool, true, false, cond, List, [], ◌∷◌, ◌++◌, filter, map as list_map, length, take, get_or, nat_eq, nat_lt, if◌then◌else◌, refl, sym, ap, subst, ◌∙◌, arith, append_assoc, length-append}
use Rattle.std.proofs.lemmas.Bool.Decides.{nat_tests}
use Rattle.std.proofs.lemmas.List.{append-nil, take_all, take_more, map-append}
use Rattle.ck_script.specs.declared.line.Line.{Line}
use Rattle.ck_script.specs.Numbered.{numbers_in, IsNumbered}
use Rattle.ck_actor.specs.Completed.{IsSound, IsCompleted}
use Rattle.ck_actor.specs.Counts.{TurnCounts}
use Rattle.ck_actor.specs.Place.{call_count}
use Rattle.ck_actor.specs.Turns.{Standing, at_first, answering_turn, answered_by}
use Rattle.ck_actor.specs.Walk.{Standings, seq_at, place_of, ahead_at, is_ahead, moved_to, with_count, IsWalked}
use Rattle.ck_actor.proofs.PlaceLemmas.{other_line, own_line, own_number}
use Rattle.ck_actor.proofs.TurnLemmas.{answered_when, same_number, walk_ends}

-- what holds of the actor that moved and of each other one holds of all
pub each_actor : (P : ℕ → Standing → Type 0) (number : ℕ) (s : Standing) (at : Standings) → P number s → ((a : ℕ) → nat_eq a number ≡ false → P a (at a)) → (a : ℕ) → P a (moved_to number s at a)
each_actor P number s at own others a =
    elim (nat_eq a number) as (λ b. nat_eq a number ≡ b → P a (if b then s else at a)) [
      | true ↦ λ same. subst (λ n. P n s) (sym (same_number a number same)) own
      | false ↦ λ other. others a other
    ] refl

module _ (number seq count : ℕ) (known : TurnCounts) where
  pub count_own : with_count number seq count known number seq ≡ count
  count_own =
      let own : nat_eq number number ≡ true = grind (arith, nat_tests) in
      let same : nat_eq seq seq ≡ true = grind (arith, nat_tests) in
      ap (λ b. if b then (if nat_eq seq seq then count else known number seq) else known number seq) own
      ∙ ap (λ b. if b then count else known number seq) same

  pub count_seq : (a n : ℕ) → nat_eq n seq ≡ false → with_count number seq count known a n ≡ known a n
  count_seq a n other =
      elim (nat_eq a number) as (λ b. (if b then (if nat_eq n seq then count else known a n) else known a n) ≡ known a n) [
        | true ↦ ap (λ b. if b then count else known a n) other
        | false ↦ refl
      ]

  pub count_other : (a n : ℕ) → nat_eq a number ≡ false → with_count number seq count known a n ≡ known a n
  count_other a n other = ap (λ b. if b then (if nat_eq n seq then count else known a n) else known a n) other

different : (m n : ℕ) → m < n → nat_eq m n ≡ false
different m n less = grind (arith, nat_tests, less)

-- ---- where a line is ahead

module _ (standing : Standing) (line : Line) where
  not_ahead_through : line.seq ≤ standing.through → ahead_at standing line ≡ false
  not_ahead_through low =
      let other : nat_eq line.seq (standing.through + 1) ≡ false = grind (arith, nat_tests, low) in
      let less : nat_lt standing.through line.seq ≡ false = grind (arith, nat_tests, low) in
      ap (λ b. if b then nat_lt standing.had (answering_turn line.call (standing.had + 1)) else nat_lt standing.through line.seq) other ∙ less

  ahead_beyond : standing.through + 1 < line.seq → ahead_at standing line ≡ true
  ahead_beyond high =
      let other : nat_eq line.seq (standing.through + 1) ≡ false = grind (arith, nat_tests, high) in
      let less : nat_lt standing.through line.seq ≡ true = grind (arith, nat_tests, high) in
      ap (λ b. if b then nat_lt standing.had (answering_turn line.call (standing.had + 1)) else nat_lt standing.through line.seq) other ∙ less

  -- it is the next one
  pub ahead_next : line.seq ≡ standing.through + 1 → ahead_at standing line ≡ nat_lt standing.had (answering_turn line.call (standing.had + 1))
  ahead_next is =
      let same : nat_eq line.seq (standing.through + 1) ≡ true = grind (arith, nat_tests, is) in
      ap (λ b. if b then nat_lt standing.had (answering_turn line.call (standing.had + 1)) else nat_lt standing.through line.seq) same

  ahead_fresh : line.seq ≡ standing.through + 1 → standing.had ≡ 0 → ahead_at standing line ≡ true
  ahead_fresh is none =
      let one : answering_turn line.call 1 ≡ 1 = elim (answered_when line.call) [ inl last ↦ last 1 | inr first ↦ first 1 ] in
      let first : 0 + 1 ≡ 1 = omega arith in
      ahead_next is ∙ ap (λ n. nat_lt n (answering_turn line.call (n + 1))) none ∙ ap (λ n. nat_lt 0 (answering_turn line.call n)) first ∙ ap (λ n. nat_lt 0 n) one

pub completed_begins : (lines : List Line) (first : Standings) (counts : TurnCounts) (before : List (ℕ × ℕ)) → IsCompleted lines first counts before 0 first counts before
completed_begins lines first counts before = record {
  order = sym (append-nil before);
  kept = λ a seq within. refl;
  began = λ a less. absurd (omega (arith, less));
  still = λ a same. refl;
  at_rest = λ a less. absurd (omega (arith, less));
  no_less = λ a. omega arith;
  all = λ a. omega arith;
  no_more = λ a less. absurd (omega (arith, less));
}

module _ (lines : List Line) (first : Standings) (counts : TurnCounts) (before : List (ℕ × ℕ)) (passed : ℕ) (at : Standings) (known : TurnCounts) (answered : List (ℕ × ℕ))
    (so_far : IsCompleted lines first counts before passed at known answered) where
  module _ (line : Line) (numbered : IsNumbered lines) (within : passed < length lines) (is : line ≡ get_or lines passed line) where
    own : nat_eq line.actor line.actor ≡ true
    own = grind (arith, nat_tests)

    pub seq_here : line.seq ≡ call_count (take passed lines) line.actor + 1
    seq_here = own_number lines passed line line.actor numbered within is own

    pub count_here : call_count (take (passed + 1) lines) line.actor ≡ call_count (take passed lines) line.actor + 1
    count_here =
        let more : length (numbers_in (take passed lines) line.actor ++ line.seq ∷ []) ≡ length (numbers_in (take passed lines) line.actor) + 1 = simp length-append (omega arith) in
        ap (λ (numbers : List ℕ). length numbers) (own_line lines passed line line.actor within is own) ∙ more

    different_line : (a : ℕ) → nat_eq a line.actor ≡ false → nat_eq line.actor a ≡ false
    different_line a other = grind (arith, nat_tests, other)

    count_there : (a : ℕ) → nat_eq a line.actor ≡ false → call_count (take (passed + 1) lines) a ≡ call_count (take passed lines) a
    count_there a other = ap (λ (numbers : List ℕ). length numbers) (other_line lines passed line a within is (different_line a other))

    filtered : (p : Line → Bool) → filter p (take (passed + 1) lines) ≡ filter p (take passed lines) ++ (if p line then line ∷ [] else [])
    filtered p = ap (filter p) (take_more lines passed line within ∙ ap (λ last. take passed lines ++ last ∷ []) (sym is)) ∙ filter_last p (take passed lines)
      where
        filter_last : (p : Line → Bool) (xs : List Line) → filter p (xs ++ line ∷ []) ≡ filter p xs ++ (if p line then line ∷ [] else [])
        filter_last p [] = refl
        filter_last p (x ∷ xs) =
            elim (p x) as (λ b. cond b (x ∷ filter p (xs ++ line ∷ [])) (filter p (xs ++ line ∷ [])) ≡ cond b (x ∷ filter p xs) (filter p xs) ++ (if p line then line ∷ [] else [])) [
              | true ↦ ap (λ ys. x ∷ ys) (filter_last p xs)
              | false ↦ filter_last p xs
            ]

    -- the order with this line's call, or without it
    order_with : is_ahead first line ≡ true → answered ++ (line.actor, line.seq) ∷ [] ≡ before ++ list_map place_of (filter (is_ahead first) (take (passed + 1) lines))
    order_with ahead =
        ap (λ xs. xs ++ (line.actor, line.seq) ∷ []) so_far.order
        ∙ append_assoc before (list_map place_of (filter (is_ahead first) (take passed lines))) ((line.actor, line.seq) ∷ [])
        ∙ ap (λ xs. before ++ xs) (sym (map-append place_of (filter (is_ahead first) (take passed lines)) (line ∷ [])))
        ∙ ap (λ b. before ++ list_map place_of (filter (is_ahead first) (take passed lines) ++ (if b then line ∷ [] else []))) (sym ahead)
        ∙ ap (λ xs. before ++ list_map place_of xs) (sym (filtered (is_ahead first)))

    order_without : is_ahead first line ≡ false → answered ≡ before ++ list_map place_of (filter (is_ahead first) (take (passed + 1) lines))
    order_without not_ahead =
        so_far.order
        ∙ ap (λ xs. before ++ list_map place_of xs) (sym (append-nil (filter (is_ahead first) (take passed lines))))
        ∙ ap (λ b. before ++ list_map place_of (filter (is_ahead first) (take passed lines) ++ (if b then line ∷ [] else []))) (sym not_ahead)
        ∙ ap (λ xs. before ++ list_map place_of xs) (sym (filtered (is_ahead first)))

    order_of : (b : Bool) → is_ahead first line ≡ b → answered ++ (if b then (line.actor, line.seq) ∷ [] else []) ≡ before ++ list_map place_of (filter (is_ahead first) (take (passed + 1) lines))
    order_of true ahead = order_with ahead
    order_of false not_ahead = append-nil answered ∙ order_without not_ahead

    -- where the line's call isn't through it is ahead as it was at first
    ahead_same : (at line.actor).through < line.seq → is_ahead at line ≡ is_ahead first line
    ahead_same left =
        let low = so_far.no_less line.actor in
        let all = so_far.all line.actor in
        let next : line.seq ≡ (at line.actor).through + 1 = omega (arith, seq_here, all, left) in
        elim (nat_lt (first line.actor).through (at line.actor).through) as (λ b. nat_lt (first line.actor).through (at line.actor).through ≡ b → is_ahead at line ≡ is_ahead first line) [
          | true ↦ λ less.
              let less : (first line.actor).through < (at line.actor).through = grind (arith, nat_tests, less) in
              ahead_fresh (at line.actor) line next (so_far.at_rest line.actor less) ∙ sym (ahead_beyond (first line.actor) line (omega (arith, less, next)))
          | false ↦ λ not_less.
              let not_less : (at line.actor).through ≤ (first line.actor).through = grind (arith, nat_tests, not_less) in
              let through : (at line.actor).through ≡ (first line.actor).through = omega (arith, not_less, low) in
              let had = so_far.still line.actor through in
              let same : at line.actor ≡ first line.actor = λ i. record { through = through i; had = had i } in
              ap (λ (s : Standing). ahead_at s line) same
        ] refl

    -- the call of the next line was answered before
    pub completed_before : line.seq ≤ (at line.actor).through → IsCompleted lines first counts before (passed + 1) at known answered
    completed_before through =
        let no_more = so_far.no_more line.actor in
        let low : line.seq ≤ (first line.actor).through =
        elim (nat_lt (first line.actor).through (at line.actor).through) as (λ b. nat_lt (first line.actor).through (at line.actor).through ≡ b → line.seq ≤ (first line.actor).through) [
          | true ↦ λ less.
              let less : (first line.actor).through < (at line.actor).through = grind (arith, nat_tests, less) in
              absurd (omega (arith, no_more less, seq_here, through))
          | false ↦ λ not_less.
              let not_less : (at line.actor).through ≤ (first line.actor).through = grind (arith, nat_tests, not_less) in
              omega (arith, not_less, through)
        ] refl in
        record {
          order = order_without (not_ahead_through (first line.actor) line low);
          kept = so_far.kept;
          began = so_far.began;
          still = so_far.still;
          at_rest = so_far.at_rest;
          no_less = so_far.no_less;
          all = λ a. elim (nat_eq a line.actor) as (λ b. nat_eq a line.actor ≡ b → call_count (take (passed + 1) lines) a ≤ (at a).through) [
            | true ↦ λ same.
                let here : call_count (take (passed + 1) lines) line.actor ≤ (at line.actor).through = omega (arith, count_here, seq_here, through) in
                subst (λ n. call_count (take (passed + 1) lines) n ≤ (at n).through) (sym (same_number a line.actor same)) here
            | false ↦ λ other. subst (λ n. n ≤ (at a).through) (sym (count_there a other)) (so_far.all a)
          ] refl;
          no_more = λ a less. elim (nat_eq a line.actor) as (λ b. nat_eq a line.actor ≡ b → (at a).through ≤ call_count (take (passed + 1) lines) a) [
            | true ↦ λ same.
                let is : a ≡ line.actor = same_number a line.actor same in
                let more : (at line.actor).through ≤ call_count (take passed lines) line.actor = subst (λ n. (at n).through ≤ call_count (take passed lines) n) is (so_far.no_more a less) in
                let here : (at line.actor).through ≤ call_count (take (passed + 1) lines) line.actor = omega (arith, count_here, more) in
                subst (λ n. (at n).through ≤ call_count (take (passed + 1) lines) n) (sym is) here
            | false ↦ λ other. subst (λ n. (at a).through ≤ n) (sym (count_there a other)) (so_far.no_more a less)
          ] refl;
        }

    -- the call of the next line is brought to its end, after so many turns before the last one
    pub completed_gone : (had : ℕ) → (at line.actor).had ≤ had → (at line.actor).through < line.seq
        → IsCompleted lines first counts before (passed + 1) (moved_to line.actor (record { through = (at line.actor).through + 1; had = 0 }) at) (with_count line.actor (seq_at at line.actor) (had + 1) known)
        (answered ++ (if is_ahead at line then (line.actor, line.seq) ∷ [] else []))
    completed_gone had more left =
        let number = line.actor in
        let next : Standing = record { through = (at number).through + 1; had = 0 } in
        let seq = seq_at at number in
        let count = had + 1 in
        let all_here = so_far.all number in
        let low_here = so_far.no_less number in
        record {
          order = ap (λ b. answered ++ (if b then (line.actor, line.seq) ∷ [] else [])) (ahead_same left) ∙ order_of (is_ahead first line) refl;
          kept = λ a n within.
              elim (nat_eq a number) as (λ b. nat_eq a number ≡ b → with_count number seq count known a n ≡ counts a n) [
                | true ↦ λ same.
                    let within : n ≤ (first number).through = subst (λ m. n ≤ (first m).through) (same_number a number same) within in
                    count_seq number seq count known a n (different n seq (omega (arith, within, low_here))) ∙ so_far.kept a n (subst (λ m. n ≤ (first m).through) (sym (same_number a number same)) within)
                | false ↦ λ other. count_other number seq count known a n other ∙ so_far.kept a n within
              ] refl;
          began = each_actor (λ a s. (first a).through < s.through → (first a).had < with_count number seq count known a (seq_at first a)) number next at
              (λ _. elim (nat_lt (first number).through (at number).through) as (λ b. nat_lt (first number).through (at number).through ≡ b → (first number).had < with_count number seq count known number (seq_at first number)) [
                | true ↦ λ less.
                    let less : (first number).through < (at number).through = grind (arith, nat_tests, less) in
                    subst (λ n. (first number).had < n) (sym (count_seq number seq count known number (seq_at first number) (different (seq_at first number) seq (omega (arith, less))))) (so_far.began number less)
                | false ↦ λ not_less.
                    let not_less : (at number).through ≤ (first number).through = grind (arith, nat_tests, not_less) in
                    let same : (at number).through ≡ (first number).through = omega (arith, not_less, low_here) in
                    let still : (at number).had ≡ (first number).had = so_far.still number same in
                    let enough : (first number).had < count = omega (arith, still, more) in
                    subst (λ n. (first number).had < with_count number seq count known number n) (ap (λ n. n + 1) same) (subst (λ n. (first number).had < n) (sym (count_own number seq count known)) enough)
              ] refl)
              (λ a other less. subst (λ n. (first a).had < n) (sym (count_other number seq count known a (seq_at first a) other)) (so_far.began a less));
          still = each_actor (λ a s. s.through ≡ (first a).through → s.had ≡ (first a).had) number next at (λ same. absurd (omega (arith, same, low_here))) (λ a _. so_far.still a);
          at_rest = each_actor (λ a s. (first a).through < s.through → s.had ≡ 0) number next at (λ _. refl) (λ a _. so_far.at_rest a);
          no_less = each_actor (λ a s. (first a).through ≤ s.through) number next at (omega (arith, low_here)) (λ a _. so_far.no_less a);
          all = each_actor (λ a s. call_count (take (passed + 1) lines) a ≤ s.through) number next at (omega (arith, count_here, all_here)) (λ a other. subst (λ n. n ≤ (at a).through) (sym (count_there a other)) (so_far.all a));
          no_more = each_actor (λ a s. (first a).through < s.through → s.through ≤ call_count (take (passed + 1) lines) a) number next at (λ _. omega (arith, count_here, left, seq_here))
              (λ a other less. subst (λ n. (at a).through ≤ n) (sym (count_there a other)) (so_far.no_more a less));
        }

-- all lines were passed: what was answered is what the turns answer
pub completed_all : (lines : List Line) (first : Standings) (counts : TurnCounts) (before : List (ℕ × ℕ)) (passed : ℕ) (at : Standings) (known : TurnCounts) (answered : List (ℕ × ℕ)) (turns : List ℕ)
    → length lines ≤ passed → IsWalked lines first counts turns before → IsSound lines first counts → IsSound lines at known → IsCompleted lines first counts before passed at known answered
    → answered ≡ answered_by lines known at_first turns
completed_all lines first counts before passed at known answered turns past walked sound_first sound so_far =
    let whole : take passed lines ≡ lines = take_all passed lines past in
    so_far.order
    ∙ ap (λ (xs : List Line). before ++ list_map place_of (filter (is_ahead first) xs)) whole
    ∙ sym (walk_ends lines first counts turns before walked known (record { through = so_far.kept; going = going whole }))
  where
    going : take passed lines ≡ lines → (a : ℕ) → (first a).had < known a (seq_at first a)
    going whole a =
        elim (nat_lt (first a).through (at a).through) as (λ b. nat_lt (first a).through (at a).through ≡ b → (first a).had < known a (seq_at first a)) [
          | true ↦ λ less. let less : (first a).through < (at a).through = grind (arith, nat_tests, less) in so_far.began a less
          | false ↦ λ not_less.
              let not_less : (at a).through ≤ (first a).through = grind (arith, nat_tests, not_less) in
              let all : call_count lines a ≤ (at a).through = subst (λ (xs : List Line). call_count xs a ≤ (at a).through) whole (so_far.all a) in
              let some = sound.positive a (seq_at first a) in
              elim (sound_first.there a) [
                | inl none ↦ omega (arith, none, some)
                | inr there ↦ absurd (omega (arith, there, all, not_less))
              ]
        ] refl
