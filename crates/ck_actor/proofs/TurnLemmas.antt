-- A script's turns, one after another: what they answer, and where the actors stand then.
use Rattle.std.proofs.Common.{◌≡◌, ◌≤◌, ◌<◌, ◌⊎◌, inl, inr, ℕ, ◌+◌, true, false, cond, None, Some, List, [], ◌∷◌, ◌++◌, filter, map as list_map, nat_eq, nat_lt, if◌then◌else◌, refl, sym, ap, subst, ◌∙◌, arith, append_assoc}
use Rattle.std.specs.Option.{option_map_or}
use Rattle.std.proofs.lemmas.Bool.Decides.{nat_tests}
use Rattle.std.proofs.lemmas.List.{append-nil}
use Rattle.ck_model.specs.declared.call.Call.{Call}
use Rattle.ck_model.specs.declared.call.Call.TheVariants.{Nodata}
use Rattle.ck_script.specs.declared.line.Line.{Line}
use Rattle.ck_actor.specs.Counts.{TurnCounts}
use Rattle.ck_actor.specs.Turns.{Standing, at_first, going_on, gone_on, turned, with_turn, answering_turn, is_left, answered_by}
use Rattle.ck_actor.specs.Walk.{Standings, seq_at, place_of, next_call, behind, answered_at, answered_now, standing_after, answered_in, left_behind, is_ahead, moved_to, with_count, Agrees, IsWalked}

module _ (lines : List Line) where
  -- what turns answer, and then what is left
  answered_by-parts : (counts : TurnCounts) (at : Standings) (turns : List ℕ) →
      answered_by lines counts at turns ≡ answered_in lines counts at turns ++ left_behind lines counts (standing_after lines counts at turns)
  answered_by-parts counts at [] = refl
  answered_by-parts counts at (actor ∷ turns) =
      elim (next_call lines at actor) as (λ o.
      option_map_or
      (λ call. (if nat_eq ((at actor).had + 1) (answering_turn call (counts actor (seq_at at actor))) then (actor, seq_at at actor) ∷ [] else []) ++ answered_by lines counts (with_turn actor (counts actor (seq_at at actor)) at) turns)
      o (answered_by lines counts at turns)
      ≡ (option_map_or (λ call. if nat_eq ((at actor).had + 1) (answering_turn call (counts actor (seq_at at actor))) then (actor, seq_at at actor) ∷ [] else []) o []
      ++ answered_in lines counts (option_map_or (λ call. with_turn actor (counts actor (seq_at at actor)) at) o at) turns)
      ++ left_behind lines counts (standing_after lines counts (option_map_or (λ call. with_turn actor (counts actor (seq_at at actor)) at) o at) turns)) [
        | None ↦ answered_by-parts counts at turns
        | Some call ↦
            let next = with_turn actor (counts actor (seq_at at actor)) at in
            let now : List (ℕ × ℕ) = if nat_eq ((at actor).had + 1) (answering_turn call (counts actor (seq_at at actor))) then (actor, seq_at at actor) ∷ [] else [] in
            ap (λ rest. now ++ rest) (answered_by-parts counts next turns)
            ∙ sym (append_assoc now (answered_in lines counts next turns) (left_behind lines counts (standing_after lines counts next turns)))
      ]

  -- one more turn behind those
  standing_after-more : (counts : TurnCounts) (at : Standings) (turns : List ℕ) (actor : ℕ) →
      standing_after lines counts at (turns ++ actor ∷ []) ≡ behind lines counts (standing_after lines counts at turns) actor
  standing_after-more counts at [] actor = refl
  standing_after-more counts at (first ∷ turns) actor = standing_after-more counts (behind lines counts at first) turns actor

  answered_in-more : (counts : TurnCounts) (at : Standings) (turns : List ℕ) (actor : ℕ) →
      answered_in lines counts at (turns ++ actor ∷ []) ≡ answered_in lines counts at turns ++ answered_now lines counts (standing_after lines counts at turns) actor
  answered_in-more counts at [] actor = append-nil (answered_now lines counts at actor)
  answered_in-more counts at (first ∷ turns) actor =
      ap (λ rest. answered_now lines counts at first ++ rest) (answered_in-more counts (behind lines counts at first) turns actor)
      ∙ sym (append_assoc (answered_now lines counts at first) (answered_in lines counts (behind lines counts at first) turns) (answered_now lines counts (standing_after lines counts (behind lines counts at first) turns) actor))

with_turn-moved : (actor count : ℕ) (at : Standings) → with_turn actor count at ≡ moved_to actor (turned count (at actor)) at
with_turn-moved actor count at i other = each other i
  where
    each : (other : ℕ) → with_turn actor count at other ≡ moved_to actor (turned count (at actor)) at other
    each other =
        elim (nat_eq other actor) as (λ b. nat_eq other actor ≡ b → (if b then turned count (at other) else at other) ≡ (if b then turned count (at actor) else at other)) [
          | true ↦ λ same. let is : other ≡ actor = grind (arith, same) in ap (λ n. turned count (at n)) is
          | false ↦ λ _. refl
        ] refl

-- a call is answered at its last turn, or at its first
abbrev pub IsAtLast : Call → Type 0
IsAtLast call = (count : ℕ) → answering_turn call count ≡ count

abbrev pub IsAtFirst : Call → Type 0
IsAtFirst call = (count : ℕ) → answering_turn call count ≡ 1

pub answered_when : (call : Call) → IsAtLast call ⊎ IsAtFirst call
answered_when (Nodata name true) = inr (λ count. refl)
answered_when _ = inl (λ count. refl)

pub walk_begins : (lines : List Line) (known : TurnCounts) → IsWalked lines at_first known [] []
walk_begins lines known counts agrees = (refl, refl)

-- ---- one turn more

-- what a turn answers and where it leads, where the call that it works on is known
module _ (lines : List Line) (counts : TurnCounts) (at : Standings) (actor : ℕ) where
  behind-none : next_call lines at actor ≡ None → behind lines counts at actor ≡ at
  behind-none none = ap (λ o. option_map_or (λ call. with_turn actor (counts actor (seq_at at actor)) at) o at) none

  now-none : next_call lines at actor ≡ None → answered_now lines counts at actor ≡ []
  now-none none =
      ap (λ o. option_map_or (λ call. if nat_eq ((at actor).had + 1) (answering_turn call (counts actor (seq_at at actor))) then (actor, seq_at at actor) ∷ [] else []) o []) none

  behind-some : (call : Call) → next_call lines at actor ≡ Some call → behind lines counts at actor ≡ moved_to actor (turned (counts actor (seq_at at actor)) (at actor)) at
  behind-some call is =
      ap (λ o. option_map_or (λ call. with_turn actor (counts actor (seq_at at actor)) at) o at) is
      ∙ with_turn-moved actor (counts actor (seq_at at actor)) at

  now-some : (call : Call) → next_call lines at actor ≡ Some call → answered_now lines counts at actor ≡ answered_at actor (seq_at at actor) (at actor).had call (counts actor (seq_at at actor))
  now-some call is = ap (λ o. option_map_or (λ call. answered_at actor (seq_at at actor) (at actor).had call (counts actor (seq_at at actor))) o []) is

turned-going : (count : ℕ) (standing : Standing) → standing.had + 1 < count → turned count standing ≡ going_on standing
turned-going count standing less = let is : nat_lt (standing.had + 1) count ≡ true = grind (arith, nat_tests) in ap (λ b. if b then going_on standing else gone_on standing) is

turned-gone : (count : ℕ) (standing : Standing) → count ≡ standing.had + 1 → turned count standing ≡ gone_on standing
turned-gone count standing same = let is : nat_lt (standing.had + 1) count ≡ false = grind (arith, nat_tests) in ap (λ b. if b then going_on standing else gone_on standing) is

pub same_number : (m n : ℕ) → nat_eq m n ≡ true → m ≡ n
same_number m n h = grind (arith, nat_tests)

-- what agrees with the turns behind one more agreed before it
module _ (counts : TurnCounts) (at : Standings) (known : TurnCounts) (actor : ℕ) where
  pub agreed-going : Agrees counts (moved_to actor (going_on (at actor)) at) known → Agrees counts at known
  agreed-going agrees = record {
    through = λ a seq within.
        elim (nat_eq a actor) as (λ b. nat_eq a actor ≡ b → (seq ≤ (if b then going_on (at actor) else at a).through → counts a seq ≡ known a seq) → counts a seq ≡ known a seq) [
          | true ↦ λ same h. let within : seq ≤ (at actor).through = subst (λ n. seq ≤ (at n).through) (same_number a actor same) within in h within
          | false ↦ λ _ h. h within
        ] refl (agrees.through a seq);
    going = λ a.
        elim (nat_eq a actor) as (λ b. nat_eq a actor ≡ b → (if b then going_on (at actor) else at a).had < counts a ((if b then going_on (at actor) else at a).through + 1) → (at a).had < counts a (seq_at at a)) [
          | true ↦ λ same h.
              let is : a ≡ actor = same_number a actor same in
              let here : (at actor).had + 1 < counts actor (seq_at at actor) = subst (λ n. (at actor).had + 1 < counts n (seq_at at actor)) is h in
              let less : (at actor).had < counts actor (seq_at at actor) = omega (arith, here) in
              subst (λ n. (at n).had < counts n (seq_at at n)) (sym is) less
          | false ↦ λ _ h. h
        ] refl (agrees.going a);
  }

  pub going-count : Agrees counts (moved_to actor (going_on (at actor)) at) known → (at actor).had + 1 < counts actor (seq_at at actor)
  going-count agrees =
      let own : nat_eq actor actor ≡ true = grind (arith, nat_tests) in
      subst (λ b. (if b then going_on (at actor) else at actor).had < counts actor ((if b then going_on (at actor) else at actor).through + 1)) own (agrees.going actor)

  pub gone-count : Agrees counts (moved_to actor (gone_on (at actor)) at) (with_count actor (seq_at at actor) ((at actor).had + 1) known) → counts actor (seq_at at actor) ≡ (at actor).had + 1
  gone-count agrees =
      let own : nat_eq actor actor ≡ true = grind (arith, nat_tests) in
      let first : nat_eq (seq_at at actor) (seq_at at actor) ≡ true = grind (arith, nat_tests) in
      let within : seq_at at actor ≤ (if true then gone_on (at actor) else at actor).through = omega arith in
      agrees.through actor (seq_at at actor) (subst (λ b. seq_at at actor ≤ (if b then gone_on (at actor) else at actor).through) (sym own) within)
      ∙ ap (λ b. if b then (if nat_eq (seq_at at actor) (seq_at at actor) then (at actor).had + 1 else known actor (seq_at at actor)) else known actor (seq_at at actor)) own
      ∙ ap (λ b. if b then (at actor).had + 1 else known actor (seq_at at actor)) first

  pub agreed-gone : Agrees counts (moved_to actor (gone_on (at actor)) at) (with_count actor (seq_at at actor) ((at actor).had + 1) known) → Agrees counts at known
  agreed-gone agrees = record {
    through = λ a seq within.
        elim (nat_eq a actor) as (λ b. nat_eq a actor ≡ b → (seq ≤ (if b then gone_on (at actor) else at a).through → counts a seq ≡ (if b then (if nat_eq seq (seq_at at actor) then (at actor).had + 1 else known a seq) else known a seq)) → counts a seq ≡ known a seq) [
          | true ↦ λ same h.
              let within : seq ≤ (at actor).through = subst (λ n. seq ≤ (at n).through) (same_number a actor same) within in
              let later : nat_eq seq (seq_at at actor) ≡ false = grind (arith, nat_tests, within) in
              h (omega (arith, within)) ∙ ap (λ b. if b then (at actor).had + 1 else known a seq) later
          | false ↦ λ _ h. h within
        ] refl (agrees.through a seq);
    going = λ a.
        elim (nat_eq a actor) as (λ b. nat_eq a actor ≡ b → (if b then gone_on (at actor) else at a).had < counts a ((if b then gone_on (at actor) else at a).through + 1) → (at a).had < counts a (seq_at at a)) [
          | true ↦ λ same _.
              let is : a ≡ actor = same_number a actor same in
              let less : (at actor).had < counts actor (seq_at at actor) = omega (arith, gone-count agrees) in
              subst (λ n. (at n).had < counts n (seq_at at n)) (sym is) less
          | false ↦ λ _ h. h
        ] refl (agrees.going a);
  }

module _ (lines : List Line) (at : Standings) (known : TurnCounts) (turns : List ℕ) (answered : List (ℕ × ℕ)) (walked : IsWalked lines at known turns answered) (actor : ℕ) where
  -- what is answered and where all stand behind the turn, for counts that agreed before it
  one_more : (counts : TurnCounts) → Agrees counts at known
      → (answered_in lines counts at_first (turns ++ actor ∷ []) ≡ answered ++ answered_now lines counts at actor) × (standing_after lines counts at_first (turns ++ actor ∷ []) ≡ behind lines counts at actor)
  one_more counts agrees =
      let so_far = walked counts agrees in (
        answered_in-more lines counts at_first turns actor
            ∙ ap (λ (stand : Standings). answered_in lines counts at_first turns ++ answered_now lines counts stand actor) so_far.1
            ∙ ap (λ so_far. so_far ++ answered_now lines counts at actor) so_far.0,
        standing_after-more lines counts at_first turns actor ∙ ap (λ (stand : Standings). behind lines counts stand actor) so_far.1,
      )

  -- a turn of the background, or of an actor whose calls are all through
  pub walk_idle : next_call lines at actor ≡ None → IsWalked lines at known (turns ++ actor ∷ []) answered
  walk_idle none counts agrees =
      let more = one_more counts agrees in
      (more.0 ∙ ap (λ now. answered ++ now) (now-none lines counts at actor none) ∙ append-nil answered, more.1 ∙ behind-none lines counts at actor none)

  module _ (call : Call) (is : next_call lines at actor ≡ Some call) (after : List (ℕ × ℕ)) where
    -- a turn behind which its call goes on
    pub walk_going : ((count : ℕ) → (at actor).had + 1 < count → after ≡ answered ++ answered_at actor (seq_at at actor) (at actor).had call count)
        → IsWalked lines (moved_to actor (going_on (at actor)) at) known (turns ++ actor ∷ []) after
    walk_going places counts agrees =
        let more = one_more counts (agreed-going counts at known actor agrees) in
        let less = going-count counts at known actor agrees in (
          more.0 ∙ ap (λ now. answered ++ now) (now-some lines counts at actor call is) ∙ sym (places (counts actor (seq_at at actor)) less),
          more.1 ∙ behind-some lines counts at actor call is ∙ ap (λ standing. moved_to actor standing at) (turned-going (counts actor (seq_at at actor)) (at actor) less),
        )

    -- a turn behind which it is through
    pub walk_gone : after ≡ answered ++ answered_at actor (seq_at at actor) (at actor).had call ((at actor).had + 1)
        → IsWalked lines (moved_to actor (gone_on (at actor)) at) (with_count actor (seq_at at actor) ((at actor).had + 1) known) (turns ++ actor ∷ []) after
    walk_gone places counts agrees =
        let more = one_more counts (agreed-gone counts at known actor agrees) in
        let same = gone-count counts at known actor agrees in (
          more.0 ∙ ap (λ now. answered ++ now) (now-some lines counts at actor call is ∙ ap (λ n. answered_at actor (seq_at at actor) (at actor).had call n) same) ∙ sym places,
          more.1 ∙ behind-some lines counts at actor call is ∙ ap (λ standing. moved_to actor standing at) (turned-gone (counts actor (seq_at at actor)) (at actor) same),
        )

-- ---- behind the last turn

-- the calls that are left are those that are ahead
module _ (counts : TurnCounts) (at : Standings) (known : TurnCounts) (agrees : Agrees counts at known) where
  is_left-ahead : (line : Line) → is_left counts at line ≡ is_ahead at line
  is_left-ahead line =
      let standing = at line.actor in
      let count = counts line.actor line.seq in
      elim (nat_eq line.seq (seq_at at line.actor)) as (λ b. nat_eq line.seq (seq_at at line.actor) ≡ b
      → (if b then nat_lt standing.had (answering_turn line.call count) else nat_lt standing.through line.seq)
      ≡ (if b then nat_lt standing.had (answering_turn line.call (standing.had + 1)) else nat_lt standing.through line.seq)) [
        | true ↦ λ first. elim (answered_when line.call) [
          | inl last ↦
              let is : line.seq ≡ seq_at at line.actor = same_number line.seq (seq_at at line.actor) first in
              let going : standing.had < count = subst (λ n. standing.had < counts line.actor n) (sym is) (agrees.going line.actor) in
              let one : nat_lt standing.had count ≡ true = grind (arith, nat_tests, going) in
              let other : nat_lt standing.had (standing.had + 1) ≡ true = grind (arith, nat_tests) in
              ap (λ n. nat_lt standing.had n) (last count) ∙ one ∙ sym other ∙ sym (ap (λ n. nat_lt standing.had n) (last (standing.had + 1)))
          | inr at_once ↦ ap (λ n. nat_lt standing.had n) (at_once count) ∙ sym (ap (λ n. nat_lt standing.had n) (at_once (standing.had + 1)))
        ]
        | false ↦ λ _. refl
      ] refl

  left_ahead : (lines : List Line) → filter (is_left counts at) lines ≡ filter (is_ahead at) lines
  left_ahead [] = refl
  left_ahead (line ∷ lines) =
      ap (λ b. cond b (line ∷ filter (is_left counts at) lines) (filter (is_left counts at) lines)) (is_left-ahead line)
      ∙ ap (λ rest. cond (is_ahead at line) (line ∷ rest) rest) (left_ahead lines)

-- what the turns of a script answer, and behind them the lines that are left
pub walk_ends : (lines : List Line) (at : Standings) (known : TurnCounts) (turns : List ℕ) (answered : List (ℕ × ℕ)) → IsWalked lines at known turns answered
    → (counts : TurnCounts) → Agrees counts at known → answered_by lines counts at_first turns ≡ answered ++ list_map place_of (filter (is_ahead at) lines)
walk_ends lines at known turns answered walked counts agrees =
    let so_far = walked counts agrees in
    answered_by-parts lines counts at_first turns
    ∙ ap (λ (stand : Standings). answered_in lines counts at_first turns ++ left_behind lines counts stand) so_far.1
    ∙ ap (λ so_far. so_far ++ left_behind lines counts at) so_far.0
    ∙ ap (λ left. answered ++ list_map place_of left) (left_ahead counts at known agrees lines)
