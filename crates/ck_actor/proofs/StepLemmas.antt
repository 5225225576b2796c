-- What one turn does to the turns that were taken, and to the calls that are left behind them.
use Rattle.std.proofs.Common.{◌≡◌, ◌≤◌, ◌<◌, ◌⊎◌, ◌&&◌, inl, inr, ℕ, zero, suc, ◌+◌, Bool, true, false, not, Option, Some, None, List, [], ◌∷◌, ◌++◌, length, take, get_or, nat_eq, nat_le, nat_lt, if◌then◌else◌, refl, sym, ap, subst, ◌∙◌, arith, append_assoc, length-append}
use Rattle.std.specs.Prelude.{slice_get}
use Rattle.std.specs.List.{cons_option, filter_map}
use Rattle.std.specs.Option.{option_map_or}
use Rattle.std.proofs.lemmas.Bool.Decides.{nat_tests}
use Rattle.std.proofs.lemmas.List.{append-nil}
use Rattle.std.proofs.lemmas.Option.{get_or_from_slice_get, slice_get-get_or, slice_get_within}
use Rattle.ck_disk.specs.Disk.{Meaning}
use Rattle.ck_disk.specs.declared.disk.Disk.{Ghosts}
use Rattle.ck_io.specs.Clock.{ClockMeaning}
use Rattle.ck_model.specs.declared.call.Call.{Call}
use Rattle.ck_model.specs.History.{call_at}
use Rattle.ck_model.specs.Table.{Table}
use Rattle.ck_script.specs.declared.line.Line.{Line}
use Rattle.ck_script.specs.Numbered.{calls_in, numbers_in, IsNumbered}
use Rattle.ck_volume.specs.declared.event.Progress.{Progress}
use Rattle.ck_volume.specs.declared.event.Progress.TheVariants.{Fresh, Read, Strip}
use Rattle.ck_volume.specs.declared.volume.Volume.{Volume}
use Rattle.ck_volume.specs.Volume.{history_of, table_of}
use Rattle.ck_actor.specs.declared.actor.Actor.{Actor}
use Rattle.ck_actor.specs.Actor.{number_of, turns_left, HasFewer, HasHad, OnWay, StandsAt}
use Rattle.ck_actor.specs.Completed.{IsCompleted, IsSound}
use Rattle.ck_actor.specs.Counts.{TurnCounts}
use Rattle.ck_actor.specs.Place.{answered_count, call_count}
use Rattle.ck_actor.specs.Played.{places_of, AreFinished, HasStepped, IsPlayer, IsStep, IsStepGoing, IsStepGone, IsUnderWay}
use Rattle.ck_actor.specs.Turned.{answered_by_now}
use Rattle.ck_actor.specs.Turns.{Standing, answering_turn, going_on, gone_on}
use Rattle.ck_actor.specs.Walk.{Standings, seq_at, answered_at, is_ahead, moved_to, with_count, IsWalked}
use Rattle.ck_actor.proofs.LeftLemmas.{ahead_next, completed_before, completed_gone, seq_here}
use Rattle.ck_actor.proofs.PlaceLemmas.{own_call, own_line, own_number}
use Rattle.ck_actor.proofs.PlayedLemmas.{moved_own, some_one}
use Rattle.ck_actor.proofs.TurnLemmas.{IsAtFirst, IsAtLast, answered_when, same_number, walk_going, walk_gone, walk_idle}

-- ---- a turn of those that the script lists

walk_is : (lines : List Line) (at next : Standings) (known counts : TurnCounts) (turns : List ℕ) (before after : List (ℕ × ℕ)) → next ≡ at → counts ≡ known → after ≡ before → IsWalked lines at known turns before → IsWalked lines next counts turns after
walk_is lines at next known counts turns before after at_is known_is is walked =
    subst (λ (s : Standings). IsWalked lines s counts turns after) (sym at_is)
    (subst (λ (k : TurnCounts). IsWalked lines at k turns after) (sym known_is) (subst (λ (answered : List (ℕ × ℕ)). IsWalked lines at known turns answered) (sym is) walked))

pub walk_step : (lines : List Line) (n : ℕ) (at next : Standings) (known counts : TurnCounts) (turns : List ℕ) (before after : List (ℕ × ℕ))
    → IsStep lines n at known before next counts after → IsWalked lines at known turns before → IsWalked lines next counts (turns ++ n ∷ []) after
walk_step lines n at next known counts turns before after step walked =
    elim step [
      | inl s ↦ walk_is lines at next known counts (turns ++ n ∷ []) before after s.at_is s.known_is s.places (walk_idle lines at known turns before walked n s.none)
      | inr (inl s) ↦
          walk_is lines (moved_to n (going_on (at n)) at) next known counts (turns ++ n ∷ []) after after s.at_is s.known_is refl
          (walk_going lines at known turns before walked n s.call s.call_is after s.places)
      | inr (inr s) ↦
          walk_is lines (moved_to n (gone_on (at n)) at) next (with_count n (seq_at at n) ((at n).had + 1) known) counts (turns ++ n ∷ []) after after s.at_is s.known_is refl
          (walk_gone lines at known turns before walked n s.call s.call_is after s.places)
    ]

-- ---- an actor's line, and its place

pub count_grows : (lines : List Line) (a b actor : ℕ) → a ≤ b → call_count (take a lines) actor ≤ call_count (take b lines) actor
count_grows [] zero b actor low = omega arith
count_grows [] (suc a) zero actor low = absurd (omega (arith, low))
count_grows [] (suc a) (suc b) actor low = omega arith
count_grows (line ∷ lines) zero b actor low = omega arith
count_grows (line ∷ lines) (suc a) zero actor low = absurd (omega (arith, low))
count_grows (line ∷ lines) (suc a) (suc b) actor low =
    let rest = count_grows lines a b actor (omega (arith, low)) in
    elim (nat_eq line.actor actor) as (λ b'.
    length (cons_option (if b' then Some line.seq else None) (filter_map (λ (l : Line). if nat_eq l.actor actor then Some l.seq else None) (take a lines)))
    ≤ length (cons_option (if b' then Some line.seq else None) (filter_map (λ (l : Line). if nat_eq l.actor actor then Some l.seq else None) (take b lines)))) [
      | true ↦ omega (arith, rest)
      | false ↦ rest
    ]

-- how many turns are left at most until the call of the line is through
abbrev pub turns_to : ℕ → Table → Actor → ℕ
turns_to passed t actor = if nat_le actor.place.line passed then turns_left actor.progress t else 0

-- of the actor at a place
abbrev pub turns_at : ℕ → ℕ → Table → List Actor → ℕ
turns_at passed place t actors = option_map_or (turns_to passed t) (slice_get actors place) 0

some_left : (p : Progress) (t : Table) → 1 ≤ turns_left p t
some_left Fresh t = omega arith
some_left (Read read) t = omega arith
some_left (Strip id) t = omega arith

going_fewer : (line moved passed next left : ℕ) → next < left → nat_le line passed ≡ true → (if nat_le moved passed then next else 0) < (if nat_le line passed then left else 0)
going_fewer line moved passed next left less here =
    subst (λ b. (if nat_le moved passed then next else 0) < (if b then left else 0)) (sym here)
    (elim (nat_le moved passed) as (λ b. (if b then next else 0) < left) [ true ↦ less | false ↦ omega (arith, less) ])

gone_fewer : (line moved passed next left : ℕ) → nat_le moved passed ≡ false → 1 ≤ left → nat_le line passed ≡ true → (if nat_le moved passed then next else 0) < (if nat_le line passed then left else 0)
gone_fewer line moved passed next left behind some here =
    subst (λ b. (if nat_le moved passed then next else 0) < (if b then left else 0)) (sym here)
    (subst (λ b. (if b then next else 0) < left) (sym behind) (omega (arith, some)))

-- ---- the turns of one call

-- so many turns were enough for its entry, and it isn't through
abbrev is_entered : Call → ℕ → Bool
is_entered call had = not (nat_lt had (answering_turn call (had + 1)))

-- the entry came behind these turns
abbrev pub has_come : Call → ℕ → ℕ → Bool
has_come call from had = not (is_entered call from) && is_entered call had

not_entered : (call : Call) (had : ℕ) → IsAtLast call → is_entered call had ≡ false
not_entered call had last =
    let less : nat_lt had (had + 1) ≡ true = grind (arith, nat_tests) in
    ap (λ n. not (nat_lt had n)) (last (had + 1)) ∙ ap (λ b. not b) less

not_come : (call : Call) (from had : ℕ) → IsAtLast call → has_come call from had ≡ false
not_come call from had last = (λ i. not (not_entered call from last i) && not_entered call had last i)

come_first : (call : Call) (from had : ℕ) → IsAtFirst call → has_come call from had ≡ not (not (nat_lt from 1)) && not (nat_lt had 1)
come_first call from had first = λ i. not (not (nat_lt from (first (from + 1) i))) && not (nat_lt had (first (had + 1) i))

module _ {A : Type 0} (call : Call) (here : List A) where
  abbrev if_here : Bool → List A
  if_here b = if b then here else []

  -- a turn behind which it goes on
  come_going : (from had : ℕ) → from ≤ had → if_here (has_come call from had) ++ if_here (nat_eq (had + 1) (answering_turn call (had + 2))) ≡ if_here (has_come call from (had + 1))
  come_going from had low = elim (answered_when call) [
    | inl last ↦
        let apart : nat_eq (had + 1) (had + 2) ≡ false = grind (arith, nat_tests) in
        let not_now : nat_eq (had + 1) (answering_turn call (had + 2)) ≡ false = ap (λ n. nat_eq (had + 1) n) (last (had + 2)) ∙ apart in
        (λ i. if_here (not_come call from had last i) ++ if_here (not_now i)) ∙ sym (ap (λ b. if_here b) (not_come call from (had + 1) last))
    | inr first ↦
        let now : nat_eq (had + 1) (answering_turn call (had + 2)) ≡ nat_eq (had + 1) 1 = ap (λ n. nat_eq (had + 1) n) (first (had + 2)) in
        (λ i. if_here (come_first call from had first i) ++ if_here (now i)) ∙ by_turn from had low ∙ sym (ap (λ b. if_here b) (come_first call from (had + 1) first))
  ]
    where
      by_turn : (from had : ℕ) → from ≤ had → if_here (not (not (nat_lt from 1)) && not (nat_lt had 1)) ++ if_here (nat_eq (had + 1) 1) ≡ if_here (not (not (nat_lt from 1)) && not (nat_lt (had + 1) 1))
      by_turn from had low =
          let later : nat_lt (had + 1) 1 ≡ false = grind (arith, nat_tests) in
          elim (nat_lt had 1) as (λ b. nat_lt had 1 ≡ b → if_here (not (not (nat_lt from 1)) && not b) ++ if_here (nat_eq (had + 1) 1) ≡ if_here (not (not (nat_lt from 1)) && not (nat_lt (had + 1) 1))) [
            | true ↦ λ none.
                let from_none : nat_lt from 1 ≡ true = grind (arith, nat_tests, none, low) in
                let now : nat_eq (had + 1) 1 ≡ true = grind (arith, nat_tests, none) in
                (λ i. if_here (not (not (from_none i)) && not true) ++ if_here (now i)) ∙ sym (λ i. if_here (not (not (from_none i)) && not (later i)))
            | false ↦ λ some.
                let not_now : nat_eq (had + 1) 1 ≡ false = grind (arith, nat_tests, some) in
                ap (λ b. if_here (not (not (nat_lt from 1)) && not false) ++ if_here b) not_now ∙ append-nil (if_here (not (not (nat_lt from 1)) && not false))
                ∙ sym (ap (λ b. if_here (not (not (nat_lt from 1)) && not b)) later)
          ] refl

  -- the turn behind which it is through
  come_gone : (from had : ℕ) → from ≤ had → if_here (has_come call from had) ++ if_here (nat_eq (had + 1) (answering_turn call (had + 1))) ≡ if_here (nat_lt from (answering_turn call (from + 1)))
  come_gone from had low = elim (answered_when call) [
    | inl last ↦
        let same : nat_eq (had + 1) (had + 1) ≡ true = grind (arith, nat_tests) in
        let now : nat_eq (had + 1) (answering_turn call (had + 1)) ≡ true = ap (λ n. nat_eq (had + 1) n) (last (had + 1)) ∙ same in
        let more : nat_lt from (from + 1) ≡ true = grind (arith, nat_tests) in
        (λ i. if_here (not_come call from had last i) ++ if_here (now i)) ∙ sym (ap (λ n. if_here (nat_lt from n)) (last (from + 1)) ∙ ap (λ b. if_here b) more)
    | inr first ↦
        let now : nat_eq (had + 1) (answering_turn call (had + 1)) ≡ nat_eq (had + 1) 1 = ap (λ n. nat_eq (had + 1) n) (first (had + 1)) in
        (λ i. if_here (come_first call from had first i) ++ if_here (now i)) ∙ by_turn from had low ∙ sym (ap (λ n. if_here (nat_lt from n)) (first (from + 1)))
  ]
    where
      by_turn : (from had : ℕ) → from ≤ had → if_here (not (not (nat_lt from 1)) && not (nat_lt had 1)) ++ if_here (nat_eq (had + 1) 1) ≡ if_here (nat_lt from 1)
      by_turn from had low =
          elim (nat_lt had 1) as (λ b. nat_lt had 1 ≡ b → if_here (not (not (nat_lt from 1)) && not b) ++ if_here (nat_eq (had + 1) 1) ≡ if_here (nat_lt from 1)) [
            | true ↦ λ none.
                let from_none : nat_lt from 1 ≡ true = grind (arith, nat_tests, none, low) in
                let now : nat_eq (had + 1) 1 ≡ true = grind (arith, nat_tests, none) in
                (λ i. if_here (not (not (from_none i)) && not true) ++ if_here (now i)) ∙ sym (ap (λ b. if_here b) from_none)
            | false ↦ λ some.
                let not_now : nat_eq (had + 1) 1 ≡ false = grind (arith, nat_tests, some) in
                ap (λ b. if_here (not (not (nat_lt from 1)) && not false) ++ if_here b) not_now ∙ append-nil (if_here (not (not (nat_lt from 1)) && not false))
                ∙ elim (nat_lt from 1) as (λ b. if_here (not (not b) && not false) ≡ if_here b) [ true ↦ refl | false ↦ refl ]
          ] refl

-- ---- an actor stands elsewhere, and then elsewhere again

moved_self : (n : ℕ) (at : Standings) → at ≡ moved_to n (at n) at
moved_self n at i other = each other i
  where
    each : (other : ℕ) → at other ≡ moved_to n (at n) at other
    each other =
        elim (nat_eq other n) as (λ b. nat_eq other n ≡ b → at other ≡ (if b then at n else at other)) [
          | true ↦ λ same. ap at (same_number other n same)
          | false ↦ λ _. refl
        ] refl

moved_twice : (n : ℕ) (s t : Standing) (at : Standings) → moved_to n s (moved_to n t at) ≡ moved_to n s at
moved_twice n s t at i other = each other i
  where
    each : (other : ℕ) → moved_to n s (moved_to n t at) other ≡ moved_to n s at other
    each other = elim (nat_eq other n) as (λ b. (if b then s else (if b then t else at other)) ≡ (if b then s else at other)) [ true ↦ refl | false ↦ refl ]

-- The calls of the lines before this one are through, and its own has had so many turns since its actor stood elsewhere; its entry is
-- there where one of these was the turn that answers it.
pub record IsBetween (lines : List Line) (first : Standings) (counts : TurnCounts) (before : List (ℕ × ℕ)) (passed : ℕ) (line : Line) (at : Standings) (known : TurnCounts) (answered : List (ℕ × ℕ)) : Type 0 where
  pub base : Standings
  pub so_far : List (ℕ × ℕ)
  pub completed : IsCompleted lines first counts before passed base known so_far
  pub left : (base line.actor).through < line.seq
  pub had : ℕ
  pub more : (base line.actor).had ≤ had
  pub at_is : at ≡ moved_to line.actor (record { through = (base line.actor).through; had = had }) base
  pub entries : answered ≡ so_far ++ (if has_come line.call (base line.actor).had had then (line.actor, line.seq) ∷ [] else [])

-- the calls of the lines before this one are through, and its own is or isn't
abbrev pub HalfCompleted : List Line → Standings → TurnCounts → List (ℕ × ℕ) → ℕ → Line → Standings → TurnCounts → List (ℕ × ℕ) → Type 0
HalfCompleted lines first counts before passed line at known answered =
    IsBetween lines first counts before passed line at known answered ⊎ IsCompleted lines first counts before (passed + 1) at known answered

-- the same while the actor at a place takes its turns until the line's call is answered
pub record IsFinishing {D : Type 0} {g : Ghosts D} (means : D → Meaning) (origin : D) (clock : ClockMeaning) (lines : List Line) (turns : List ℕ) (passed place : ℕ) (volume : Volume D g) (actors : List Actor) : Type 0 where
  pub line : Line
  pub line_is : slice_get lines passed ≡ Some line
  pub place_is : suc place ≡ line.actor
  pub limit : place < 64
  pub first : Standings
  pub counts : TurnCounts
  pub before : List (ℕ × ℕ)
  pub walked : IsWalked lines first counts turns before
  pub first_sound : IsSound lines first counts
  pub at : Standings
  pub known : TurnCounts
  pub under_way : IsUnderWay means origin clock lines volume actors at known
  pub half : HalfCompleted lines first counts before passed line at known (places_of (history_of volume))

module _ (lines : List Line) (first : Standings) (counts : TurnCounts) (before : List (ℕ × ℕ)) (passed : ℕ) (line : Line) (numbered : IsNumbered lines) (within : passed < length lines) (is : line ≡ get_or lines passed line) where
  abbrev IsHalfway : Standings → TurnCounts → List (ℕ × ℕ) → Type 0
  IsHalfway = HalfCompleted lines first counts before passed line

  own : nat_eq line.actor line.actor ≡ true
  own = grind (arith, nat_tests)

  pub begins_halfway : (at : Standings) (known : TurnCounts) (answered : List (ℕ × ℕ)) → IsCompleted lines first counts before passed at known answered → IsHalfway at known answered
  begins_halfway at known answered so_far =
      elim (nat_lt (at line.actor).through line.seq) as (λ b. nat_lt (at line.actor).through line.seq ≡ b → IsHalfway at known answered) [
        | true ↦ λ less.
            let less : (at line.actor).through < line.seq = grind (arith, nat_tests, less) in
            let had = (at line.actor).had in
            let none : has_come line.call had had ≡ false = elim (is_entered line.call had) as (λ b. not b && b ≡ false) [ true ↦ refl | false ↦ refl ] in
            inl (record {
              base = at;
              so_far = answered;
              completed = so_far;
              left = less;
              had = had;
              more = omega arith;
              at_is = moved_self line.actor at;
              entries = sym (ap (λ b. answered ++ (if b then (line.actor, line.seq) ∷ [] else [])) none ∙ append-nil answered);
            })
        | false ↦ λ not_less.
            let through : line.seq ≤ (at line.actor).through = grind (arith, nat_tests, not_less) in
            inr (completed_before lines first counts before passed at known answered so_far line numbered within is through)
      ] refl

  -- behind it there is one call of its actor more
  seq_next : line.seq ≤ call_count (take (passed + 1) lines) line.actor
  seq_next =
      let here = own_number lines passed line line.actor numbered within is own in
      let more : length (numbers_in (take passed lines) line.actor ++ line.seq ∷ []) ≡ length (numbers_in (take passed lines) line.actor) + 1 = simp length-append (omega arith) in
      let count = ap (λ (numbers : List ℕ). length numbers) (own_line lines passed line line.actor within is own) in
      omega (arith, here, more, count)

  -- an actor whose place isn't behind the line hasn't had its call answered, and one whose place is has
  pub before_line : (actor : Actor) → number_of actor ≡ line.actor → actor.place.line ≤ passed → answered_count lines actor.place < line.seq
  before_line actor number low =
      let grows = count_grows lines actor.place.line passed actor.place.actor low in
      let here = own_number lines passed line line.actor numbered within is own in
      let same : call_count (take passed lines) actor.place.actor ≡ call_count (take passed lines) line.actor = ap (call_count (take passed lines)) number in
      omega (arith, grows, here, same)

  pub past_line : (actor : Actor) → number_of actor ≡ line.actor → passed < actor.place.line → line.seq ≤ answered_count lines actor.place
  past_line actor number high =
      let grows = count_grows lines (passed + 1) actor.place.line actor.place.actor (omega (arith, high)) in
      let same : call_count (take (passed + 1) lines) actor.place.actor ≡ call_count (take (passed + 1) lines) line.actor = ap (call_count (take (passed + 1) lines)) number in
      let here = seq_next in
      omega (arith, grows, here, same)

  behind_line : (actor : Actor) → number_of actor ≡ line.actor → line.seq ≤ answered_count lines actor.place → nat_le actor.place.line passed ≡ false
  behind_line actor number through =
      elim (nat_le actor.place.line passed) as (λ b. nat_le actor.place.line passed ≡ b → b ≡ false) [
        | true ↦ λ low.
            let low : actor.place.line ≤ passed = grind (arith, nat_tests, low) in
            let less = before_line actor number low in
            absurd (omega (arith, less, through))
        | false ↦ λ _. refl
      ] refl

  half_is : (at next : Standings) (known counts' : TurnCounts) (answered after : List (ℕ × ℕ)) → next ≡ at → counts' ≡ known → after ≡ answered → IsHalfway at known answered → IsHalfway next counts' after
  half_is at next known counts' answered after at_is known_is same half =
      subst (λ (s : Standings). IsHalfway s counts' after) (sym at_is)
      (subst (λ (k : TurnCounts). IsHalfway at k after) (sym known_is) (subst (λ (xs : List (ℕ × ℕ)). IsHalfway at known xs) (sym same) half))

  none_some : {A : Type 0} (o : Option A) (x : A) → o ≡ None → o ≡ Some x → ⊥
  none_some o x none some = cc

  module _ (at : Standings) (known : TurnCounts) (answered : List (ℕ × ℕ)) (half : IsBetween lines first counts before passed line at known answered) where
    abbrev base : Standings
    base = half.base

    abbrev had : ℕ
    had = half.had

    abbrev place : ℕ × ℕ
    place = (line.actor, line.seq)

    stood : at line.actor ≡ record { through = (base line.actor).through; had = had }
    stood = ap (λ (s : Standings). s line.actor) half.at_is ∙ moved_own line.actor (record { through = (base line.actor).through; had = had }) base

    through_is : (at line.actor).through ≡ (base line.actor).through
    through_is = ap (λ (s : Standing). s.through) stood

    had_is : (at line.actor).had ≡ had
    had_is = ap (λ (s : Standing). s.had) stood

    -- its call is the actor's next one
    base_next : line.seq ≡ (base line.actor).through + 1
    base_next =
        let here = seq_here lines first counts before passed base known half.so_far half.completed line numbered within is in
        let all = half.completed.all line.actor in
        let left = half.left in
        omega (arith, here, all, left)

    next_is : seq_at at line.actor ≡ line.seq
    next_is = ap (λ n. n + 1) through_is ∙ sym base_next

    next_call : call_at (calls_in lines) line.actor (seq_at at line.actor) ≡ Some line.call
    next_call = ap (call_at (calls_in lines) line.actor) next_is ∙ own_call lines passed line line.actor numbered within is own

    call_here : (call : Call) → call_at (calls_in lines) line.actor (seq_at at line.actor) ≡ Some call → call ≡ line.call
    call_here call call_is = some_one call line.call (sym call_is ∙ next_call)

    pub left_here : (at line.actor).through < line.seq
    left_here = subst (λ n. n < line.seq) (sym through_is) half.left

    -- what a turn answers of it
    answered_here : (call : Call) (count : ℕ) → call ≡ line.call → answered_at line.actor (seq_at at line.actor) (at line.actor).had call count ≡ (if nat_eq (had + 1) (answering_turn line.call count) then place ∷ [] else [])
    answered_here call count call_is = λ i. if nat_eq (had_is i + 1) (answering_turn (call_is i) count) then (line.actor, next_is i) ∷ [] else []

    module _ (next : Standings) (counts' : TurnCounts) (after : List (ℕ × ℕ)) where
      went : IsStepGoing lines line.actor at known answered next counts' after → IsHalfway next counts' after
      went s =
          let moved : Standing = record { through = (base line.actor).through; had = had + 1 } in
          let at_is : next ≡ moved_to line.actor moved base =
          s.at_is ∙ (λ i. moved_to line.actor (going_on (stood i)) (half.at_is i)) ∙ moved_twice line.actor moved (record { through = (base line.actor).through; had = had }) base in
          let low = half.more in
          let less : (at line.actor).had + 1 < had + 2 = let same = had_is in omega (arith, same) in
          let entries : after ≡ half.so_far ++ (if has_come line.call (base line.actor).had (had + 1) then place ∷ [] else []) =
          s.places (had + 2) less
          ∙ (λ i. half.entries i ++ answered_here s.call (had + 2) (call_here s.call s.call_is) i)
          ∙ append_assoc half.so_far (if has_come line.call (base line.actor).had had then place ∷ [] else []) (if nat_eq (had + 1) (answering_turn line.call (had + 2)) then place ∷ [] else [])
          ∙ ap (λ xs. half.so_far ++ xs) (come_going line.call (place ∷ []) (base line.actor).had had low) in
          subst (λ (k : TurnCounts). IsHalfway next k after) (sym s.known_is)
          (inl (record {
            base = base;
            so_far = half.so_far;
            completed = half.completed;
            left = half.left;
            had = had + 1;
            more = omega (arith, low);
            at_is = at_is;
            entries = entries;
          }))

      gone_at : IsStepGone lines line.actor at known answered next counts' after → next ≡ moved_to line.actor (record { through = (base line.actor).through + 1; had = 0 }) base
      gone_at s =
          s.at_is ∙ (λ i. moved_to line.actor (gone_on (stood i)) (half.at_is i))
          ∙ moved_twice line.actor (record { through = (base line.actor).through + 1; had = 0 }) (record { through = (base line.actor).through; had = had }) base

      ended : IsStepGone lines line.actor at known answered next counts' after → IsHalfway next counts' after
      ended s =
          let low = half.more in
          let known_is : counts' ≡ with_count line.actor (seq_at base line.actor) (had + 1) known = s.known_is ∙ (λ i. with_count line.actor (through_is i + 1) (had_is i + 1) known) in
          let ahead : is_ahead base line ≡ nat_lt (base line.actor).had (answering_turn line.call ((base line.actor).had + 1)) = ahead_next (base line.actor) line base_next in
          let entries : after ≡ half.so_far ++ (if is_ahead base line then place ∷ [] else []) =
          s.places
          ∙ (λ i. half.entries i ++ answered_here s.call ((at line.actor).had + 1) (call_here s.call s.call_is) i)
          ∙ ap (λ n. (half.so_far ++ (if has_come line.call (base line.actor).had had then place ∷ [] else [])) ++ (if nat_eq (had + 1) (answering_turn line.call (n + 1)) then place ∷ [] else [])) had_is
          ∙ append_assoc half.so_far (if has_come line.call (base line.actor).had had then place ∷ [] else []) (if nat_eq (had + 1) (answering_turn line.call (had + 1)) then place ∷ [] else [])
          ∙ ap (λ xs. half.so_far ++ xs) (come_gone line.call (place ∷ []) (base line.actor).had had low)
          ∙ sym (ap (λ b. half.so_far ++ (if b then place ∷ [] else [])) ahead) in
          half_is (moved_to line.actor (record { through = (base line.actor).through + 1; had = 0 }) base) next (with_count line.actor (seq_at base line.actor) (had + 1) known) counts'
          (half.so_far ++ (if is_ahead base line then place ∷ [] else [])) after (gone_at s) known_is entries
          (inr (completed_gone lines first counts before passed base known half.so_far half.completed line numbered within is had low half.left))

      pub goes_halfway : IsStep lines line.actor at known answered next counts' after → IsHalfway next counts' after
      goes_halfway step =
          elim step [
            | inl s ↦ absurd (none_some (call_at (calls_in lines) line.actor (seq_at at line.actor)) line.call s.none next_call)
            | inr (inl s) ↦ went s
            | inr (inr s) ↦ ended s
          ]

      -- a step behind which no call of it is on its way brings it behind the line
      at_rest : (moved : Actor) → IsStep lines line.actor at known answered next counts' after → StandsAt lines moved (next line.actor) → (next line.actor).had ≡ 0 → number_of moved ≡ line.actor → nat_le moved.place.line passed ≡ false
      at_rest moved step stands none number =
          elim step [
            | inl s ↦ absurd (none_some (call_at (calls_in lines) line.actor (seq_at at line.actor)) line.call s.none next_call)
            | inr (inl s) ↦
                let had : (next line.actor).had ≡ (at line.actor).had + 1 = ap (λ (s : Standings). (s line.actor).had) s.at_is ∙ ap (λ (s : Standing). s.had) (moved_own line.actor (going_on (at line.actor)) at) in
                absurd (omega (arith, had, none))
            | inr (inr s) ↦
                let gone : (next line.actor).through ≡ (base line.actor).through + 1 =
                ap (λ (s : Standings). (s line.actor).through) (gone_at s) ∙ ap (λ (s : Standing). s.through) (moved_own line.actor (record { through = (base line.actor).through + 1; had = 0 }) base) in
                let here = base_next in
                let same = stands.through in
                behind_line moved number (omega (arith, gone, here, same))
          ]

      -- fewer turns are left
      pub turns_fewer : (actor moved : Actor) (t later : Table) → IsStep lines line.actor at known answered next counts' after → StandsAt lines moved (next line.actor) → number_of moved ≡ line.actor → HasFewer actor t moved later
          → nat_le actor.place.line passed ≡ true → turns_to passed later moved < turns_to passed t actor
      turns_fewer actor moved t later step stands number fewer low = by moved.progress refl
        where
          by : (p : Progress) → moved.progress ≡ p → turns_to passed later moved < turns_to passed t actor
          by Fresh is =
              gone_fewer actor.place.line moved.place.line passed (turns_left moved.progress later) (turns_left actor.progress t) (at_rest moved step stands (subst (λ p. HasHad p (next line.actor).had) is stands.had) number)
              (some_left actor.progress t) low
          by (Read read) is =
              going_fewer actor.place.line moved.place.line passed (turns_left moved.progress later) (turns_left actor.progress t) (subst (λ p. OnWay p (turns_left moved.progress later < turns_left actor.progress t)) is fewer) low
          by (Strip id) is =
              going_fewer actor.place.line moved.place.line passed (turns_left moved.progress later) (turns_left actor.progress t) (subst (λ p. OnWay p (turns_left moved.progress later < turns_left actor.progress t)) is fewer) low

is_low : (m n : ℕ) → m ≤ n → nat_le m n ≡ true
is_low m n h = grind (arith, nat_tests)

pub from_low : (m n : ℕ) → nat_le m n ≡ true → m ≤ n
from_low m n h = grind (arith, nat_tests)

pub from_high : (m n : ℕ) → nat_le m n ≡ false → n < m
from_high m n h = grind (arith, nat_tests)

-- ---- an actor's turns until its line's call is answered

module _ {D : Type 0} {g : Ghosts D} (means : D → Meaning) (origin : D) (clock : ClockMeaning) (lines : List Line) (turns : List ℕ) (passed place : ℕ) (numbered : IsNumbered lines) where
  pub finish_begins : (line : Line) (volume : Volume D g) (actors : List Actor) → slice_get lines passed ≡ Some line → suc place ≡ line.actor → place < 64 → AreFinished means origin clock lines turns passed volume actors
      → IsFinishing means origin clock lines turns passed place volume actors
  finish_begins line volume actors is place_is limit so_far = record {
    line = line;
    line_is = is;
    place_is = place_is;
    limit = limit;
    first = so_far.first;
    counts = so_far.counts;
    before = so_far.before;
    walked = so_far.walked;
    first_sound = so_far.first_sound;
    at = so_far.at;
    known = so_far.known;
    under_way = so_far.under_way;
    half = begins_halfway lines so_far.first so_far.counts so_far.before passed line numbered (slice_get_within lines passed line is) (sym (get_or_from_slice_get lines passed line line is))
        so_far.at so_far.known (places_of (history_of volume)) so_far.completed;
  }

  module _ (volume : Volume D g) (actors : List Actor) (actor : Actor) (there : slice_get actors place ≡ Some actor) (way : IsFinishing means origin clock lines turns passed place volume actors) where
    abbrev player : IsPlayer (means origin) clock lines way.at (answered_by_now volume) (suc place) actor
    player = way.under_way.played.players place actor there

    here : way.line ≡ get_or lines passed way.line
    here = sym (get_or_from_slice_get lines passed way.line way.line way.line_is)

    inside : passed < length lines
    inside = slice_get_within lines passed way.line way.line_is

    number : number_of actor ≡ way.line.actor
    number = player.number_is ∙ way.place_is

    through_here : (way.at way.line.actor).through ≡ answered_count lines actor.place
    through_here = ap (λ n. (way.at n).through) (sym way.place_is) ∙ player.standing.through

    pub finish_ends : passed < actor.place.line → AreFinished means origin clock lines turns (passed + 1) volume actors
    finish_ends past = record {
      first = way.first;
      counts = way.counts;
      before = way.before;
      walked = way.walked;
      first_sound = way.first_sound;
      at = way.at;
      known = way.known;
      under_way = way.under_way;
      completed = elim way.half [
        | inl between ↦
            let through = past_line lines way.first way.counts way.before passed way.line numbered inside here actor number past in
            let same = through_here in
            let less = left_here lines way.first way.counts way.before passed way.line numbered inside here way.at way.known (places_of (history_of volume)) between in
            absurd (omega (arith, through, same, less))
        | inr done ↦ done
      ];
    }

    module _ (low : actor.place.line ≤ passed) (after : Volume D g) (moved : List Actor) (stepped : HasStepped means origin clock lines (suc place) way.at way.known volume after moved) where
      less : (way.at way.line.actor).through < way.line.seq
      less =
          let before = before_line lines way.first way.counts way.before passed way.line numbered inside here actor number low in
          let same = through_here in
          omega (arith, before, same)

      between : IsBetween lines way.first way.counts way.before passed way.line way.at way.known (places_of (history_of volume))
      between = elim way.half [
        | inl it ↦ it
        | inr done ↦
            let all = done.all way.line.actor in
            let here = seq_next lines way.first way.counts way.before passed way.line numbered inside here in
            absurd (omega (arith, all, here, less))
      ]

      step : IsStep lines way.line.actor way.at way.known (places_of (history_of volume)) stepped.next stepped.counts (places_of (history_of after))
      step = subst (λ n. IsStep lines n way.at way.known (places_of (history_of volume)) stepped.next stepped.counts (places_of (history_of after))) way.place_is stepped.step

      pub finish_goes : IsFinishing means origin clock lines turns passed place after moved
      finish_goes = record {
        line = way.line;
        line_is = way.line_is;
        place_is = way.place_is;
        limit = way.limit;
        first = way.first;
        counts = way.counts;
        before = way.before;
        walked = way.walked;
        first_sound = way.first_sound;
        at = stepped.next;
        known = stepped.counts;
        under_way = stepped.under_way;
        half = goes_halfway lines way.first way.counts way.before passed way.line numbered inside here way.at way.known (places_of (history_of volume)) between stepped.next stepped.counts (places_of (history_of after)) step;
      }

      module _ (fewer : (next : Actor) → slice_get moved place ≡ Some next → HasFewer actor (table_of volume) next (table_of after)) where
        finish_fewer : (next : Actor) → slice_get moved place ≡ Some next → turns_to passed (table_of after) next < turns_to passed (table_of volume) actor
        finish_fewer next is =
            let behind = stepped.under_way.played.players place next is in
            turns_fewer lines way.first way.counts way.before passed way.line numbered inside here way.at way.known (places_of (history_of volume)) between stepped.next stepped.counts (places_of (history_of after))
            actor next (table_of volume) (table_of after) step (subst (λ n. StandsAt lines next (stepped.next n)) way.place_is behind.standing) (behind.number_is ∙ way.place_is) (fewer next is) (is_low actor.place.line passed low)

        pub finish_smaller : turns_at passed place (table_of after) moved < turns_at passed place (table_of volume) actors
        finish_smaller =
            let played = stepped.under_way.played in
            let many = played.many in
            let limit = way.limit in
            let next = get_or moved place actor in
            let there_next : slice_get moved place ≡ Some next = slice_get-get_or moved place actor (omega (arith, many, limit)) in
            subst (λ n. n < turns_at passed place (table_of volume) actors) (sym (ap (λ o. option_map_or (turns_to passed (table_of after)) o 0) there_next))
            (subst (λ n. turns_to passed (table_of after) next < n) (sym (ap (λ o. option_map_or (turns_to passed (table_of volume)) o 0) there)) (finish_fewer next there_next))
