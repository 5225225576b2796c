-- What one turn does to what stands while a script is played.
use Rattle.std.proofs.Common.{◌≡◌, ◌≢◌, ◌≤◌, ◌<◌, ◌⊎◌, inl, inr, ℕ, zero, suc, ◌+◌, ◌-◌, true, false, Some, None, Bool, IsSomeAnd, List, [], ◌∷◌, ◌++◌, length, get_or, set, nat_eq, nat_le, if◌then◌else◌, IsTrue, refl, sym, ap, subst, ◌∙◌, arith}
use Rattle.std.specs.Prelude.{slice_get}
use Rattle.std.specs.List.{cons_option, filter_map, AllByRecursion}
use Rattle.std.proofs.lemmas.Bool.Decides.{nat_tests}
use Rattle.std.proofs.lemmas.List.{append-nil, map-append}
use Rattle.std.proofs.lemmas.List.Elements.{filter_map-append}
use Rattle.std.proofs.lemmas.Option.{slice_get-get_or, slice_get_within}
use Rattle.ck_disk.specs.Disk.{Meaning}
use Rattle.ck_io.specs.Clock.{ClockMeaning}
use Rattle.ck_laws.specs.Laws.{frozen}
use Rattle.ck_laws.proofs.OthersLaws.{frozen_maps_last_lem}
use Rattle.ck_model.specs.declared.call.Call.{Call}
use Rattle.ck_model.specs.declared.entry.Entry.{Entry}
use Rattle.ck_model.specs.History.{CallsBy, begun, call_at, calls_of, numbers_of, state}
use Rattle.ck_model.specs.Streams.{Texts}
use Rattle.ck_model.specs.World.{World}
use Rattle.ck_script.specs.declared.line.Line.{Line}
use Rattle.ck_script.specs.Numbered.{calls_in}
use Rattle.ck_volume.specs.declared.event.Progress.{Progress}
use Rattle.ck_volume.specs.declared.event.Progress.TheVariants.{Fresh, Read, Strip}
use Rattle.ck_engine.specs.Recovery.{Recovers}
use Rattle.ck_volume.specs.Event.{newest}
use Rattle.ck_volume.specs.Told.{AreAnswered}
use Rattle.ck_volume.proofs.FitsLaws.{fits_others}
use Rattle.ck_actor.specs.declared.actor.Actor.{Actor}
use Rattle.ck_actor.specs.declared.place.Place.{Place}
use Rattle.ck_actor.specs.Actor.{calls_left, number_of, HasBegun, HasMoment, IsOnWay, Stands, StandsAt}
use Rattle.ck_actor.specs.Completed.{IsSound}
use Rattle.ck_actor.specs.Counts.{TurnCounts, Takes, TakeTurns, frozen_turns}
use Rattle.ck_actor.specs.Place.{call_count}
use Rattle.ck_actor.specs.Played.{all_left, places_of, ArePlayers, AreTaken, HaveMoment, IsNone, IsPlayed, IsPlayer, IsStep}
use Rattle.ck_actor.specs.Turned.{Answered, AddsEntry, IsAnswered, IsEnded, IsEntered, IsIdle, IsTaken, IsTurnFrom}
use Rattle.ck_actor.specs.Turns.{Standing, answering_turn, going_on, gone_on}
use Rattle.ck_actor.specs.Walk.{Standings, seq_at, answered_at, moved_to, with_count}
use Rattle.ck_actor.proofs.ActorLemmas.{lengthen, longer, numbers_of-more}
use Rattle.ck_actor.proofs.CountLemmas.{take_longer, take_more}
use Rattle.ck_actor.proofs.LeftLemmas.{each_actor}
use Rattle.ck_actor.proofs.PlaceLemmas.{calls_as_many}
use Rattle.ck_actor.proofs.TurnLemmas.{agreed-going, agreed-gone, going-count, gone-count, same_number}

-- ---- one element of a list is another

pub get_same : {A : Type 0} (xs : List A) (i : ℕ) (x : A) → i < length xs → slice_get (set xs i x) i ≡ Some x
get_same [] i x within = absurd (omega (arith, within))
get_same (y ∷ xs) zero x within = refl
get_same (y ∷ xs) (suc i) x within = get_same xs i x (omega (arith, within))

get_other : {A : Type 0} (xs : List A) (i j : ℕ) (x : A) → nat_eq j i ≡ false → slice_get (set xs i x) j ≡ slice_get xs j
get_other [] i j x other = refl
get_other (y ∷ xs) zero zero x other = cc
get_other (y ∷ xs) zero (suc j) x other = refl
get_other (y ∷ xs) (suc i) zero x other = refl
get_other (y ∷ xs) (suc i) (suc j) x other = let apart : nat_eq j i ≡ false = grind (arith, nat_tests, other) in get_other xs i j x apart

set_length : {A : Type 0} (xs : List A) (i : ℕ) (x : A) → length (set xs i x) ≡ length xs
set_length [] i x = refl
set_length (y ∷ xs) zero x = refl
set_length (y ∷ xs) (suc i) x = ap suc (set_length xs i x)

pub some_one : {A : Type 0} (x y : A) → Some x ≡ Some y → x ≡ y
some_one x y same = cc

pub weaken : {A : Type 0} (P Q : A → Type 0) (xs : List A) → ((x : A) → P x → Q x) → AllByRecursion P xs → AllByRecursion Q xs
weaken P Q [] each all = tt
weaken P Q (x ∷ xs) each all = (each x all.0, weaken P Q xs each all.1)

-- ---- one actor stands elsewhere

module _ (number : ℕ) (s : Standing) (at : Standings) where
  pub moved_own : moved_to number s at number ≡ s
  moved_own = let own : nat_eq number number ≡ true = grind (arith, nat_tests) in ap (λ b. if b then s else at number) own

  pub moved_other : (a : ℕ) → nat_eq a number ≡ false → moved_to number s at a ≡ at a
  moved_other a other = ap (λ b. if b then s else at a) other

-- ---- an entry of another actor

pub numbers_other : (history : List Entry) (entry : Entry) (actor : ℕ) → nat_eq entry.actor actor ≡ false → numbers_of (history ++ entry ∷ []) actor ≡ numbers_of history actor
numbers_other history entry actor other =
    filter_map-append (λ (e : Entry). if nat_eq e.actor actor then Some e.seq else None) history (entry ∷ [])
    ∙ ap (λ b. numbers_of history actor ++ cons_option (if b then Some entry.seq else None) []) other
    ∙ append-nil (numbers_of history actor)

-- ---- the calls that are left

numbers_own : (history : List Entry) (entry : Entry) (actor : ℕ) → entry.actor ≡ actor → length (numbers_of (history ++ entry ∷ []) actor) ≡ length (numbers_of history actor) + 1
numbers_own history entry actor own = ap (λ (numbers : List ℕ). length numbers) (numbers_of-more history entry actor own) ∙ lengthen (numbers_of history actor) entry.seq

left_above : (lines : List Line) (history : List Entry) (entry : Entry) (n : ℕ) → n < entry.actor → all_left lines (history ++ entry ∷ []) n ≡ all_left lines history n
left_above lines history entry zero above = refl
left_above lines history entry (suc n) above =
    let other : nat_eq entry.actor (suc n) ≡ false = grind (arith, nat_tests, above) in
    ap (λ (numbers : List ℕ). all_left lines (history ++ entry ∷ []) n + (call_count lines (suc n) - length numbers)) (numbers_other history entry (suc n) other)
    ∙ ap (λ k. k + (call_count lines (suc n) - length (numbers_of history (suc n)))) (left_above lines history entry n (omega (arith, above)))

some_actor : (a place : ℕ) → a ≡ suc place → 1 ≤ a
some_actor a place is = omega (arith, is)

low_actor : (a place : ℕ) → a ≡ suc place → place < 64 → a ≤ 64
low_actor a place is limit = omega (arith, is, limit)

-- an entry more takes the room of a call that was left
room_for : (left room length before same next all : ℕ) → left + length ≡ room + before → length ≡ before + 1 → same + 1 ≡ all → next ≡ same → all ≤ room → next ≤ left
room_for left room length before same next all rooms many one is enough = omega (arith, rooms, many, one, is, enough)

less_one : (rest count through : ℕ) → through < count → rest + (count - (through + 1)) + 1 ≡ rest + (count - through)
less_one rest count through within = omega (arith, within)

-- one is less where an entry of an actor comes
left_entry : (lines : List Line) (history : List Entry) (entry : Entry) → 1 ≤ entry.actor → length (numbers_of history entry.actor) < call_count lines entry.actor → (n : ℕ) → entry.actor ≤ n
    → all_left lines (history ++ entry ∷ []) n + 1 ≡ all_left lines history n
left_entry lines history entry some within zero low = absurd (omega (arith, some, low))
left_entry lines history entry some within (suc n) low =
    let after = history ++ entry ∷ [] in
    elim (nat_eq entry.actor (suc n)) as (λ b. nat_eq entry.actor (suc n) ≡ b → all_left lines after (suc n) + 1 ≡ all_left lines history (suc n)) [
      | true ↦ λ own.
          let is : entry.actor ≡ suc n = same_number entry.actor (suc n) own in
          let above = left_above lines history entry n (omega (arith, is)) in
          let within : length (numbers_of history (suc n)) < call_count lines (suc n) = subst (λ k. length (numbers_of history k) < call_count lines k) is within in
          ap (λ k. k + (call_count lines (suc n) - length (numbers_of after (suc n))) + 1) above
          ∙ ap (λ k. all_left lines history n + (call_count lines (suc n) - k) + 1) (numbers_own history entry (suc n) is)
          ∙ less_one (all_left lines history n) (call_count lines (suc n)) (length (numbers_of history (suc n))) within
      | false ↦ λ other.
          let below : entry.actor ≤ n = grind (arith, nat_tests, other, low) in
          let rest = left_entry lines history entry some within n below in
          let same : all_left lines after n + (call_count lines (suc n) - length (numbers_of after (suc n))) ≡ all_left lines after n + (call_count lines (suc n) - length (numbers_of history (suc n))) =
          ap (λ (numbers : List ℕ). all_left lines after n + (call_count lines (suc n) - length numbers)) (numbers_other history entry (suc n) other) in
          omega (arith, rest, same)
    ] refl

left_one : (lines : List Line) (history : List Entry) (number : ℕ) → 1 ≤ number → (n : ℕ) → number ≤ n → call_count lines number - length (numbers_of history number) ≤ all_left lines history n
left_one lines history number some zero low = absurd (omega (arith, some, low))
left_one lines history number some (suc n) low =
    elim (nat_eq (suc n) number) as (λ b. nat_eq (suc n) number ≡ b → call_count lines number - length (numbers_of history number) ≤ all_left lines history (suc n)) [
      | true ↦ λ own. subst (λ k. call_count lines k - length (numbers_of history k) ≤ all_left lines history (suc n)) (same_number (suc n) number own) (omega arith)
      | false ↦ λ other.
          let below : number ≤ n = grind (arith, nat_tests, other, low) in
          let rest = left_one lines history number some n below in
          omega (arith, rest)
    ] refl

-- at first all calls are left
one_more_line : (lines : List Line) (line : Line) (n : ℕ) → all_left (line ∷ lines) [] n ≤ all_left lines [] n + (if nat_le line.actor n then 1 else 0)
one_more_line lines line zero = omega arith
one_more_line lines line (suc n) =
    let rest = one_more_line lines line n in
    elim (nat_eq line.actor (suc n)) as (λ b. nat_eq line.actor (suc n) ≡ b
    → all_left (line ∷ lines) [] n + (length (cons_option (if b then Some line.seq else None) (filter_map (λ (l : Line). if nat_eq l.actor (suc n) then Some l.seq else None) lines)) - 0)
    ≤ (all_left lines [] n + (call_count lines (suc n) - 0)) + (if nat_le line.actor (suc n) then 1 else 0)) [
      | true ↦ λ own.
          let above : nat_le line.actor n ≡ false = grind (arith, nat_tests, own) in
          let here : nat_le line.actor (suc n) ≡ true = grind (arith, nat_tests, own) in
          let rest : all_left (line ∷ lines) [] n ≤ all_left lines [] n + 0 = subst (λ b. all_left (line ∷ lines) [] n ≤ all_left lines [] n + (if b then 1 else 0)) above rest in
          subst (λ b. all_left (line ∷ lines) [] n + (suc (call_count lines (suc n)) - 0) ≤ (all_left lines [] n + (call_count lines (suc n) - 0)) + (if b then 1 else 0)) (sym here) (omega (arith, rest))
      | false ↦ λ other.
          let same : nat_le line.actor (suc n) ≡ nat_le line.actor n = grind (arith, nat_tests, other) in
          subst (λ b. all_left (line ∷ lines) [] n + (call_count lines (suc n) - 0) ≤ (all_left lines [] n + (call_count lines (suc n) - 0)) + (if b then 1 else 0)) (sym same) (omega (arith, rest))
    ] refl

none_first : (n : ℕ) → all_left [] [] n ≡ 0
none_first zero = refl
none_first (suc n) = let rest = none_first n in omega (arith, rest)

at_most_one : (b : Bool) → (if b then 1 else 0) ≤ 1
at_most_one true = omega arith
at_most_one false = omega arith

pub left_first : (lines : List Line) (n : ℕ) → all_left lines [] n ≤ length lines
left_first [] n = let none = none_first n in omega (arith, none)
left_first (line ∷ lines) n =
    let more = one_more_line lines line n in
    let one = at_most_one (nat_le line.actor n) in
    let rest = left_first lines n in
    omega (arith, more, one, rest)

begun_on : (origin : Meaning) (told : List Call) (other : Call) (lines : List Line) (history : List Entry) (entry : Entry) (place : Place) (p : Progress) → entry.actor ≢ place.actor
    → HasBegun origin told lines history place p → HasBegun origin (told ++ other ∷ []) lines (history ++ entry ∷ []) place p
begun_on origin told other lines history entry place p apart way = record {
  line = way.line;
  line_is = way.line_is;
  own = way.own;
  begun = way.begun;
  fits = fits_others origin told other history entry place.actor way.line.call p apart way.fits;
}

way_on : (origin : Meaning) (told : List Call) (other : Call) (lines : List Line) (history : List Entry) (entry : Entry) (place : Place) (p : Progress) → entry.actor ≢ place.actor
    → IsOnWay origin told lines history place p → IsOnWay origin (told ++ other ∷ []) lines (history ++ entry ∷ []) place p
way_on origin told other lines history entry place Fresh apart on_way = tt
way_on origin told other lines history entry place (Read read) apart on_way = begun_on origin told other lines history entry place (Read read) apart on_way
way_on origin told other lines history entry place (Strip id) apart on_way = begun_on origin told other lines history entry place (Strip id) apart on_way

stands_on : (origin : Meaning) (told : List Call) (other : Call) (lines : List Line) (history : List Entry) (entry : Entry) (actor : Actor) → entry.actor ≢ number_of actor
    → Stands origin told lines history actor → Stands origin (told ++ other ∷ []) lines (history ++ entry ∷ []) actor
stands_on origin told other lines history entry actor apart stands = record {
  numbers = let other : nat_eq entry.actor actor.place.actor ≡ false = grind (arith, nat_tests, apart) in numbers_other history entry actor.place.actor other ∙ stands.numbers;
  on_way = way_on origin told other lines history entry actor.place actor.progress apart stands.on_way;
}

-- ---- a call of the script

pub called_within : (lines : List Line) (actor through : ℕ) (call : Call) → call_at (calls_in lines) actor (through + 1) ≡ Some call → through < call_count lines actor
called_within lines actor through call is =
    let same : suc through ≡ through + 1 = omega arith in
    let less = slice_get_within (calls_of (calls_in lines) actor) through call (ap (call_at (calls_in lines) actor) same ∙ is) in
    let many = calls_as_many lines actor in
    omega (arith, less, many)

-- what stands behind a turn of the actor at a place
pub record HasTurned (origin : Meaning) (clock : ClockMeaning) (lines : List Line) (actors : List Actor) (place : ℕ) (moved : Actor) (at : Standings) (known : TurnCounts) (before after : Answered) (left : ℕ) : Type 0 where
  pub next : Standings
  pub counts : TurnCounts
  pub played : IsPlayed origin clock lines (set actors place moved) next counts after left
  pub step : IsStep lines (suc place) at known (places_of before.history) next counts (places_of after.history)

-- ---- one turn of the actor at a place

module _ (origin : Meaning) (clock : ClockMeaning) (lines : List Line) (actors : List Actor) (place : ℕ) (moved : Actor) (within : place < length actors) where
  -- the actor that had the turn, and the others
  each_player : (at next : Standings) (before after : Answered) → IsPlayer origin clock lines next after (suc place) moved
      → ((number : ℕ) (actor : Actor) → nat_eq number (suc place) ≡ false → IsPlayer origin clock lines at before number actor → IsPlayer origin clock lines next after number actor)
      → ArePlayers origin clock lines at before actors → ArePlayers origin clock lines next after (set actors place moved)
  each_player at next before after own others players j actor is =
      elim (nat_eq j place) as (λ b. nat_eq j place ≡ b → IsPlayer origin clock lines next after (suc j) actor) [
        | true ↦ λ same.
            let here : j ≡ place = same_number j place same in
            let found : Some moved ≡ Some actor = sym (get_same actors place moved within) ∙ sym (ap (slice_get (set actors place moved)) here) ∙ is in
            subst (λ n. IsPlayer origin clock lines next after (suc n) actor) (sym here) (subst (IsPlayer origin clock lines next after (suc place)) (some_one moved actor found) own)
        | false ↦ λ other.
            let apart : nat_eq (suc j) (suc place) ≡ false = grind (arith, nat_tests, other) in
            others (suc j) actor apart (players j actor (sym (get_other actors place j moved other) ∙ is))
      ] refl

  module _ (at : Standings) (known : TurnCounts) (before after : Answered) (room left : ℕ) (played : IsPlayed origin clock lines actors at known before room)
      (number : number_of moved ≡ suc place) (stands : Stands origin after.told lines after.history moved) (moment : HasMoment clock moved)
      (rooms : left + length after.history ≡ room + length before.history) (limit : place < 64)
      (answered : AreAnswered (call_at (calls_in lines)) after.told after.history) (moments : HaveMoment clock after.history) where
    abbrev n : ℕ
    n = suc place

    -- no entry came
    steady : (next : Standings) (counts : TurnCounts) → StandsAt lines moved (next n) → ((a : ℕ) → nat_eq a n ≡ false → next a ≡ at a)
        → IsSound lines next counts → AreTaken origin lines next counts before.history → after ≡ before → IsPlayed origin clock lines (set actors place moved) next counts after left
    steady next counts standing other sound takes kept = record {
      many = set_length actors place moved ∙ played.many;
      players = each_player at next before after (record { number_is = number; stands = stands; moment = moment; standing = standing })
          (λ n actor apart player. record {
            number_is = player.number_is;
            stands = subst (λ (a : Answered). Stands origin a.told lines a.history actor) (sym kept) player.stands;
            moment = player.moment;
            standing = subst (StandsAt lines actor) (sym (other n apart)) player.standing;
          })
          played.players;
      others = λ n none. ap (λ (a : Answered). numbers_of a.history n) kept ∙ played.others n none;
      sound = sound;
      left =
          let many : length after.history ≡ length before.history = ap (λ (a : Answered). length a.history) kept in
          let all : all_left lines after.history 64 ≡ all_left lines before.history 64 = ap (λ (a : Answered). all_left lines a.history 64) kept in
          let enough = played.left in
          omega (arith, rooms, many, all, enough);
      takes = subst (λ (a : Answered). AreTaken origin lines next counts a.history) (sym kept) takes;
      answered = answered;
      moments = moments;
    }

    -- ---- where the next call of the actor is known

    module _ (call : Call) (call_is : call_at (calls_in lines) n (seq_at at n) ≡ Some call) where
      abbrev going : Standings
      going = moved_to n (going_on (at n)) at

      abbrev gone : Standings
      gone = moved_to n (gone_on (at n)) at

      abbrev counted : TurnCounts
      counted = with_count n (seq_at at n) ((at n).had + 1) known

      within_calls : (at n).through < call_count lines n
      within_calls = called_within lines n (at n).through call call_is

      sound_going : IsSound lines going known
      sound_going = record {
        positive = played.sound.positive;
        there = each_actor (λ a s. (s.had ≡ 0) ⊎ (s.through < call_count lines a)) n (going_on (at n)) at (inr within_calls) (λ a _. played.sound.there a);
      }

      sound_gone : IsSound lines gone counted
      sound_gone = record {
        positive = λ a seq.
            elim (nat_eq a n) as (λ b. 1 ≤ (if b then (if nat_eq seq (seq_at at n) then (at n).had + 1 else known a seq) else known a seq)) [
              | true ↦ elim (nat_eq seq (seq_at at n)) as (λ b. 1 ≤ (if b then (at n).had + 1 else known a seq)) [ true ↦ omega arith | false ↦ played.sound.positive a seq ]
              | false ↦ played.sound.positive a seq
            ];
        there = each_actor (λ a s. (s.had ≡ 0) ⊎ (s.through < call_count lines a)) n (gone_on (at n)) at (inl refl) (λ a _. played.sound.there a);
      }

      -- where the actor stands elsewhere
      standing_going : (next : Standing) → next ≡ going_on (at n) → StandsAt lines moved next → StandsAt lines moved (going n)
      standing_going next is standing = subst (StandsAt lines moved) (is ∙ sym (moved_own n (going_on (at n)) at)) standing

      standing_gone : (next : Standing) → next ≡ gone_on (at n) → StandsAt lines moved next → StandsAt lines moved (gone n)
      standing_gone next is standing = subst (StandsAt lines moved) (is ∙ sym (moved_own n (gone_on (at n)) at)) standing

      -- what a turn answers at once, or not
      at_now : (count : ℕ) → answering_turn call count ≡ (at n).had + 1 → answered_at n (seq_at at n) (at n).had call count ≡ (n, seq_at at n) ∷ []
      at_now count is = let now : nat_eq ((at n).had + 1) (answering_turn call count) ≡ true = grind (arith, nat_tests, is) in ap (λ b. if b then (n, seq_at at n) ∷ [] else []) now

      at_other : (count : ℕ) → answering_turn call count ≢ (at n).had + 1 → answered_at n (seq_at at n) (at n).had call count ≡ []
      at_other count apart = let not_now : nat_eq ((at n).had + 1) (answering_turn call count) ≡ false = grind (arith, nat_tests, apart) in ap (λ b. if b then (n, seq_at at n) ∷ [] else []) not_now

      -- no entry came, and the turn answers none
      places_still : after ≡ before → (count : ℕ) → answering_turn call count ≢ (at n).had + 1 → places_of after.history ≡ places_of before.history ++ answered_at n (seq_at at n) (at n).had call count
      places_still kept count apart =
          ap (λ (a : Answered). places_of a.history) kept ∙ sym (append-nil (places_of before.history)) ∙ ap (λ now. places_of before.history ++ now) (sym (at_other count apart))

      -- one entry came
      module _ (comes : AddsEntry n (at n) call before after) where
        abbrev entry : Entry
        entry = newest after.history

        places_more : (count : ℕ) → answering_turn call count ≡ (at n).had + 1 → places_of after.history ≡ places_of before.history ++ answered_at n (seq_at at n) (at n).had call count
        places_more count now =
            ap places_of comes.added ∙ map-append (λ (e : Entry). (e.actor, e.seq)) before.history (entry ∷ []) ∙ (λ i. places_of before.history ++ (comes.own i, comes.seq i) ∷ [])
            ∙ ap (λ now. places_of before.history ++ now) (sym (at_now count now))

        takes_more : IsTrue origin.tells → (w : World) → Recovers origin.shows w → (texts : Texts) (counts : TurnCounts)
            → TakeTurns texts (call_at (calls_in lines)) (frozen texts (call_at (calls_in lines)) w before.history) counts (begun w) before.history
            → Takes (frozen_turns (frozen texts (call_at (calls_in lines)) w before.history) (state texts (call_at (calls_in lines)) w before.history) n call) call entry.reply (counts n (seq_at at n))
            → TakeTurns texts (call_at (calls_in lines)) (frozen texts (call_at (calls_in lines)) w after.history) counts (begun w) after.history
        takes_more is_told w found texts counts so_far own =
            let calls : CallsBy = call_at (calls_in lines) in
            let maps = frozen texts calls w before.history in
            let here = state texts calls w before.history in
            let some : IsSomeAnd (calls n (seq_at at n)) (λ call. Takes (frozen_turns maps here n call) call entry.reply (counts n (seq_at at n))) =
            subst (λ o. IsSomeAnd o (λ call. Takes (frozen_turns maps here n call) call entry.reply (counts n (seq_at at n)))) (sym call_is) own in
            let some : IsSomeAnd (calls n entry.seq) (λ call. Takes (frozen_turns maps here n call) call entry.reply (counts n entry.seq)) =
            subst (λ q. IsSomeAnd (calls n q) (λ call. Takes (frozen_turns maps here n call) call entry.reply (counts n q))) (sym comes.seq) some in
            let some : IsSomeAnd (calls entry.actor entry.seq) (λ call. Takes (frozen_turns maps here entry.actor call) call entry.reply (counts entry.actor entry.seq)) =
            subst (λ a. IsSomeAnd (calls a entry.seq) (λ call. Takes (frozen_turns maps here a call) call entry.reply (counts a entry.seq))) (sym comes.own) some in
            subst (λ (es : List Entry). TakeTurns texts calls (frozen texts calls w es) counts (begun w) es) (sym comes.added)
            (take_longer maps (frozen texts calls w (before.history ++ entry ∷ [])) (frozen_maps_last_lem texts calls w before.history (entry ∷ []))
            texts calls counts (begun w) (before.history ++ entry ∷ []) (take_more texts calls maps counts (begun w) before.history entry so_far some))

        player_more : (next : Standings) → ((a : ℕ) → nat_eq a n ≡ false → next a ≡ at a) → (a : ℕ) (actor : Actor) → nat_eq a n ≡ false → IsPlayer origin clock lines at before a actor → IsPlayer origin clock lines next after a actor
        player_more next others a actor other player =
            let is = player.number_is in
            let by = comes.own in
            let apart : entry.actor ≢ number_of actor = grind (arith, nat_tests, is, by, other) in
            record {
              number_is = player.number_is;
              stands = subst (λ (told : List Call). Stands origin told lines after.history actor) (sym comes.told)
                  (subst (λ (es : List Entry). Stands origin (before.told ++ call ∷ []) lines es actor) (sym comes.added) (stands_on origin before.told call lines before.history entry actor apart player.stands));
              moment = player.moment;
              standing = subst (StandsAt lines actor) (sym (others a other)) player.standing;
            }

        not_none : (a : ℕ) → IsNone a → nat_eq entry.actor a ≡ false
        not_none a none =
            let by = comes.own in
            elim none [
              | inl first ↦ grind (arith, nat_tests, by, first)
              | inr above ↦ grind (arith, nat_tests, by, above, limit)
            ]

        played_more : (next : Standings) (counts : TurnCounts) → StandsAt lines moved (next n) → ((a : ℕ) → nat_eq a n ≡ false → next a ≡ at a)
            → IsSound lines next counts → AreTaken origin lines next counts after.history → IsPlayed origin clock lines (set actors place moved) next counts after left
        played_more next counts standing other sound takes = record {
          many = set_length actors place moved ∙ played.many;
          players = each_player at next before after (record { number_is = number; stands = stands; moment = moment; standing = standing }) (player_more next other) played.players;
          others = λ a none. ap (λ (es : List Entry). numbers_of es a) comes.added ∙ numbers_other before.history entry a (not_none a none) ∙ played.others a none;
          sound = sound;
          left =
              let many : length after.history ≡ length before.history + 1 = ap (λ (es : List Entry). length es) comes.added ∙ longer before.history entry in
              let so_far : length (numbers_of before.history entry.actor) < call_count lines entry.actor =
              subst (λ a. length (numbers_of before.history a) < call_count lines a) (sym comes.own) (subst (λ k. k < call_count lines n) (sym comes.so_far) within_calls) in
              let one = left_entry lines before.history entry (some_actor entry.actor place comes.own) so_far 64 (low_actor entry.actor place comes.own limit) in
              let same : all_left lines after.history 64 ≡ all_left lines (before.history ++ entry ∷ []) 64 = ap (λ (es : List Entry). all_left lines es 64) comes.added in
              room_for left room (length after.history) (length before.history) (all_left lines (before.history ++ entry ∷ []) 64) (all_left lines after.history 64) (all_left lines before.history 64) rooms many one same played.left;
          takes = takes;
          answered = answered;
          moments = moments;
        }

    -- ---- what the turn did

    idle : (next : Standing) → StandsAt lines moved next → IsIdle lines n (at n) next before after → HasTurned origin clock lines actors place moved at known before after left
    idle next standing turn = record {
      next = at;
      counts = known;
      played = steady at known (subst (StandsAt lines moved) turn.standing standing) (λ a _. refl) played.sound played.takes turn.history;
      step = inl (record { none = turn.none; at_is = refl; known_is = refl; places = ap (λ (a : Answered). places_of a.history) turn.history });
    }

    taken : (next : Standing) → StandsAt lines moved next → IsTaken lines n (at n) next before after → HasTurned origin clock lines actors place moved at known before after left
    taken next standing turn = record {
      next = going turn.call turn.call_is;
      counts = known;
      played = steady (going turn.call turn.call_is) known (standing_going turn.call turn.call_is next turn.standing standing) (moved_other n (going_on (at n)) at) (sound_going turn.call turn.call_is)
          (λ is_told w found texts counts agrees. played.takes is_told w found texts counts (agreed-going counts at known n agrees)) turn.history;
      step = inr (inl (record {
        call = turn.call;
        call_is = turn.call_is;
        at_is = refl;
        known_is = refl;
        places = λ count less. places_still turn.call turn.call_is turn.history count (turn.later count less);
      }));
    }

    ended : (next : Standing) → StandsAt lines moved next → IsEnded lines n (at n) next before after → HasTurned origin clock lines actors place moved at known before after left
    ended next standing turn = record {
      next = gone turn.call turn.call_is;
      counts = counted turn.call turn.call_is;
      played = steady (gone turn.call turn.call_is) (counted turn.call turn.call_is) (standing_gone turn.call turn.call_is next turn.standing standing) (moved_other n (gone_on (at n)) at) (sound_gone turn.call turn.call_is)
          (λ is_told w found texts counts agrees. played.takes is_told w found texts counts (agreed-gone counts at known n agrees)) turn.history;
      step = inr (inr (record {
        call = turn.call;
        call_is = turn.call_is;
        at_is = refl;
        known_is = refl;
        places = places_still turn.call turn.call_is turn.history ((at n).had + 1) turn.earlier;
      }));
    }

    entered : (next : Standing) → StandsAt lines moved next → IsEntered origin lines n (at n) next before after → HasTurned origin clock lines actors place moved at known before after left
    entered next standing turn = record {
      next = going turn.call turn.call_is;
      counts = known;
      played = played_more turn.call turn.call_is turn.entry (going turn.call turn.call_is) known (standing_going turn.call turn.call_is next turn.standing standing) (moved_other n (going_on (at n)) at) (sound_going turn.call turn.call_is)
          (λ is_told w found texts counts agrees.
          takes_more turn.call turn.call_is turn.entry is_told w found texts counts (played.takes is_told w found texts counts (agreed-going counts at known n agrees))
          (turn.takes (counts n (seq_at at n)) (going-count counts at known n agrees) is_told w found texts played.answered));
      step = inr (inl (record {
        call = turn.call;
        call_is = turn.call_is;
        at_is = refl;
        known_is = refl;
        places = λ count less. places_more turn.call turn.call_is turn.entry count (turn.now count less);
      }));
    }

    answers : (next : Standing) → StandsAt lines moved next → IsAnswered origin lines n (at n) next before after → HasTurned origin clock lines actors place moved at known before after left
    answers next standing turn = record {
      next = gone turn.call turn.call_is;
      counts = counted turn.call turn.call_is;
      played = played_more turn.call turn.call_is turn.entry (gone turn.call turn.call_is) (counted turn.call turn.call_is) (standing_gone turn.call turn.call_is next turn.standing standing) (moved_other n (gone_on (at n)) at) (sound_gone turn.call turn.call_is)
          (λ is_told w found texts counts agrees.
          let maps = frozen texts (call_at (calls_in lines)) w before.history in
          let here = state texts (call_at (calls_in lines)) w before.history in
          takes_more turn.call turn.call_is turn.entry is_told w found texts counts (played.takes is_told w found texts counts (agreed-gone counts at known n agrees))
          (subst (Takes (frozen_turns maps here n turn.call) turn.call (newest after.history).reply) (sym (gone-count counts at known n agrees)) (turn.takes is_told w found texts played.answered)));
      step = inr (inr (record {
        call = turn.call;
        call_is = turn.call_is;
        at_is = refl;
        known_is = refl;
        places = places_more turn.call turn.call_is turn.entry ((at n).had + 1) turn.now;
      }));
    }

    -- whatever the turn did
    pub turned : IsTurnFrom origin lines n (at n) moved before after → HasTurned origin clock lines actors place moved at known before after left
    turned it = elim it.turn [
      | inl turn ↦ idle it.next it.stands turn
      | inr (inl turn) ↦ taken it.next it.stands turn
      | inr (inr (inl turn)) ↦ entered it.next it.stands turn
      | inr (inr (inr (inl turn))) ↦ answers it.next it.stands turn
      | inr (inr (inr (inr turn))) ↦ ended it.next it.stands turn
    ]

-- ---- the actor at a place

module _ (origin : Meaning) (clock : ClockMeaning) (lines : List Line) (actors : List Actor) (at : Standings) (known : TurnCounts) (now : Answered) (room : ℕ) (played : IsPlayed origin clock lines actors at known now room) (place : ℕ) (limit : place < 64) (default : Actor) where
  pub actor_there : slice_get actors place ≡ Some (get_or actors place default)
  actor_there = let many = played.many in slice_get-get_or actors place default (omega (arith, many, limit))

  pub own_player : IsPlayer origin clock lines at now (suc place) (get_or actors place default)
  own_player = played.players place (get_or actors place default) actor_there

  pub own_room : calls_left lines (get_or actors place default) ≤ room
  own_room =
      let actor = get_or actors place default in
      let left : calls_left lines actor ≡ call_count lines actor.place.actor - length (numbers_of now.history actor.place.actor) =
      ap (λ (numbers : List ℕ). call_count lines actor.place.actor - length numbers) (sym own_player.stands.numbers) in
      let same : call_count lines actor.place.actor - length (numbers_of now.history actor.place.actor) ≡ call_count lines (suc place) - length (numbers_of now.history (suc place)) =
      ap (λ n. call_count lines n - length (numbers_of now.history n)) own_player.number_is in
      let one = left_one lines now.history (suc place) (omega arith) 64 (omega (arith, limit)) in
      let enough = played.left in
      omega (arith, left, same, one, enough)
