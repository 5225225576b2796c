-- What stands before the first turn, and what follows once all calls are through.
use Rattle.std.proofs.Common.{◌≡◌, ◌≤◌, ◌<◌, inl, inr, ℕ, zero, suc, ◌+◌, true, false, Some, None, IsTrue, List, [], ◌∷◌, ◌++◌, length, take, drop, nat_eq, nat_lt, if◌then◌else◌, refl, sym, ap, subst, ◌∙◌, arith, length-append}
use Rattle.std.specs.List.{cons_option, range_with_len, AllByRecursion}
use Rattle.std.proofs.lemmas.Bool.Decides.{nat_tests}
use Rattle.std.proofs.lemmas.List.{append-nil, take_all, take-append-drop}
use Rattle.std.proofs.lemmas.Option.{slice_get_cases}
use Rattle.ck_disk.specs.Disk.{Meaning}
use Rattle.ck_disk.specs.declared.disk.Disk.{Ghosts}
use Rattle.ck_io.specs.Clock.{ClockMeaning}
use Rattle.ck_model.specs.declared.entry.Entry.{Entry}
use Rattle.ck_model.specs.History.{IsOfScript, call_at, calls_of, numbers_of}
use Rattle.ck_model.specs.Streams.{Texts}
use Rattle.ck_model.specs.World.{World}
use Rattle.ck_script.specs.declared.line.Line.{Line}
use Rattle.ck_script.specs.Numbered.{calls_in, numbers_in, IsNumbered}
use Rattle.ck_engine.specs.Recovery.{Recovers}
use Rattle.ck_volume.specs.TopCuts.{synced_count}
use Rattle.ck_volume.specs.Volume.{committed_of, history_of, origin_of, room_of, spoilt_of, told_of}
use Rattle.ck_volume.specs.declared.volume.Volume.{Volume}
use Rattle.ck_actor.specs.declared.actor.Actor.{Actor}
use Rattle.ck_actor.specs.declared.place.Place.{Place}
use Rattle.ck_volume.specs.declared.event.Progress.TheVariants.{Fresh}
use Rattle.ck_actor.specs.Actor.{entered_line, entered_numbers, HasHad, IsNew, IsOnWay, OnWay}
use Rattle.ck_actor.specs.Counts.{TurnCounts}
use Rattle.ck_actor.specs.Place.{answered_count, call_count}
use Rattle.ck_actor.specs.Played.{places_of, AreBegun, AreFinished, AreTurned, HasStepped, IsNone, IsPlayed, IsPlayer, IsUnderWay}
use Rattle.ck_actor.specs.Turned.{Answered}
use Rattle.ck_actor.specs.Turns.{Follows, at_first}
use Rattle.ck_actor.specs.Walk.{Standings, seq_at, Agrees, IsWalked}
use Rattle.ck_actor.proofs.ActorLemmas.{entered_behind}
use Rattle.ck_actor.proofs.LeftLemmas.{completed_all, completed_begins}
use Rattle.ck_actor.proofs.PlaceLemmas.{calls_as_many, numbers_in-append}
use Rattle.ck_actor.proofs.PlayedLemmas.{left_first}
use Rattle.ck_actor.proofs.StepLemmas.{count_grows}
use Rattle.ck_actor.proofs.TurnLemmas.{walk_begins}

below : (m n : ℕ) → nat_lt m n ≡ true → m < n
below m n h = grind (arith, nat_tests)

not_below : (m n : ℕ) → nat_lt m n ≡ false → n ≤ m
not_below m n h = grind (arith, nat_tests)

-- ---- before the first turn

-- each call takes one turn, as far as is known
abbrev once : TurnCounts
once actor seq = 1

new_player : (origin : Meaning) (clock : ClockMeaning) (lines : List Line) (number : ℕ) (actor : Actor) → IsNew number actor → IsPlayer origin clock lines at_first (record { told = []; history = [] }) number actor
new_player origin clock lines number actor new = record {
  number_is = ap (λ (p : Place). p.actor) new.place_is;
  stands = record {
    numbers = subst (λ p. [] ≡ entered_numbers lines actor.place p) (sym new.progress_is) (subst (λ (p : Place). [] ≡ entered_numbers lines p Fresh) (sym new.place_is) refl);
    on_way = subst (λ p. IsOnWay origin [] lines [] actor.place p) (sym new.progress_is) tt;
  };
  moment = subst (λ p. OnWay p (IsTrue clock.tells → actor.began ≡ clock.moment)) (sym new.progress_is) tt;
  standing = record {
    through = subst (λ (p : Place). 0 ≡ answered_count lines p) (sym new.place_is) refl;
    had = subst (λ p. HasHad p 0) (sym new.progress_is) refl;
  };
}

first_played : (origin : Meaning) (clock : ClockMeaning) (lines : List Line) (actors : List Actor) (room : ℕ) → AreBegun actors → length lines ≤ room → IsPlayed origin clock lines actors at_first once (record { told = []; history = [] }) room
first_played origin clock lines actors room begun enough = record {
  many = begun.many;
  players = λ place actor is. new_player origin clock lines (suc place) actor (begun.each place actor is);
  others = λ number none. refl;
  sound = record { positive = λ actor seq. omega arith; there = λ actor. inl refl };
  left = let all = left_first lines 64 in omega (arith, all, enough);
  takes = λ is_told w found texts counts agrees. tt;
  answered = tt;
  moments = λ is_told. tt;
}

pub first_turned : {D : Type 0} {g : Ghosts D} (means : D → Meaning) (clock : ClockMeaning) (lines : List Line) (volume : Volume D g) (actors : List Actor) → AreBegun actors → length lines ≤ room_of volume
    → history_of volume ≡ [] → told_of volume ≡ [] → spoilt_of volume ≡ None → AreTurned means (origin_of volume) clock lines [] volume actors
first_turned means clock lines volume actors begun enough history told unspoilt = record {
  at = at_first;
  known = once;
  under_way = record {
    played = subst (λ (now : Answered). IsPlayed (means (origin_of volume)) clock lines actors at_first once now (room_of volume)) (λ i. record { told = sym told i; history = sym history i })
        (first_played (means (origin_of volume)) clock lines actors (room_of volume) begun enough);
    synced = subst (λ (es : List Entry). synced_count (call_at (calls_in lines)) es ≤ committed_of volume) (sym history) (omega arith);
    unspoilt = unspoilt;
    origin_is = refl;
  };
  walked = subst (λ (es : List Entry). IsWalked lines at_first once [] (places_of es)) (sym history) (walk_begins lines once);
}

-- ---- behind the listed turns

pub first_finished : {D : Type 0} {g : Ghosts D} (means : D → Meaning) (origin : D) (clock : ClockMeaning) (lines : List Line) (turns : List ℕ) (volume : Volume D g) (actors : List Actor)
    → AreTurned means origin clock lines turns volume actors → AreFinished means origin clock lines turns 0 volume actors
first_finished means origin clock lines turns volume actors so_far = record {
  first = so_far.at;
  counts = so_far.known;
  before = places_of (history_of volume);
  walked = so_far.walked;
  first_sound = so_far.under_way.played.sound;
  at = so_far.at;
  known = so_far.known;
  under_way = so_far.under_way;
  completed = completed_begins lines so_far.at so_far.known (places_of (history_of volume));
}

-- ---- behind the last one

-- an actor whose calls are all before a line has just those
all_numbers : (lines : List Line) (at actor : ℕ) → call_count lines actor ≤ call_count (take at lines) actor → numbers_in (take at lines) actor ≡ numbers_in lines actor
all_numbers lines at actor enough =
    let parts : numbers_in lines actor ≡ numbers_in (take at lines) actor ++ numbers_in (drop at lines) actor =
    ap (λ xs. numbers_in xs actor) (sym (take-append-drop at lines)) ∙ numbers_in-append (take at lines) (drop at lines) actor in
    let many : length (numbers_in (take at lines) actor ++ numbers_in (drop at lines) actor) ≡ length (numbers_in (take at lines) actor) + length (numbers_in (drop at lines) actor) = simp length-append (omega arith) in
    let all : call_count lines actor ≡ length (numbers_in (take at lines) actor ++ numbers_in (drop at lines) actor) = ap (λ (numbers : List ℕ). length numbers) parts in
    let none : numbers_in (drop at lines) actor ≡ [] = empty (numbers_in (drop at lines) actor) (omega (arith, enough, many, all)) in
    sym (parts ∙ ap (λ rest. numbers_in (take at lines) actor ++ rest) none ∙ append-nil (numbers_in (take at lines) actor))
  where
    empty : (xs : List ℕ) → length xs ≡ 0 → xs ≡ []
    empty [] none = refl
    empty (x ∷ xs) none = absurd (omega (arith, none))

pub none_numbers : (lines : List Line) (number : ℕ) → AllByRecursion (λ line. (1 ≤ line.actor) × (line.actor ≤ 64)) lines → IsNone number → numbers_in lines number ≡ []
none_numbers [] number all none = refl
none_numbers (line ∷ lines) number all none =
    let some = all.0.0 in
    let low = all.0.1 in
    let other : nat_eq line.actor number ≡ false =
    elim none [
      | inl first ↦ grind (arith, nat_tests, some, first)
      | inr above ↦ grind (arith, nat_tests, low, above)
    ] in
    ap (λ b. cons_option (if b then Some line.seq else None) (numbers_in lines number)) other ∙ none_numbers lines number all.1 none

no_entries : (lines : List Line) (history : List Entry) (number : ℕ) → IsNumbered lines → numbers_of history number ≡ [] → numbers_in lines number ≡ [] → numbers_of history number ≡ range_with_len 1 (length (calls_of (calls_in lines) number))
no_entries lines history number numbered history_none none =
    history_none ∙ sym none ∙ numbered number ∙ ap (range_with_len 1) (sym (calls_as_many lines number))

module _ {D : Type 0} {g : Ghosts D} (means : D → Meaning) (origin : D) (clock : ClockMeaning) (lines : List Line) (turns : List ℕ) (volume : Volume D g) (actors : List Actor)
    (end : AreFinished means origin clock lines turns (length lines) volume actors) where
  -- each actor's calls are through
  own_entries : (place : ℕ) → place < 64 → IsNumbered lines → numbers_of (history_of volume) (suc place) ≡ range_with_len 1 (length (calls_of (calls_in lines) (suc place)))
  own_entries place within numbered =
      let played = end.under_way.played in
      elim (slice_get_cases actors place).1 [
        | inl there ↦
            let actor = there.0 in
            let player = played.players place actor there.2 in
            let number = player.number_is in
            let whole : take (length lines) lines ≡ lines = take_all (length lines) lines (omega arith) in
            let all : call_count lines (suc place) ≤ (end.at (suc place)).through = subst (λ (xs : List Line). call_count xs (suc place) ≤ (end.at (suc place)).through) whole (end.completed.all (suc place)) in
            let through : (end.at (suc place)).through ≡ answered_count lines actor.place = player.standing.through in
            let here : call_count (take actor.place.line lines) (suc place) ≡ answered_count lines actor.place = ap (call_count (take actor.place.line lines)) (sym number) in
            let last = entered_line actor.place actor.progress in
            let more = count_grows lines actor.place.line last (suc place) (entered_behind actor.place actor.progress) in
            let enough : call_count lines (suc place) ≤ call_count (take last lines) (suc place) = omega (arith, all, through, here, more) in
            subst (λ n. numbers_of (history_of volume) n ≡ numbers_in (take last lines) n) number player.stands.numbers
            ∙ all_numbers lines last (suc place) enough
            ∙ numbered (suc place)
            ∙ ap (range_with_len 1) (sym (calls_as_many lines (suc place)))
        | inr past ↦ let many = played.many in let less = past.0 in absurd (omega (arith, many, less, within))
      ]

  pub whole_script : IsNumbered lines → AllByRecursion (λ line. (1 ≤ line.actor) × (line.actor ≤ 64)) lines → IsOfScript (calls_in lines) (history_of volume)
  whole_script numbered among zero = no_entries lines (history_of volume) 0 numbered (end.under_way.played.others 0 (inl refl)) (none_numbers lines 0 among (inl refl))
  whole_script numbered among (suc place) =
      elim (nat_lt place 64) as (λ b. nat_lt place 64 ≡ b → numbers_of (history_of volume) (suc place) ≡ range_with_len 1 (length (calls_of (calls_in lines) (suc place)))) [
        | true ↦ λ less. own_entries place (below place 64 less) numbered
        | false ↦ λ not_less.
            let low = not_below place 64 not_less in
            let above : 64 < suc place = omega (arith, low) in
            no_entries lines (history_of volume) (suc place) numbered (end.under_way.played.others (suc place) (inr above)) (none_numbers lines (suc place) among (inr above))
      ] refl

  -- each count is that of a call that is through
  all_agree : Agrees end.known end.at end.known
  all_agree = record {
    through = λ actor seq low. refl;
    going = λ actor.
        let whole : take (length lines) lines ≡ lines = take_all (length lines) lines (omega arith) in
        let all : call_count lines actor ≤ (end.at actor).through = subst (λ (xs : List Line). call_count xs actor ≤ (end.at actor).through) whole (end.completed.all actor) in
        let sound = end.under_way.played.sound in
        let some = sound.positive actor (seq_at end.at actor) in
        elim (sound.there actor) [
          | inl none ↦ omega (arith, none, some)
          | inr there ↦ absurd (omega (arith, there, all))
        ];
  }

  -- the history follows the turns
  pub whole_follows : IsTrue (means origin).tells → (w : World) → Recovers (means origin).shows w → (texts : Texts) → Follows texts (record { calls = lines; turns = turns }) w (history_of volume)
  whole_follows is_told w found texts = record {
    counts = end.known;
    taken = end.under_way.played.takes is_told w found texts end.known all_agree;
    order = completed_all lines end.first end.counts end.before (length lines) end.at end.known (places_of (history_of volume)) turns (omega arith)
        end.walked end.first_sound end.under_way.played.sound end.completed;
  }

-- ---- the same origin and clock under other names

pub turned_from : {D : Type 0} {g : Ghosts D} (means : D → Meaning) (origin from : D) (clock by : ClockMeaning) (lines : List Line) (turns : List ℕ) (volume : Volume D g) (actors : List Actor) → origin ≡ from → clock ≡ by
    → AreTurned means origin clock lines turns volume actors → AreTurned means from by lines turns volume actors
turned_from means origin from clock by lines turns volume actors same same_clock so_far =
    subst (λ o. AreTurned means o by lines turns volume actors) same (subst (λ (m : ClockMeaning). AreTurned means origin m lines turns volume actors) same_clock so_far)

pub finished_from : {D : Type 0} {g : Ghosts D} (means : D → Meaning) (origin from : D) (clock by : ClockMeaning) (lines : List Line) (turns : List ℕ) (passed : ℕ) (volume : Volume D g) (actors : List Actor) → origin ≡ from → clock ≡ by
    → AreFinished means origin clock lines turns passed volume actors → AreFinished means from by lines turns passed volume actors
finished_from means origin from clock by lines turns passed volume actors same same_clock so_far =
    subst (λ o. AreFinished means o by lines turns passed volume actors) same (subst (λ (m : ClockMeaning). AreFinished means origin m lines turns passed volume actors) same_clock so_far)

pub way_from : {D : Type 0} {g : Ghosts D} (means : D → Meaning) (origin from : D) (clock by : ClockMeaning) (lines : List Line) (volume : Volume D g) (actors : List Actor) (at : Standings) (known : TurnCounts) → origin ≡ from → clock ≡ by
    → IsUnderWay means origin clock lines volume actors at known → IsUnderWay means from by lines volume actors at known
way_from means origin from clock by lines volume actors at known same same_clock way =
    subst (λ o. IsUnderWay means o by lines volume actors at known) same (subst (λ (m : ClockMeaning). IsUnderWay means origin m lines volume actors at known) same_clock way)

pub stepped_from : {D : Type 0} {g : Ghosts D} (means : D → Meaning) (origin from : D) (clock by : ClockMeaning) (lines : List Line) (number : ℕ) (at : Standings) (known : TurnCounts) (before after : Volume D g) (actors : List Actor) → origin ≡ from → clock ≡ by
    → HasStepped means origin clock lines number at known before after actors → HasStepped means from by lines number at known before after actors
stepped_from means origin from clock by lines number at known before after actors same same_clock stepped =
    subst (λ o. HasStepped means o by lines number at known before after actors) same (subst (λ (m : ClockMeaning). HasStepped means origin m lines number at known before after actors) same_clock stepped)
