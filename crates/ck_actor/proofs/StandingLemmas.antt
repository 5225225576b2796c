-- Where an actor stands behind an event of the call of its line.
use Rattle.std.proofs.Common.{◌≡◌, ◌<◌, inl, inr, ℕ, ◌+◌, true, Some, List, length, take, get_or, nat_eq, refl, sym, ap, subst, ◌∙◌, arith}
use Rattle.std.specs.List.{AllByRecursion}
use Rattle.std.proofs.lemmas.Bool.Decides.{nat_tests}
use Rattle.ck_disk.specs.Disk.{Meaning}
use Rattle.ck_disk.specs.declared.disk.Disk.{Ghosts}
use Rattle.ck_model.specs.declared.entry.Entry.{Entry}
use Rattle.ck_model.specs.History.{call_at, numbers_of, state}
use Rattle.ck_laws.specs.Laws.{frozen}
use Rattle.ck_script.specs.declared.line.Line.{Line}
use Rattle.ck_script.specs.Numbered.{calls_in, numbers_in, IsNumbered}
use Rattle.ck_files.specs.Built.{IsBuilt}
use Rattle.ck_volume.specs.declared.event.Progress.{Progress}
use Rattle.ck_volume.specs.declared.event.Progress.TheVariants.{Fresh, Read, Strip}
use Rattle.ck_volume.specs.declared.event.Turn.TheVariants.{Answered}
use Rattle.ck_volume.specs.declared.volume.Volume.{Volume}
use Rattle.ck_volume.specs.Event.{newest}
use Rattle.ck_volume.specs.Progress.{had_of, FitsHistory, IsLastOf}
use Rattle.ck_volume.specs.Turn.{entries_had, OnEntry, OnStrip}
use Rattle.ck_volume.specs.Volume.{history_of, origin_of, table_of, told_of}
use Rattle.ck_actor.specs.declared.actor.Actor.{Actor}
use Rattle.ck_actor.specs.declared.place.Place.{Place}
use Rattle.ck_actor.specs.Actor.{entered_line, entered_numbers, HasHad, IsOnWay, Stands, StandsAt}
use Rattle.ck_actor.specs.Counts.{Takes, frozen_turns}
use Rattle.ck_actor.specs.Turned.{answered_by_now, AddsEntry, IsTurnFrom}
use Rattle.ck_actor.specs.Turns.{Standing, going_on, gone_on}
use Rattle.ck_actor.proofs.ActorLemmas.{begun_here, each_at, fits_here, lengthen, next_call_here, one_through, stands_more, takes_of}
use Rattle.ck_actor.proofs.EventLemmas.{Answers, Did, Ends, Enters, HasEntry, TakesOn}
use Rattle.ck_actor.proofs.PlaceLemmas.{own_line, own_number}

-- how many entries it has before the event of its line's call
entered_so_far : (lines : List Line) (place : Place) (line : Line) (progress : Progress) → IsNumbered lines → place.line < length lines → line ≡ get_or lines place.line line → nat_eq line.actor place.actor ≡ true
    → line.seq + entries_had progress ≡ length (entered_numbers lines place progress) + 1
entered_so_far lines place line Fresh numbered within is own = let number = own_number lines place.line line place.actor numbered within is own in omega (arith, number)
entered_so_far lines place line (Read read) numbered within is own = let number = own_number lines place.line line place.actor numbered within is own in omega (arith, number)
entered_so_far lines place line (Strip id) numbered within is own =
    let number = own_number lines place.line line place.actor numbered within is own in
    let more = ap (λ (numbers : List ℕ). length numbers) (own_line lines place.line line place.actor within is own) ∙ lengthen (numbers_in (take place.line lines) place.actor) line.seq in
    omega (arith, number, more)

-- what a call's entry says where it didn't strip
entry_there : (was now : Progress) (X : Type 0) → OnStrip was (λ id. ⊥) → OnEntry was Answered now X → X
entry_there Fresh now X none x = x
entry_there (Read read) now X none x = x
entry_there (Strip id) now X none x = absurd none

module _ {D : Type 0} {g : Ghosts D} (means : D → Meaning) (before after : Volume D g) (lines : List Line) (actor : Actor) (line : Line)
    (numbered : IsNumbered lines) (within : actor.place.line < length lines) (is : line ≡ get_or lines actor.place.line line) (own : nat_eq line.actor actor.place.actor ≡ true)
    (stands : Stands (means (origin_of before)) (told_of before) lines (history_of before) actor) where
  abbrev n : ℕ
  n = actor.place.actor

  same : line.actor ≡ n
  same = grind (arith, nat_tests, own)

  -- the number of the call
  pub event_number : line.seq + entries_had actor.progress ≡ length (numbers_of (history_of before) line.actor) + 1
  event_number =
      entered_so_far lines actor.place line actor.progress numbered within is own
      ∙ ap (λ (numbers : List ℕ). length numbers + 1) (sym stands.numbers)
      ∙ ap (λ k. length (numbers_of (history_of before) k) + 1) (sym same)

  module _ (began : ℕ) where
    -- ---- where its entry came

    module _ (it : HasEntry before after line.actor line.seq began line.call) (line_was : entered_line actor.place actor.progress ≡ actor.place.line) where
      abbrev entry : Entry
      entry = newest (history_of after)

      numbers_was : numbers_of (history_of before) n ≡ numbers_in (take actor.place.line lines) n
      numbers_was = stands.numbers ∙ ap (λ k. numbers_in (take k lines) n) line_was

      numbers_more : (next : ℕ) → numbers_in (take next lines) n ≡ numbers_in (take (actor.place.line + 1) lines) n → numbers_of (history_of after) n ≡ numbers_in (take next lines) n
      numbers_more next behind =
          ap (λ (es : List Entry). numbers_of es n) it.added
          ∙ stands_more lines actor.place.line next line n (history_of before) entry within is own (it.entry.actor_is ∙ same) it.entry.seq_is behind numbers_was

      adds : (at : Standing) → StandsAt lines actor at → AddsEntry n at line.call (answered_by_now before) (answered_by_now after)
      adds at stood = record {
        told = it.told;
        added = it.added;
        own = it.entry.actor_is ∙ same;
        seq = it.entry.seq_is ∙ own_number lines actor.place.line line n numbered within is own ∙ ap (λ k. k + 1) (sym stood.through);
        so_far = ap (λ (numbers : List ℕ). length numbers) numbers_was ∙ sym stood.through;
      }

    call_here : (at : Standing) → StandsAt lines actor at → call_at (calls_in lines) n (at.through + 1) ≡ Some line.call
    call_here at stood = ap (λ k. call_at (calls_in lines) n (k + 1)) stood.through ∙ next_call_here lines actor.place.line line n numbered within is own

    -- ---- behind an event behind which the call goes on

    module _ (now : Progress) (moved : Actor) (place_is : moved.place ≡ actor.place) (progress_is : moved.progress ≡ now)
        (did : Did before after line.actor line.seq began line.call (TakesOn line.call actor.progress (table_of before) now (table_of after)) (Enters line.call (newest (history_of after)).reply actor.progress (table_of before) now (table_of after))) where
      pub more_numbers : numbers_of (history_of after) n ≡ entered_numbers lines actor.place now
      more_numbers = elim did [
        | inl it ↦ ap (λ (es : List Entry). numbers_of es n) it.0.history ∙ stands.numbers ∙ ap (λ k. numbers_in (take k lines) n) (sym (it.1.line actor.place))
        | inr it ↦ numbers_more it.0 (it.1.line_was actor.place) (actor.place.line + 1) refl ∙ ap (λ k. numbers_in (take k lines) n) (sym (it.1.line actor.place))
      ]

      stands_more_at : (at : Standing) → StandsAt lines actor at → HasHad now (at.had + 1) → StandsAt lines moved (going_on at)
      stands_more_at at stood had = record {
        through = stood.through ∙ ap (λ (p : Place). length (numbers_in (take p.line lines) p.actor)) (sym place_is);
        had = subst (λ p. HasHad p (at.had + 1)) (sym progress_is) had;
      }

      pub more_turn : (at : Standing) → StandsAt lines actor at → IsTurnFrom (means (origin_of before)) lines n at moved (answered_by_now before) (answered_by_now after)
      more_turn at stood = elim did [
        | inl it ↦ record {
          next = going_on at;
          stands = stands_more_at at stood (it.1.had at.had stood.had);
          turn = inr (inl (record {
            call = line.call;
            call_is = call_here at stood;
            standing = refl;
            later = it.1.later at.had stood.had;
            history = λ i. record { told = it.0.told i; history = it.0.history i };
          }));
        }
        | inr it ↦ record {
          next = going_on at;
          stands = stands_more_at at stood (it.1.had at.had stood.had);
          turn = inr (inr (inl (record {
            call = line.call;
            call_is = call_here at stood;
            standing = refl;
            now = λ count less. it.1.now_is at.had stood.had count;
            entry = adds it.0 (it.1.line_was actor.place) at stood;
            takes = λ count less is_told w found texts answered.
                it.1.takes (frozen_turns (frozen texts (call_at (calls_in lines)) w (history_of before)) (state texts (call_at (calls_in lines)) w (history_of before)) n line.call) count (omega (arith, less));
          })));
        }
      ]

    -- ---- behind an event behind which it is through

    module _ (moved : Actor) (actor_is : moved.place.actor ≡ n) (progress_is : moved.progress ≡ Fresh)
        (behind : numbers_in (take moved.place.line lines) n ≡ numbers_in (take (actor.place.line + 1) lines) n)
        (did : Did before after line.actor line.seq began line.call (Ends line.call actor.progress) (Answers line.call actor.progress)) where
      gone_numbers : numbers_of (history_of after) n ≡ numbers_in (take moved.place.line lines) n
      gone_numbers = elim did [
        | inl it ↦ ap (λ (es : List Entry). numbers_of es n) it.0.history ∙ stands.numbers ∙ ap (λ k. numbers_in (take k lines) n) (it.1.line actor.place) ∙ sym behind
        | inr it ↦ numbers_more it.0 (it.1.line actor.place) moved.place.line behind
      ]

      pub gone_stands : (origin : Meaning) → Stands origin (told_of after) lines (history_of after) moved
      gone_stands origin = record {
        numbers = subst (λ p. numbers_of (history_of after) moved.place.actor ≡ entered_numbers lines moved.place p) (sym progress_is)
            (subst (λ k. numbers_of (history_of after) k ≡ numbers_in (take moved.place.line lines) k) (sym actor_is) gone_numbers);
        on_way = subst (λ p. IsOnWay origin (told_of after) lines (history_of after) moved.place p) (sym progress_is) tt;
      }

      stands_gone_at : (at : Standing) → StandsAt lines actor at → StandsAt lines moved (gone_on at)
      stands_gone_at at stood = record {
        through = ap (λ k. k + 1) stood.through ∙ sym (ap (λ k. length (numbers_in (take moved.place.line lines) k)) actor_is ∙ one_through lines actor.place.line moved.place.line line n within is own behind);
        had = subst (λ p. HasHad p 0) (sym progress_is) refl;
      }

      pub gone_turn : AllByRecursion (λ (l : Line). IsBuilt l.call) lines → (now : Progress) → OnEntry actor.progress Answered now (IsLastOf line.call (newest (history_of after)).reply (had_of actor.progress + 1)) → (at : Standing) → StandsAt lines actor at
          → IsTurnFrom (means (origin_of before)) lines n at moved (answered_by_now before) (answered_by_now after)
      gone_turn built now last at stood = elim did [
        | inl it ↦ record {
          next = gone_on at;
          stands = stands_gone_at at stood;
          turn = inr (inr (inr (inr (record {
            call = line.call;
            call_is = call_here at stood;
            standing = refl;
            earlier = it.1.earlier at.had stood.had;
            history = λ i. record { told = it.0.told i; history = it.0.history i };
          }))));
        }
        | inr it ↦ record {
          next = gone_on at;
          stands = stands_gone_at at stood;
          turn = inr (inr (inr (inl (record {
            call = line.call;
            call_is = call_here at stood;
            standing = refl;
            now = it.1.now_is at.had stood.had;
            entry = adds it.0 (it.1.line actor.place) at stood;
            takes = λ is_told w found texts answered.
                let calls = call_at (calls_in lines) in
                let origin = means (origin_of before) in
                subst (λ k. Takes (frozen_turns (frozen texts calls w (history_of before)) (state texts calls w (history_of before)) n line.call) line.call (newest (history_of after)).reply (k + 1)) (sym (it.1.had at.had stood.had))
                (takes_of origin (told_of before) (history_of before) n line.call (newest (history_of after)).reply actor.progress
                (each_at (λ (l : Line). IsBuilt l.call) lines actor.place.line line built within is)
                (begun_here origin (told_of before) lines (history_of before) actor.place line within is actor.progress stands.on_way)
                it.1.none
                (subst (λ k. FitsHistory origin (told_of before) (history_of before) k line.call actor.progress) same (fits_here origin (told_of before) lines (history_of before) actor.place line within is actor.progress same stands.on_way))
                (entry_there actor.progress now (IsLastOf line.call (newest (history_of after)).reply (had_of actor.progress + 1)) it.1.none last) is_told w found texts calls answered);
          }))));
        }
      ]
