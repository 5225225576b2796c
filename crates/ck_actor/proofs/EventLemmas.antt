-- What an event of a volume does to the call of an actor's line.
use Rattle.std.proofs.Common.{◌≡◌, ◌≢◌, ◌≤◌, ◌<◌, ◌⊎◌, inl, inr, ℕ, ◌+◌, ◌-◌, true, false, Option, Some, List, [], ◌∷◌, ◌++◌, length, if◌then◌else◌, refl, sym, ap, subst, ◌∙◌, arith}
use Rattle.std.specs.List.{AllByRecursion}
use Rattle.std.specs.FinMap as map
use Rattle.ck_disk.specs.Disk.{Meaning}
use Rattle.ck_disk.specs.declared.disk.Disk.{Ghosts}
use Rattle.ck_model.specs.declared.call.Call.{Call}
use Rattle.ck_model.specs.declared.call.Call.TheVariants.{Cread, Nodata}
use Rattle.ck_model.specs.declared.entry.Entry.{Entry}
use Rattle.ck_model.specs.declared.reply.Reply.{Reply}
use Rattle.ck_model.specs.declared.reply.Reply.TheVariants.{Done}
use Rattle.ck_model.specs.Key.{entry_cmp_exact, entry_cmp_total}
use Rattle.ck_model.specs.Table.{Table}
use Rattle.ck_model.proofs.SizeLaws.{len-retain_keys-le}
use Rattle.ck_read.specs.declared.progress.ReadProgress.{ReadProgress}
use Rattle.ck_model.specs.History.{CallsBy, reply_number}
use Rattle.ck_nodata.specs.StripItem.{is_unstripped, unstripped_count}
use Rattle.ck_table.specs.Flags.{with_nodata}
use Rattle.ck_volume.specs.declared.event.Progress.{Progress}
use Rattle.ck_volume.specs.declared.event.Progress.TheVariants.{Fresh, Read, Strip}
use Rattle.ck_volume.specs.declared.event.Turn.TheVariants.{More, Answered}
use Rattle.ck_volume.specs.declared.volume.Volume.{Volume}
use Rattle.ck_volume.specs.Causes.{acknowledges}
use Rattle.ck_volume.specs.Conversion.{ConvertsBy}
use Rattle.ck_volume.specs.Event.{newest, IsEntryOf}
use Rattle.ck_volume.specs.Progress.{had_of, IsBegunFor, IsOfCall, IsSynchronous}
use Rattle.ck_volume.specs.Told.{AreAnswered}
use Rattle.ck_volume.specs.TopCuts.{synced_count}
use Rattle.ck_volume.specs.Turn.{GoesOn, OnEntry, OnReading, OnStrip, StripsOn}
use Rattle.ck_volume.specs.Volume.{committed_of, history_of, length_of, room_of, table_of, told_of, KeepsLog}
use Rattle.ck_volume.proofs.FitsLaws.{had_within}
use Rattle.ck_volume.proofs.ToldLaws.{answered-more}
use Rattle.ck_volume.proofs.TopCutsLaws.{synced-step}
use Rattle.ck_actor.specs.declared.place.Place.{Place}
use Rattle.ck_actor.specs.Actor.{entered_line, turns_left, HasHad, OnWay}
use Rattle.ck_actor.specs.Counts.{Takes}
use Rattle.ck_actor.specs.Turns.{answering_turn}
use Rattle.ck_actor.proofs.ActorLemmas.{all_more, longer}
use Rattle.ck_actor.proofs.TurnLemmas.{answered_when, IsAtFirst, IsAtLast}

-- ---- which calls go on

read_last : (call : Call) (read : ReadProgress) → IsOfCall call read → IsAtLast call
read_last (Cread letter path at len) read begun count = refl
read_last _ read begun count = absurd begun

strip_first : (call : Call) → IsSynchronous call → IsAtFirst call
strip_first (Nodata name true) strips count = refl
strip_first _ strips count = absurd strips

read_or_strip : (call : Call) (read : ReadProgress) → IsOfCall call read → IsSynchronous call → ⊥
read_or_strip (Cread letter path at len) read begun strips = strips
read_or_strip _ read begun strips = begun

-- a conversion step by step that was done may take any number of turns
pub done_takes : (call : Call) (reply : Reply) (frozen : Option ℕ) (count : ℕ) → IsSynchronous call → reply ≡ Done → 1 ≤ count → Takes frozen call reply count
done_takes (Nodata name true) reply frozen count strips done some = subst (λ r. Takes frozen (Nodata name true) r count) (sym done) (record { some = some; told = λ is. absurd (not_false is) })
  where
    not_false : true ≡ false → ⊥
    not_false is = cc
done_takes _ reply frozen count strips done some = absurd strips

-- ---- no more is left to strip than the table has entries

unstripped_few : (t : Table) → unstripped_count t ≤ map.len t.entries
unstripped_few t = len-retain_keys-le entry_cmp_total entry_cmp_exact t.entries (λ entry. is_unstripped t entry.0 entry.1)

-- ---- an event behind which the call goes on

-- no entry came, and the call has had one turn more
pub record TakesOn (call : Call) (was : Progress) (before : Table) (now : Progress) (after : Table) : Type 0 where
  pub line : (place : Place) → entered_line place now ≡ entered_line place was
  pub had : (n : ℕ) → HasHad was n → HasHad now (n + 1)
  pub later : (n : ℕ) → HasHad was n → (count : ℕ) → n + 1 < count → answering_turn call count ≢ n + 1
  pub fewer : OnWay now (turns_left now after < turns_left was before)

-- its entry came
pub record Enters (call : Call) (reply : Reply) (was : Progress) (before : Table) (now : Progress) (after : Table) : Type 0 where
  pub line_was : (place : Place) → entered_line place was ≡ place.line
  pub line : (place : Place) → entered_line place now ≡ place.line + 1
  pub had : (n : ℕ) → HasHad was n → HasHad now (n + 1)
  pub now_is : (n : ℕ) → HasHad was n → (count : ℕ) → answering_turn call count ≡ n + 1
  pub takes : (frozen : Option ℕ) (count : ℕ) → 1 ≤ count → Takes frozen call reply count
  pub fewer : OnWay now (turns_left now after < turns_left was before)

pub record HasEntry {D : Type 0} {g : Ghosts D} (before after : Volume D g) (actor seq at : ℕ) (call : Call) : Type 0 where
  pub added : history_of after ≡ history_of before ++ newest (history_of after) ∷ []
  pub room : room_of after + 1 ≡ room_of before
  pub entry : IsEntryOf actor seq at (newest (history_of after))
  pub told : told_of after ≡ told_of before ++ call ∷ []
  pub committed : committed_of after ≡ (if acknowledges call (newest (history_of after)).reply then length_of after else committed_of before)

reads_on : (call : Call) (was : Progress) (t after : Table) (read : ReadProgress) → OnStrip was (λ id. ⊥) → IsOfCall call read → had_of (Read read) ≡ had_of was + 1 → after ≡ t → TakesOn call was t (Read read) after
reads_on call Fresh t after read none begun turns same = record {
  line = λ place. refl;
  had = λ n is. let turns : had_of (Read read) ≡ 0 + 1 = turns in omega (arith, is, turns);
  later = λ n is count less same. let last = read_last call read begun count in absurd (omega (arith, less, last, same));
  fewer =
      let few = had_within call (Read read) begun in
      let turns : had_of (Read read) ≡ 0 + 1 = turns in
      subst (λ (u : Table). 262144 - had_of (Read read) + map.len u.entries + 1 < 262144 + map.len t.entries + 1) (sym same) (omega (arith, few, turns));
}
reads_on call (Read before) t after read none begun turns same = record {
  line = λ place. refl;
  had = λ n is. let turns : had_of (Read read) ≡ had_of (Read before) + 1 = turns in let is : n ≡ had_of (Read before) = is in omega (arith, is, turns);
  later = λ n is count less same. let last = read_last call read begun count in absurd (omega (arith, less, last, same));
  fewer =
      let few = had_within call (Read read) begun in
      let turns : had_of (Read read) ≡ had_of (Read before) + 1 = turns in
      subst (λ (u : Table). 262144 - had_of (Read read) + map.len u.entries + 1 < 262144 - had_of (Read before) + map.len t.entries + 1) (sym same) (omega (arith, few, turns));
}
reads_on call (Strip id) t after read none begun turns same = absurd none

strips_on : (call : Call) (id : ℕ) (t after : Table) → IsSynchronous call → unstripped_count after + 1 ≡ unstripped_count t → TakesOn call (Strip id) t (Strip id) after
strips_on call id t after strips one = record {
  line = λ place. refl;
  had = λ n some. omega arith;
  later = λ n some count less same. let first = strip_first call strips count in absurd (omega (arith, first, some, same));
  fewer = omega (arith, one);
}

-- the first event of a conversion step by step leaves fewer to strip than the table had entries
first_fewer : (call : Call) (reply : Reply) (t after : Table) (id : ℕ) → IsSynchronous call → reply ≡ Done → ConvertsBy call reply t after More (Strip id) → unstripped_count after + 1 ≤ map.len t.entries
first_fewer (Nodata name true) reply t after id strips done converts =
    let first = converts name true refl (ap (λ (r : Reply). reply_number r) done) in
    let one = first.more.2 in
    let few = unstripped_few (with_nodata t first.id) in
    omega (arith, one, few)
first_fewer _ reply t after id strips done converts = absurd strips

enters : (call : Call) (reply : Reply) (t after : Table) (id : ℕ) → IsSynchronous call → reply ≡ Done → ConvertsBy call reply t after More (Strip id) → Enters call reply Fresh t (Strip id) after
enters call reply t after id strips done converts = record {
  line_was = λ place. refl;
  line = λ place. refl;
  had = λ n is. omega arith;
  now_is = λ n is count. let first = strip_first call strips count in omega (arith, first, is);
  takes = λ frozen count some. done_takes call reply frozen count strips done some;
  fewer = let few = first_fewer call reply t after id strips done converts in omega (arith, few);
}

module _ {D : Type 0} {g : Ghosts D} (means : D → Meaning) (before after : Volume D g) (actor seq at : ℕ) (call : Call) where
  abbrev reply : Reply
  reply = (newest (history_of after)).reply

  pub more_did : (was now : Progress) → IsBegunFor call was → IsBegunFor call now
      → OnReading More now (GoesOn means before after actor call was now)
      → OnStrip was (λ id. StripsOn means before after id More now)
      → OnEntry was More now (history_of after ≡ history_of before ++ newest (history_of after) ∷ [])
      → OnEntry was More now (room_of after + 1 ≡ room_of before)
      → OnEntry was More now (IsEntryOf actor seq at (newest (history_of after)))
      → OnEntry was More now (told_of after ≡ told_of before ++ call ∷ [])
      → OnEntry was More now (committed_of after ≡ (if acknowledges call reply then length_of after else committed_of before))
      → OnEntry was More now (reply ≡ Done)
      → OnEntry was More now (ConvertsBy call reply (table_of before) (table_of after) More now)
      → (KeepsLog before after × TakesOn call was (table_of before) now (table_of after)) ⊎ (HasEntry before after actor seq at call × Enters call reply was (table_of before) now (table_of after))
  more_did (Strip id) now begun begun_now reads strips added room entry told committed done converts =
      let more = strips.more in
      inl (strips.log, subst (λ p. TakesOn call (Strip id) (table_of before) p (table_of after)) (sym more.0) (strips_on call id (table_of before) (table_of after) begun more.1))
  more_did Fresh (Read read) begun begun_now reads strips added room entry told committed done converts =
      inl (reads.log, reads_on call Fresh (table_of before) (table_of after) read tt begun_now reads.turns reads.table)
  more_did (Read was) (Read read) begun begun_now reads strips added room entry told committed done converts =
      inl (reads.log, reads_on call (Read was) (table_of before) (table_of after) read tt begun_now reads.turns reads.table)
  more_did Fresh Fresh begun begun_now reads strips added room entry told committed done converts =
      let turns : 0 ≡ 0 + 1 = reads.turns in absurd (omega (arith, turns))
  more_did (Read read) Fresh begun begun_now reads strips added room entry told committed done converts =
      let turns : 0 ≡ had_of (Read read) + 1 = reads.turns in absurd (omega (arith, turns))
  more_did (Read read) (Strip id) begun begun_now reads strips added room entry told committed done converts = absurd (read_or_strip call read begun begun_now)
  more_did Fresh (Strip id) begun begun_now reads strips added room entry told committed done converts =
      inr (record { added = added; room = room; entry = entry; told = told; committed = committed }, enters call reply (table_of before) (table_of after) id begun_now done converts)

-- ---- an event behind which the call is through

-- its entry came
pub record Answers (call : Call) (was : Progress) : Type 0 where
  pub none : OnStrip was (λ id. ⊥)
  pub line : (place : Place) → entered_line place was ≡ place.line
  pub had : (n : ℕ) → HasHad was n → n ≡ had_of was
  pub now_is : (n : ℕ) → HasHad was n → answering_turn call (n + 1) ≡ n + 1

-- no entry came, as it had one
pub record Ends (call : Call) (was : Progress) : Type 0 where
  pub line : (place : Place) → entered_line place was ≡ place.line + 1
  pub earlier : (n : ℕ) → HasHad was n → answering_turn call (n + 1) ≢ n + 1

begun_answers : (call : Call) → Answers call Fresh
begun_answers call = record {
  none = tt;
  line = λ place. refl;
  had = λ n is. is;
  now_is = λ n is. elim (answered_when call) [ inl last ↦ last (n + 1) | inr first ↦ let one = first (n + 1) in omega (arith, one, is) ];
}

read_answers : (call : Call) (read : ReadProgress) → IsOfCall call read → Answers call (Read read)
read_answers call read begun = record {
  none = tt;
  line = λ place. refl;
  had = λ n is. is;
  now_is = λ n is. read_last call read begun (n + 1);
}

strip_ends : (call : Call) (id : ℕ) → IsSynchronous call → Ends call (Strip id)
strip_ends call id strips = record {
  line = λ place. refl;
  earlier = λ n some same. let first = strip_first call strips (n + 1) in absurd (omega (arith, first, some, same));
}

module _ {D : Type 0} {g : Ghosts D} (means : D → Meaning) (before after : Volume D g) (actor seq at : ℕ) (call : Call) (now : Progress) where
  abbrev reply_then : Reply
  reply_then = (newest (history_of after)).reply

  pub answered_did : (was : Progress) → IsBegunFor call was
      → OnStrip was (λ id. StripsOn means before after id Answered now)
      → OnEntry was Answered now (history_of after ≡ history_of before ++ newest (history_of after) ∷ [])
      → OnEntry was Answered now (room_of after + 1 ≡ room_of before)
      → OnEntry was Answered now (IsEntryOf actor seq at (newest (history_of after)))
      → OnEntry was Answered now (told_of after ≡ told_of before ++ call ∷ [])
      → OnEntry was Answered now (committed_of after ≡ (if acknowledges call reply_then then length_of after else committed_of before))
      → (KeepsLog before after × Ends call was) ⊎ (HasEntry before after actor seq at call × Answers call was)
  answered_did Fresh begun strips added room entry told committed = inr (record { added = added; room = room; entry = entry; told = told; committed = committed }, begun_answers call)
  answered_did (Read read) begun strips added room entry told committed = inr (record { added = added; room = room; entry = entry; told = told; committed = committed }, read_answers call read begun)
  answered_did (Strip id) begun strips added room entry told committed = inl (strips.log, strip_ends call id begun)

-- ---- the entries and commits of a volume behind an event

module _ {D : Type 0} {g : Ghosts D} (before after : Volume D g) (actor seq at : ℕ) (call : Call) where
  -- no entry came, or its own
  abbrev pub Did : Type 0 → Type 0 → Type 0
  Did X Y = (KeepsLog before after × X) ⊎ (HasEntry before after actor seq at call × Y)

  module _ {X Y : Type 0} (did : Did X Y) where
    pub did_room : room_of after + length (history_of after) ≡ room_of before + length (history_of before)
    did_room = elim did [
      | inl it ↦ (λ i. it.0.room i + length (it.0.history i))
      | inr it ↦
          let many : length (history_of after) ≡ length (history_of before) + 1 = ap (λ (es : List Entry). length es) it.0.added ∙ longer (history_of before) (newest (history_of after)) in
          let room = it.0.room in
          omega (arith, room, many)
    ]

    pub did_moments : AllByRecursion (λ (entry : Entry). entry.at ≡ at) (history_of before) → AllByRecursion (λ (entry : Entry). entry.at ≡ at) (history_of after)
    did_moments so_far = elim did [
      | inl it ↦ subst (λ (es : List Entry). AllByRecursion (λ (entry : Entry). entry.at ≡ at) es) (sym it.0.history) so_far
      | inr it ↦
          subst (λ (es : List Entry). AllByRecursion (λ (entry : Entry). entry.at ≡ at) es) (sym it.0.added)
          (all_more (λ entry. entry.at ≡ at) (history_of before) (newest (history_of after)) so_far it.0.entry.at_is)
    ]

    module _ (calls : CallsBy) (here : calls actor seq ≡ Some call) where
      called : HasEntry before after actor seq at call → calls (newest (history_of after)).actor (newest (history_of after)).seq ≡ Some call
      called it = (λ i. calls (it.entry.actor_is i) (it.entry.seq_is i)) ∙ here

      pub did_answered : AreAnswered calls (told_of before) (history_of before) → AreAnswered calls (told_of after) (history_of after)
      did_answered so_far = elim did [
        | inl it ↦
            subst (λ (told : List Call). AreAnswered calls told (history_of after)) (sym it.0.told) (subst (λ (es : List Entry). AreAnswered calls (told_of before) es) (sym it.0.history) so_far)
        | inr it ↦
            subst (λ (told : List Call). AreAnswered calls told (history_of after)) (sym it.0.told)
            (subst (λ (es : List Entry). AreAnswered calls (told_of before ++ call ∷ []) es) (sym it.0.added)
            (answered-more calls (told_of before) call (history_of before) (newest (history_of after)) so_far (called it.0)))
      ]

      pub did_synced : synced_count calls (history_of before) ≤ committed_of before → synced_count calls (history_of after) ≤ committed_of after
      did_synced low = elim did [
        | inl it ↦
            subst (λ (n : ℕ). synced_count calls (history_of after) ≤ n) (sym it.0.committed) (subst (λ (es : List Entry). synced_count calls es ≤ committed_of before) (sym it.0.history) low)
        | inr it ↦
            synced-step calls (history_of before) (history_of after) (newest (history_of after)) call (committed_of before) (committed_of after) (called it.0) it.0.added
            (ap (λ (es : List Entry). length es) it.0.added ∙ longer (history_of before) (newest (history_of after))) it.0.committed low
      ]

  pub did_fewer : (was now : Progress) → Did (TakesOn call was (table_of before) now (table_of after)) (Enters call (newest (history_of after)).reply was (table_of before) now (table_of after))
      → OnWay now (turns_left now (table_of after) < turns_left was (table_of before))
  did_fewer was now did = elim did [ inl it ↦ it.1.fewer | inr it ↦ it.1.fewer ]
