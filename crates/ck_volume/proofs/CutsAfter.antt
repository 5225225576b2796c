-- What an event and a commit leave of the cuts of a history.
use Rattle.std.proofs.Common.{◌≡◌, ◌⊎◌, inl, inr, ⊎_elim, ℕ, ◌≤◌, ◌&&◌, Bool, true, false, None, Some, Option, IsTrue, List, [], ◌∷◌, ◌++◌, if◌then◌else◌, refl, sym, ap, ◌∙◌, subst, arith}
use Rattle.std.specs.Prelude.{MatchOption}
use Rattle.std.specs.Option.{option_or}
use mathlib.Core.Bool.{false≢true}
use Rattle.ck_disk.specs.Disk.{Meaning, Lawful}
use Rattle.ck_model.specs.declared.call.Call.{Call}
use Rattle.ck_model.specs.declared.call.Call.TheVariants.{Sync}
use Rattle.ck_model.specs.declared.entry.Entry.{Entry}
use Rattle.ck_model.specs.declared.reply.Reply.{Reply}
use Rattle.ck_model.specs.declared.reply.Reply.TheVariants.{Done, Broken}
use Rattle.ck_model.specs.Space.{without_picks}
use Rattle.ck_model.specs.World.{World, unmounted}
use Rattle.ck_model.specs.History.{is_fault, is_write_fault, is_broken}
use Rattle.ck_volume.specs.declared.commit.CommitAnswer.{CommitAnswer}
use Rattle.ck_volume.specs.declared.commit.CommitAnswer.TheVariants as answer
use Rattle.ck_volume.specs.Present.{Present, history_of, broken_of, length_of, world_of, KeepsWorld, Survives}
use Rattle.ck_volume.specs.Causes.{acknowledges, is_sync, is_done}
use Rattle.ck_volume.specs.CommitAnswer.{broken_after, committed_after}
use Rattle.ck_engine.specs.Committed.{OpensToEither}
use Rattle.ck_engine.specs.Engine.{SurvivesGiving}
use Rattle.ck_volume.specs.Cuts.{LeavesCuts, OpensOnTheWay, KeepsOnTheWay, SurvivesOnTheWay}
use Rattle.ck_disk.specs.Runs.{Runs}
use Rattle.ck_volume.specs.Kept.{Stands}
use Rattle.ck_engine.specs.Recovery.{Recovers}
use Rattle.ck_disk.proofs.MomentLaws.{leaves_more}
use Rattle.ck_volume.proofs.CutsLaws.{Leaves, broken_or_not, cuts-unsynced, cuts-synced, cuts-uncommitted, cuts-committed}

-- ---- which calls acknowledge

sync-is : (call : Call) → is_sync call ≡ true → call ≡ Sync
sync-is Sync h = refl
sync-is _ h = cc

done-is : (reply : Reply) → is_done reply ≡ true → reply ≡ Done
done-is Done h = refl
done-is _ h = cc

both_true : (a b : Bool) → (a && b) ≡ true → (a ≡ true) × (b ≡ true)
both_true true b h = (refl, h)
both_true false b h = absurd (false≢true h)

-- ---- a call that gives up so many checkpoints

pub survives-giving : {D : Type 0} (given : ℕ) (old new : Meaning) (before : Present D) → SurvivesGiving given old new before.engine → SurvivesOnTheWay given old new before
survives-giving given old new before survives told w keeps =
    let left = unmounted (without_picks given (world_of old.shows before)) in
    leaves_more old new (OpensToEither w left) (OpensOnTheWay given w (world_of old.shows before))
    (λ image either. ⊎_elim (λ (is : Recovers image w). inl is) (λ (is : Recovers image left). inr (given, (omega arith, is))) either)
    (survives told w keeps)

pub keeps-giving : {D : Type 0} (given : ℕ) (now : Meaning) (after : Present D) (w here : World) → KeepsWorld now after w ⊎ KeepsWorld now after (unmounted (without_picks given here)) → KeepsOnTheWay given now after w here
keeps-giving given now after w here either =
    ⊎_elim (λ (is : KeepsWorld now after w). inl is) (λ (is : KeepsWorld now after (unmounted (without_picks given here))). inr (given, (omega arith, is))) either

module _ {D : Type 0} (origin mid new : Meaning) (law : Lawful new) (told more : List Call) (least now : ℕ) (before after : Present D) (call : Call) (entry : Entry)
    (cuts : LeavesCuts origin mid told least before) (stands : Stands origin mid told before) (low : least ≤ length_of before) where
  -- ---- an event

  module _ (is_more : more ≡ told ++ call ∷ []) (added : history_of after ≡ history_of before ++ entry ∷ []) (runs : Runs mid new)
      (survives : broken_of before ≡ None → SurvivesOnTheWay entry.given mid new before)
      (kept : broken_of after ≡ None → IsTrue mid.tells → (w : World) → KeepsWorld mid before w → KeepsOnTheWay entry.given new after w (world_of mid.shows before))
      (synced : call ≡ Sync → is_fault entry.reply ≡ false → IsTrue mid.tells → (w : World) → KeepsWorld mid before w → KeepsWorld new after (unmounted (world_of new.shows after)))
      (broken : broken_of after ≡ option_or (broken_of before) (if is_write_fault entry.reply then Some (length_of before) else None))
      (refused : MatchOption (broken_of before) (is_broken entry.reply ≡ false) (λ number. entry.reply ≡ Broken number))
      (untouched : (number : ℕ) → broken_of before ≡ Some number → new ≡ mid)
      (stands_after : Stands origin new more after) where
    leaves : Leaves mid new before after entry.given
    leaves = record {
      runs = runs;
      survives = survives;
      kept = λ unbroken whole told w keeps. kept unbroken told w keeps;
      broken = λ number is. broken ∙ ap (λ (o : Option ℕ). option_or o (if is_write_fault entry.reply then Some (length_of before) else None)) is;
    }

    done_whole : is_done entry.reply ≡ true → broken_of before ≡ None
    done_whole done =
        ⊎_elim
        (λ (is : (number : ℕ) × (broken_of before ≡ Some number)).
        let reply : entry.reply ≡ Broken is.0 = subst (λ (o : Option ℕ). MatchOption o (is_broken entry.reply ≡ false) (λ number. entry.reply ≡ Broken number)) is.1 refused in
        absurd (false≢true (sym (ap is_done reply) ∙ done)))
        (λ (none : broken_of before ≡ None). none)
        (broken_or_not (broken_of before))

    pub cuts-event : now ≡ (if acknowledges call entry.reply then length_of after else least) → LeavesCuts origin new more now after
    cuts-event is =
        elim (acknowledges call entry.reply) as (λ b. acknowledges call entry.reply ≡ b → now ≡ (if b then length_of after else least) → LeavesCuts origin new more now after) [
          | true ↦ λ yes counted.
              let both = both_true (is_sync call) (is_done entry.reply) yes in
              let ordinary : is_fault entry.reply ≡ false = ap is_fault (done-is entry.reply both.1) in
              subst (λ (calls : List Call). LeavesCuts origin new calls now after) (sym is_more)
              (subst (λ (n : ℕ). LeavesCuts origin new (told ++ call ∷ []) n after) (sym counted)
              (cuts-synced origin mid new law told least before after cuts stands low call entry added leaves untouched (done_whole both.1) (subst (λ (calls : List Call). Stands origin new calls after) is_more stands_after)
              (λ w told keeps. synced (sync-is call both.0) ordinary told w keeps)))
          | false ↦ λ no counted.
              subst (λ (calls : List Call). LeavesCuts origin new calls now after) (sym is_more)
              (subst (λ (n : ℕ). LeavesCuts origin new (told ++ call ∷ []) n after) (sym counted)
              (cuts-unsynced origin mid new law told least before after cuts stands low call entry added leaves untouched))
        ] refl is

-- ---- a commit

done_other : (n : ℕ) → answer.Done ≡ answer.Broken n → ⊥
done_other n h = cc

pub unbroken-done : (o : Option ℕ) (how : CommitAnswer) → ((n : ℕ) → o ≡ Some n → how ≡ answer.Broken n) → how ≡ answer.Done → o ≡ None
unbroken-done None how refused done = refl
unbroken-done (Some n) how refused done = absurd (done_other n (sym done ∙ refused n refl))

module _ {D : Type 0} (origin mid new : Meaning) (law : Lawful new) (told : List Call) (least now : ℕ) (before after : Present D)
    (cuts : LeavesCuts origin mid told least before) (stands : Stands origin mid told before) (low : least ≤ length_of before)
    (same : history_of after ≡ history_of before) (runs : Runs mid new) (world : IsTrue mid.tells → world_of new.shows after ≡ world_of mid.shows before)
    (survives : broken_of before ≡ None → Survives mid new before)
    (kept : broken_of after ≡ None → IsTrue mid.tells → (w : World) → KeepsWorld mid before w → KeepsWorld new after w ⊎ KeepsWorld new after (unmounted (world_of mid.shows before)))
    (untouched : (number : ℕ) → broken_of before ≡ Some number → new ≡ mid) where
  pub cuts-commit : (how : CommitAnswer) → broken_of after ≡ broken_after (length_of before) (broken_of before) how → ((n : ℕ) → broken_of before ≡ Some n → how ≡ answer.Broken n)
      → (how ≡ answer.Done → IsTrue mid.tells → (w : World) → KeepsWorld mid before w → KeepsWorld new after (unmounted (world_of new.shows after)))
      → now ≡ committed_after (length_of after) least how → LeavesCuts origin new told now after
  cuts-commit how broken refused committed is =
      let still : (number : ℕ) → broken_of before ≡ Some number → broken_of after ≡ Some number =
      λ number was. broken ∙ ap (λ (a : CommitAnswer). broken_after (length_of before) (broken_of before) a) (refused number was) ∙ was in
      let undone : LeavesCuts origin new told least after =
      cuts-uncommitted origin mid new law told least before after cuts stands low same runs world survives (λ unbroken whole told w keeps. kept unbroken told w keeps) still untouched in
      subst (λ (n : ℕ). LeavesCuts origin new told n after) (sym is)
      (elim how as (λ a. how ≡ a → LeavesCuts origin new told (committed_after (length_of after) least a) after) [
        | answer.Done ↦ λ done.
            cuts-committed origin mid new law told least before after cuts stands low same runs world survives (λ unbroken whole told w keeps. kept unbroken told w keeps) still untouched
            (unbroken-done (broken_of before) how refused done)
            (λ w told keeps. committed done told w keeps)
        | answer.WriteFault ↦ λ _. undone
        | answer.Broken n ↦ λ _. undone
        | answer.NoMemory ↦ λ _. undone
      ] refl)
