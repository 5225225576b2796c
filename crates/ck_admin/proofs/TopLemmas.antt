-- How a play ends, by what its parts answer.
use Rattle.std.proofs.Common.{◌≡◌, ◌⊎◌, inl, inr, ⊎_elim, ℕ, suc, ◌+◌, ◌≤◌, true, false, ◌||◌, IsTrue, List, [], ◌∷◌, length, get_or, if◌then◌else◌, refl, sym, ap, ◌∙◌, subst, arith}
use mathlib.Core.Logic.{∥∥₁_map}
use Rattle.std.specs.Prelude.{Result, Ok, Err, OnOk, IfErr}
use Rattle.ck_disk.specs.Disk.{Image, Meaning, Lawful, Agrees, IsClean, IsSynced, LeavesOnly, Rose}
use Rattle.ck_model.specs.declared.entry.Entry.{Entry}
use Rattle.ck_model.specs.World.{World, unmounted}
use Rattle.ck_model.specs.History.{CallsBy, call_at, is_write_fault}
use Rattle.ck_report.specs.declared.status.Status.{Status}
use Rattle.ck_report.specs.declared.status.Status.TheVariants.{Done, Refused, Usage, BadScript, NotOpened, DeviceFault, SourceFault, SinkFault, NoMemory}
use Rattle.ck_script.specs.Numbered.{calls_in}
use Rattle.ck_script.specs.Parsed.{Parsed, read_script}
use Rattle.ck_io.specs.Clock.{ClockMeaning}
use Rattle.ck_io.specs.Sink.{SinkMeaning}
use Rattle.ck_io.specs.Source.{SourceMeaning}
use Rattle.ck_volume.specs.declared.commit.CommitAnswer.{CommitAnswer}
use Rattle.ck_volume.specs.declared.commit.CommitAnswer.TheVariants as answer
use Rattle.ck_engine.specs.Recovery.{Recovers}
use Rattle.ck_admin.specs.Ends.{IsPrinted, IsUnplayed, EndsOn}
use Rattle.ck_admin.specs.Crash.{synced_count, RecoversCut, CutFrom, LeavesCuts, LeavesSince, found_broken, IsPlayed}
use Rattle.ck_volume.specs.Causes.{HasCauses, replies_of}
use Rattle.ck_admin.specs.Play.{IsPlay, lost_a_write}
use Rattle.ck_admin.specs.Statuses.{IsPrintFault, IsRefusedAt, IsOpenStatus, play_status}
use Rattle.ck_admin.specs.Top.{PrintsPlay, EndsWhole, EndsAnyhow, LostNothing, Gains, GainsFront, GainsNone, GainsAllOrNothing, EndsPlay, leaves_device}
use Rattle.ck_disk.proofs.RunLaws.{leaves_on}
use Rattle.ck_admin.proofs.PlayedLemmas.{rose_later}

-- ---- a device without unsynced writes

-- lists that are the same at each place
same_list : {A : Type 0} (xs ys : List A) (d : A) → length xs ≡ length ys → ((k : ℕ) → get_or xs k d ≡ get_or ys k d) → xs ≡ ys
same_list [] [] d size at = refl
same_list [] (y ∷ ys) d size at = absurd (omega (arith, size))
same_list (x ∷ xs) [] d size at = absurd (omega (arith, size))
same_list (x ∷ xs) (y ∷ ys) d size at = let rest = same_list xs ys d (omega (arith, size)) (λ k. at (suc k)) in λ i. at 0 i ∷ rest i

-- a crash leaves what reads give
pub synced_image : (m : Meaning) → Lawful m → IsTrue m.tells → IsSynced m → (image : Image) → m.may_leave image → image ≡ m.shows
synced_image m law told synced image left =
    let same : Agrees (IsClean m) m.shows image = law.clean told image left in
    same_list image m.shows [] same.size (λ k. same.at k (synced k))

-- ---- counts

causes_earlier : (before mid after : Meaning) (history : List Entry) → before.read_faults ≤ mid.read_faults → before.write_faults ≤ mid.write_faults → HasCauses mid after history → HasCauses before after history
causes_earlier before mid after history reads writes causes = record {
  reads = omega (arith, reads, causes.reads);
  writes = omega (arith, writes, causes.writes);
}

-- a history that lost a write has an entry that tells of it
some_lost : (history : List Entry) → lost_a_write history ≡ true → 1 ≤ replies_of is_write_fault history
some_lost [] h = cc
some_lost (entry ∷ history) h =
    elim (is_write_fault entry.reply) as (λ b. (b || lost_a_write history) ≡ true → 1 ≤ (if b then 1 else 0) + replies_of is_write_fault history) [
      | true ↦ λ _. omega arith
      | false ↦ λ h. omega (arith, some_lost history h)
    ] h

-- so the count of failed writes rose
pub lost-rose : (before after : Meaning) (history : List Entry) → HasCauses before after history → lost_a_write history ≡ true → Rose before.write_faults after.write_faults
lost-rose before after history causes lost = let some = some_lost history lost in omega (arith, causes.writes, some)

-- ---- a script

-- one that was read isn't refused
pub read_or_refused : (source : SourceMeaning) (read : Parsed) (line : ℕ) → (IsTrue source.tells → read_script source.left ≡ Ok read) → IsRefusedAt source line → ⊥
read_or_refused source read line script refused =
    let ok : read_script source.left ≡ Ok read = script refused.0 in
    let err : read_script source.left ≡ Err line = refused.1 in
    cc

-- ---- a play from an opened device

module _ (source left : SourceMeaning) (clock : ClockMeaning) (old new : SinkMeaning) (before mid after : Meaning) (law : Lawful before) (read : Parsed) (w : World) (history : List Entry) (committed : CommitAnswer)
    (script : IsTrue source.tells → read_script source.left ≡ Ok read)
    (bare : w ≡ unmounted w) (recovers : IsTrue before.tells → Recovers before.shows w) (opened : LeavesOnly before mid before.may_leave)
    (played : IsPlayed read clock w mid after history committed) where
  abbrev calls : CallsBy
  calls = call_at (calls_in read.calls)

  told_mid : IsTrue before.tells → IsTrue mid.tells
  told_mid told = subst IsTrue (sym opened.tells) told

  from_before : IsPlay read clock w before after history
  from_before = record {
    legal = λ told. played.play.legal (told_mid told);
    of_script = played.play.of_script;
    follows = λ told. played.play.follows (told_mid told);
    moments = played.play.moments;
    causes = causes_earlier before mid after history opened.reads opened.writes played.play.causes;
    breaks = played.play.breaks;
  }

  cut_from : (least : ℕ) (image : Image) → CutFrom mid calls w history least image → CutFrom before calls w history least image
  cut_from least image cut told = cut (told_mid told)

  unsynced : LeavesSince calls w mid after history → (image : Image) → after.left_since before.moment image → before.may_leave image ⊎ CutFrom before calls w history 0 image
  unsynced leaves image since =
      ⊎_elim
      (λ (was : mid.left_since before.moment image). inl (opened.each image was))
      (λ (cut : CutFrom mid calls w history 0 image). inr (cut_from 0 image cut))
      (leaves.any_moment.before before.moment image opened.later since)

  -- the world that the device recovered to is the cut without entries
  none_yet : IsSynced before → IsTrue before.tells → (image : Image) → before.may_leave image → RecoversCut calls w history 0 image
  none_yet synced told image may = record {
    count = 0;
    given = 0;
    least_is = omega arith;
    within = omega arith;
    few = omega arith;
    recovers = λ texts. subst (λ c. Recovers c (unmounted w)) (sym (synced_image before law told synced image may)) (subst (Recovers before.shows) bare (recovers told));
  }

  cuts : ∥ LeavesCuts calls w before after history ∥₁
  cuts = ∥∥₁_map played.cuts (λ leaves.
      record {
        any_moment = λ synced image since told.
            ⊎_elim
            (λ (may : before.may_leave image). none_yet synced told image may)
            (λ (cut : CutFrom before calls w history 0 image). cut told)
            (unsynced leaves image since);
        unsynced = unsynced leaves;
        at_the_end = λ image may. cut_from (synced_count calls history) image (leaves.at_the_end image may);
      })

  prints : (E : CallsBy → World → List Entry → Type 0) (P : CallsBy → List Entry → Type 0) → E calls w history → P calls history → PrintsPlay source clock before after E P
  prints E P ends printed = record { read = read; world = w; history = history; script = script; recovers = recovers; play = from_before; leaves = cuts; ends = ends; printed = printed }

  ends_whole : committed ≡ answer.Done → EndsWhole after calls w history
  ends_whole done = record {
    no_fault = played.lost ∙ ap found_broken done;
    exact = λ told. played.exact done (subst IsTrue played.later.tells told);
  }

  lost_nothing : found_broken committed ≡ false → LostNothing calls w history
  lost_nothing found = played.lost ∙ found

  -- what printing gained, however it ended
  gained_fault : (status : Status) → IsPrintFault old new calls history status → GainsAllOrNothing old new calls history
  gained_fault Done fault = absurd fault
  gained_fault (Refused words) fault = absurd fault
  gained_fault Usage fault = absurd fault
  gained_fault (BadScript line) fault = absurd fault
  gained_fault (NotOpened words) fault = absurd fault
  gained_fault DeviceFault fault = absurd fault
  gained_fault SourceFault fault = absurd fault
  gained_fault SinkFault fault = inr (inr (fault.cause, record { front = fault.part; proper = fault.proper }))
  gained_fault NoMemory fault = inr (inl fault)

  gained : (printed : Result (Unit {0}) Status) → OnOk printed (Gains old new calls history) → IfErr printed (λ status. IsPrintFault old new calls history status) → GainsAllOrNothing old new calls history
  gained (Ok done) whole fault = inl whole
  gained (Err status) whole fault = gained_fault status fault

  unprinted : committed ≡ answer.Done → (status : Status) → IsPrintFault old new calls history status → EndsPlay source left clock old new before after status
  unprinted done Done fault = absurd fault
  unprinted done (Refused words) fault = absurd fault
  unprinted done Usage fault = absurd fault
  unprinted done (BadScript line) fault = absurd fault
  unprinted done (NotOpened words) fault = absurd fault
  unprinted done DeviceFault fault = absurd fault
  unprinted done SourceFault fault = absurd fault
  unprinted done SinkFault fault = (fault.cause, prints (EndsWhole after) (GainsFront old new) (ends_whole done) (record { front = fault.part; proper = fault.proper }))
  unprinted done NoMemory fault = inr (inr (prints (EndsWhole after) (GainsNone old new) (ends_whole done) fault))

  lost_write : Rose before.write_faults after.write_faults → (printed : Result (Unit {0}) Status) → OnOk printed (Gains old new calls history) → IfErr printed (λ status. IsPrintFault old new calls history status)
      → EndsPlay source left clock old new before after DeviceFault
  lost_write rose printed whole fault = inr (rose, prints EndsAnyhow (GainsAllOrNothing old new) tt (gained printed whole fault))

  pub ends_play : (how : CommitAnswer) → committed ≡ how → (printed : Result (Unit {0}) Status) → OnOk printed (Gains old new calls history) → IfErr printed (λ status. IsPrintFault old new calls history status)
      → EndsPlay source left clock old new before after (play_status how printed)
  ends_play answer.Done is (Ok done) whole fault = prints (EndsWhole after) (Gains old new) (ends_whole is) whole
  ends_play answer.Done is (Err status) whole fault = unprinted is status fault
  ends_play answer.WriteFault is printed whole fault = lost_write (rose_later before.write_faults mid.write_faults after.write_faults opened.writes (played.cause is)) printed whole fault
  ends_play (answer.Broken number) is printed whole fault = lost_write (lost-rose before after history from_before.causes (played.lost ∙ ap found_broken is)) printed whole fault
  ends_play answer.NoMemory is printed whole fault = inr (inl (prints LostNothing (GainsAllOrNothing old new) (lost_nothing (ap found_broken is)) (gained printed whole fault)))

-- a play on a device that was opened
pub ends_opened : (source left : SourceMeaning) (clock : ClockMeaning) (old new : SinkMeaning) (before mid after : Meaning) → Lawful before → Lawful mid → (read : Parsed) (w : World) (status : Status)
    → (IsTrue source.tells → read_script source.left ≡ Ok read) → w ≡ unmounted w → (IsTrue before.tells → Recovers before.shows w) → LeavesOnly before mid before.may_leave
    → EndsOn read clock w mid after old new status → EndsPlay source left clock old new before after status
ends_opened source left clock old new before mid after law mid_law read w status script bare recovers opened ends =
    ⊎_elim
    (λ (un : IsUnplayed mid after old new status).
    subst (EndsPlay source left clock old new before after) (sym un.status_is)
    (inl (un.nothing, leaves_on before mid after mid_law opened un.left)))
    (λ (p : IsPrinted read clock w mid after old new status).
    subst (EndsPlay source left clock old new before after) (sym p.status_is)
    (ends_play source left clock old new before mid after law read w p.history p.committed script bare recovers opened p.played p.committed refl p.printed p.whole p.fault))
    ends

print_begun : (old new : SinkMeaning) (asked : CallsBy) (history : List Entry) (status : Status) → IsPrintFault old new asked history status → leaves_device status ≡ false
print_begun old new asked history Done fault = absurd fault
print_begun old new asked history (Refused words) fault = absurd fault
print_begun old new asked history Usage fault = absurd fault
print_begun old new asked history (BadScript line) fault = absurd fault
print_begun old new asked history (NotOpened words) fault = absurd fault
print_begun old new asked history DeviceFault fault = absurd fault
print_begun old new asked history SourceFault fault = absurd fault
print_begun old new asked history SinkFault fault = refl
print_begun old new asked history NoMemory fault = refl

-- a play ends with a status that comes once the device was opened
pub play_begun : (old new : SinkMeaning) (asked : CallsBy) (history : List Entry) (committed : CommitAnswer) (printed : Result (Unit {0}) Status) → IfErr printed (λ status. IsPrintFault old new asked history status) → leaves_device (play_status committed printed) ≡ false
play_begun old new asked history answer.Done (Ok done) fault = refl
play_begun old new asked history answer.Done (Err status) fault = print_begun old new asked history status fault
play_begun old new asked history answer.WriteFault printed fault = refl
play_begun old new asked history (answer.Broken number) printed fault = refl
play_begun old new asked history answer.NoMemory printed fault = refl

-- it ends with a status that comes once the device was opened
pub ends_begun : (script : Parsed) (clock : ClockMeaning) (w : World) (mid after : Meaning) (old new : SinkMeaning) (status : Status) → EndsOn script clock w mid after old new status → leaves_device status ≡ false
ends_begun script clock w mid after old new status ends =
    ⊎_elim
    (λ (un : IsUnplayed mid after old new status). ap leaves_device un.status_is)
    (λ (p : IsPrinted script clock w mid after old new status).
    ap leaves_device p.status_is ∙ play_begun old new (call_at (calls_in script.calls)) p.history p.committed p.printed p.fault)
    ends

-- ---- a device that isn't opened

pub open_begun : (before after : Meaning) (status : Status) → IsOpenStatus before after status → leaves_device status ≡ false
open_begun before after Done is = absurd is
open_begun before after (Refused words) is = absurd is
open_begun before after Usage is = absurd is
open_begun before after (BadScript line) is = absurd is
open_begun before after (NotOpened words) is = refl
open_begun before after DeviceFault is = refl
open_begun before after SourceFault is = absurd is
open_begun before after SinkFault is = absurd is
open_begun before after NoMemory is = refl

pub open_leaves : (before after : Meaning) (status : Status) → IsOpenStatus before after status → LeavesOnly before after before.may_leave
open_leaves before after Done is = absurd is
open_leaves before after (Refused words) is = absurd is
open_leaves before after Usage is = absurd is
open_leaves before after (BadScript line) is = absurd is
open_leaves before after (NotOpened words) is = is.left
open_leaves before after DeviceFault is = is.1
open_leaves before after SourceFault is = absurd is
open_leaves before after SinkFault is = absurd is
open_leaves before after NoMemory is = is

pub ends_unopened : (source left : SourceMeaning) (clock : ClockMeaning) (out : SinkMeaning) (before after : Meaning) (status : Status) → IsOpenStatus before after status → EndsPlay source left clock out out before after status
ends_unopened source left clock out before after Done is = absurd is
ends_unopened source left clock out before after (Refused words) is = absurd is
ends_unopened source left clock out before after Usage is = absurd is
ends_unopened source left clock out before after (BadScript line) is = absurd is
ends_unopened source left clock out before after (NotOpened words) is = (is, λ told. refl)
ends_unopened source left clock out before after DeviceFault is = inl (is.0, ((λ told. refl), is.1))
ends_unopened source left clock out before after SourceFault is = absurd is
ends_unopened source left clock out before after SinkFault is = absurd is
ends_unopened source left clock out before after NoMemory is = inl ((λ told. refl), is)
