-- A play with the commit behind it.
use Rattle.std.proofs.Common.{◌≡◌, ◌≢◌, ⊎_elim, ℕ, ◌+◌, ◌≤◌, Bool, true, false, ◌||◌, Option, None, Some, is_some, IsTrue, List, [], ◌∷◌, if◌then◌else◌, refl, sym, ap, ◌∙◌, arith}
use Rattle.std.specs.Option.{option_or}
use Rattle.ck_disk.specs.declared.disk.Disk.{Ghosts}
use Rattle.ck_disk.specs.Disk.{Image, Meaning, Rose}
use Rattle.ck_io.specs.Clock.{ClockMeaning}
use Rattle.ck_model.specs.declared.entry.Entry.{Entry}
use Rattle.ck_model.specs.Streams.{Texts}
use Rattle.ck_model.specs.World.{World, unmounted}
use Rattle.ck_model.specs.History.{call_at, is_write_fault, state}
use Rattle.ck_script.specs.Numbered.{calls_in}
use Rattle.ck_script.specs.Parsed.{Parsed}
use Rattle.ck_engine.specs.Exact.{IsExact}
use Rattle.ck_volume.specs.declared.commit.CommitAnswer.{CommitAnswer}
use Rattle.ck_volume.specs.declared.commit.CommitAnswer.TheVariants as answer
use Rattle.ck_volume.specs.declared.volume.Volume.{Volume}
use Rattle.ck_volume.specs.Kept.{broken_by}
use Rattle.ck_volume.specs.Volume.{broken_of}
use Rattle.ck_admin.specs.Crash.{LeavesSince, found_broken, IsPlayed}
use Rattle.ck_admin.specs.Play.{IsPlay, IsLater, lost_a_write}
use Rattle.ck_admin.proofs.CrashLemmas.{broken_or_not}

-- a volume is broken exactly where an entry is WriteFault
broken-is : (number : ℕ) (broken : Option ℕ) (history : List Entry) → is_some (broken_by number broken history) ≡ (is_some broken || lost_a_write history)
broken-is number broken [] = sym (or_false (is_some broken))
  where
    or_false : (b : Bool) → (b || false) ≡ b
    or_false true = refl
    or_false false = refl
broken-is number broken (first ∷ history) =
    broken-is (number + 1) (option_or broken (if is_write_fault first.reply then Some number else None)) history
    ∙ either broken (is_write_fault first.reply) (lost_a_write history)
  where
    either : (o : Option ℕ) (b rest : Bool) → (is_some (option_or o (if b then Some number else None)) || rest) ≡ (is_some o || (b || rest))
    either None true rest = refl
    either None false rest = refl
    either (Some n) b rest = refl

pub rose_later : (old mid new : ℕ) → old ≤ mid → Rose mid new → Rose old new
rose_later old mid new low rose = omega (arith, low, rose)

pub rose_still : (old mid new : ℕ) → Rose old mid → mid ≤ new → Rose old new
rose_still old mid new rose low = omega (arith, low, rose)

refused_found : (committed : CommitAnswer) (n : ℕ) → committed ≡ answer.Broken n → found_broken committed ≡ true
refused_found committed n is = ap found_broken is

other_found : (committed : CommitAnswer) → ((n : ℕ) → committed ≢ answer.Broken n) → found_broken committed ≡ false
other_found answer.Done other = refl
other_found answer.WriteFault other = refl
other_found (answer.Broken n) other = absurd (other n refl)
other_found answer.NoMemory other = refl

module _ {D : Type 0} {g : Ghosts D} (script : Parsed) (clock : ClockMeaning) (w : World) (old mid new : Meaning) (history : List Entry) (before : Volume D g) (committed : CommitAnswer)
    (play : IsPlay script clock w old new history) (breaks : broken_of before ≡ broken_by 0 None history) (from_old : old.write_faults ≤ mid.write_faults) (later : IsLater old new)
    (cuts : ∥ LeavesSince (call_at (calls_in script.calls)) w old new history ∥₁)
    (refused : (n : ℕ) → broken_of before ≡ Some n → committed ≡ answer.Broken n) (not_refused : broken_of before ≡ None → (n : ℕ) → committed ≢ answer.Broken n)
    (cause : committed ≡ answer.WriteFault → Rose mid.write_faults new.write_faults)
    (exact : committed ≡ answer.Done → IsTrue old.tells → (texts : Texts) (image : Image) → new.may_leave image → IsExact (unmounted (state texts (call_at (calls_in script.calls)) w history)) image) where
  pub played : IsPlayed script clock w old new history committed
  played = record {
    play = play;
    later = later;
    cuts = cuts;
    lost = sym (ap is_some breaks ∙ broken-is 0 None history)
        ∙ ⊎_elim
        (λ (is : (number : ℕ) × (broken_of before ≡ Some number)). ap is_some is.1 ∙ sym (refused_found committed is.0 (refused is.0 is.1)))
        (λ (none : broken_of before ≡ None). ap is_some none ∙ sym (other_found committed (not_refused none)))
        (broken_or_not (broken_of before));
    exact = exact;
    cause = λ fault. rose_later old.write_faults mid.write_faults new.write_faults from_old (cause fault);
  }
