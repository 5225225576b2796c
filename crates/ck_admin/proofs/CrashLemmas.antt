-- From what the volume keeps to what a play leaves.
use Rattle.std.proofs.Common.{◌≡◌, ◌⊎◌, inl, inr, ℕ, ◌+◌, ◌≤◌, None, Some, Option, IsTrue, List, [], ◌∷◌, ◌++◌, length, refl, arith, length-append}
use Rattle.ck_disk.specs.Disk.{Image, Meaning}
use Rattle.ck_model.specs.declared.call.Call.{Call}
use Rattle.ck_model.specs.declared.entry.Entry.{Entry}
use Rattle.ck_model.specs.World.{World}
use Rattle.ck_model.specs.History.{CallsBy}
use Rattle.ck_volume.specs.declared.commit.CommitAnswer.{CommitAnswer}
use Rattle.ck_volume.specs.declared.commit.CommitAnswer.TheVariants as answer
use Rattle.ck_volume.specs.Present.{Present, history_of}
use Rattle.ck_volume.specs.CommitAnswer.{committed_after}
use Rattle.ck_volume.specs.Cuts.{CutSince, LeavesCuts as KeepsCuts}
use Rattle.ck_engine.specs.Recovery.{Recovers}
use Rattle.ck_volume.specs.Told.{AreAnswered}
use Rattle.ck_disk.proofs.MomentLaws.{leaves_more}
use Rattle.ck_volume.proofs.TopCutsLaws.{opens-recovers}
use Rattle.ck_admin.specs.Crash.{synced_count, CutFrom, LeavesSince}

pub longer : (history : List Entry) (entry : Entry) → length (history ++ entry ∷ []) ≡ length history + 1
longer history entry = simp length-append (omega arith)

pub broken_or_not : (o : Option ℕ) → ((number : ℕ) × (o ≡ Some number)) ⊎ (o ≡ None)
broken_or_not None = inr refl
broken_or_not (Some number) = inl (number, refl)

-- a commit leaves no fewer entries committed
pub committed_no_less : (n committed length : ℕ) (how : CommitAnswer) → n ≤ committed → committed ≤ length → n ≤ committed_after length committed how
committed_no_less n committed length answer.Done low within = omega (arith, low, within)
committed_no_less n committed length answer.WriteFault low within = low
committed_no_less n committed length (answer.Broken number) low within = low
committed_no_less n committed length answer.NoMemory low within = low

pub cuts_since : {D : Type 0} (old now : Meaning) (volume : Present D) (calls : CallsBy) (w : World) (told : List Call) (least : ℕ) → (IsTrue old.tells → Recovers old.shows w) → AreAnswered calls told (history_of volume)
    → synced_count calls (history_of volume) ≤ least → KeepsCuts old now told least volume → LeavesSince calls w old now (history_of volume)
cuts_since old now volume calls w told least found answered low cuts =
    let history = history_of volume in
    record {
      any_moment = leaves_more old now (CutSince old told history 0) (CutFrom old calls w history 0)
          (λ image cut is_told. opens-recovers old calls w told history 0 0 answered (omega arith) (found is_told) image (cut is_told))
          cuts.any_moment;
      at_the_end = λ image left is_told. opens-recovers old calls w told history least (synced_count calls history) answered low (found is_told) image (cuts.at_the_end image left is_told);
    }
