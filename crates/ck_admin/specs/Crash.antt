-- What a crash leaves of the play of a script.
use Rattle.std.specs.Prelude.{◌≡◌, ◌⊎◌, ℕ, Bool, true, false, List, IsTrue}
use Rattle.ck_disk.specs.Disk.{Image, Meaning, IsSynced, LeavesOnly, Rose}
use Rattle.ck_io.specs.Clock.{ClockMeaning}
use Rattle.ck_model.specs.declared.entry.Entry.{Entry}
use Rattle.ck_model.specs.Streams.{Texts}
use Rattle.ck_model.specs.World.{World, unmounted}
use Rattle.ck_model.specs.History.{CallsBy, call_at, state}
use Rattle.ck_script.specs.Numbered.{calls_in}
use Rattle.ck_script.specs.Parsed.{Parsed}
use Rattle.ck_volume.specs.declared.commit.CommitAnswer.{CommitAnswer}
use Rattle.ck_volume.specs.declared.commit.CommitAnswer.TheVariants as answer
use Rattle.ck_engine.specs.Exact.{IsExact}
pub use Rattle.ck_volume.specs.TopCuts.{is_synced, synced_from, synced_count, RecoversCut, CutFrom}
use Rattle.ck_admin.specs.Play.{IsPlay, IsLater, lost_a_write}

-- ---- what images recover

-- Each image that a crash leaves at any moment recovers a cut of the history. Only the images from before the device was
-- opened may be others: where a write stood on it that wasn't synced, they are what the device could leave anyway. An
-- image of a crash at the end has each acknowledged sync.
pub record LeavesCuts (calls : CallsBy) (w : World) (old new : Meaning) (history : List Entry) : Type 0 where
  pub any_moment : IsSynced old → (image : Image) → new.left_since old.moment image → CutFrom old calls w history 0 image
  pub unsynced : (image : Image) → new.left_since old.moment image → old.may_leave image ⊎ CutFrom old calls w history 0 image
  pub at_the_end : (image : Image) → new.may_leave image → CutFrom old calls w history (synced_count calls history) image

-- ---- a play, and the commit behind it

-- Each image that a crash leaves from the one moment to the other recovers a cut of the history, and each one at the end a cut
-- with the acknowledged syncs.
pub record LeavesSince (calls : CallsBy) (w : World) (old new : Meaning) (history : List Entry) : Type 0 where
  pub any_moment : LeavesOnly old new (CutFrom old calls w history 0)
  pub at_the_end : (image : Image) → new.may_leave image → CutFrom old calls w history (synced_count calls history) image

-- the commit found a volume that was broken before
abbrev pub found_broken : CommitAnswer → Bool
found_broken answer.Done = false
found_broken answer.WriteFault = false
found_broken (answer.Broken number) = true
found_broken answer.NoMemory = false

-- a play of a script from an opened volume's world, to the end of the commit behind it
pub record IsPlayed (script : Parsed) (clock : ClockMeaning) (w : World) (old new : Meaning) (history : List Entry) (committed : CommitAnswer) : Type 0 where
  pub play : IsPlay script clock w old new history
  pub later : IsLater old new
  pub cuts : ∥ LeavesSince (call_at (calls_in script.calls)) w old new history ∥₁
  pub lost : lost_a_write history ≡ found_broken committed
  pub exact : committed ≡ answer.Done → IsTrue old.tells → (texts : Texts) (image : Image) → new.may_leave image → IsExact (unmounted (state texts (call_at (calls_in script.calls)) w history)) image
  pub cause : committed ≡ answer.WriteFault → Rose old.write_faults new.write_faults
