-- What a crash leaves of the history of a volume: cuts.
use Rattle.std.specs.Prelude.{◌≡◌, ◌≤◌, ◌⊎◌, ℕ, zero, suc, List, [], ◌∷◌, None, IsTrue, length, take}
use Rattle.ck_disk.specs.Disk.{Image, Meaning, LeavesOnly}
use Rattle.ck_model.specs.declared.call.Call.{Call}
use Rattle.ck_model.specs.declared.entry.Entry.{Entry}
use Rattle.ck_model.specs.Streams.{Texts}
use Rattle.ck_model.specs.Space.{without_picks}
use Rattle.ck_model.specs.World.{World, unmounted}
use Rattle.ck_model.specs.History.{CallsBy, state}
use Rattle.ck_volume.specs.Present.{Present, history_of, broken_of, world_of, KeepsWorld}
use Rattle.ck_engine.specs.Recovery.{Recovers}
use Rattle.ck_volume.specs.Told.{AreAnswered}

-- how many checkpoints the entry with this number gave up, 0 behind the last one
abbrev pub given_at : List Entry → ℕ → ℕ
given_at [] number = 0
given_at (entry ∷ entries) zero = entry.given
given_at (entry ∷ entries) (suc number) = given_at entries number

-- The world after the first entries, at least so many, without its mounts, whatever the texts of streams are; or what the
-- call behind them committed on its way: that world without some of the picks that its entry gave up.
pub record IsCut (origin : Meaning) (told : List Call) (history : List Entry) (least : ℕ) (w : World) : Type 0 where
  pub count : ℕ
  pub given : ℕ
  pub least_is : least ≤ count
  pub within : count ≤ length history
  pub few : given ≤ given_at history count
  pub is : (first : World) → Recovers origin.shows first → (texts : Texts) (calls : CallsBy) → AreAnswered calls told history
      → unmounted (without_picks given (state texts calls first (take count history))) ≡ w

-- the image opens to a cut
pub record OpensToCut (origin : Meaning) (told : List Call) (history : List Entry) (least : ℕ) (image : Image) : Type 0 where
  pub world : World
  pub cut : IsCut origin told history least world
  pub recovers : Recovers image world

-- where the device tells what it holds
abbrev pub CutSince : Meaning → List Call → List Entry → ℕ → Image → Type 0
CutSince origin told history least image = IsTrue origin.tells → OpensToCut origin told history least image

-- a cut is committed
pub record CommitsCut {D : Type 0} (origin now : Meaning) (told : List Call) (least : ℕ) (volume : Present D) : Type 0 where
  pub world : World
  pub cut : IsCut origin told (history_of volume) least world
  pub keeps : KeepsWorld now volume world

-- Each image that a crash may have left since the origin opens to a cut of the history, each one that it leaves now to a cut
-- with at least so many entries, and where the volume isn't broken such a cut is committed.
pub record LeavesCuts {D : Type 0} (origin now : Meaning) (told : List Call) (least : ℕ) (volume : Present D) : Type 0 where
  pub any_moment : LeavesOnly origin now (CutSince origin told (history_of volume) 0)
  pub at_the_end : (image : Image) → now.may_leave image → CutSince origin told (history_of volume) least image
  pub kept : broken_of volume ≡ None → IsTrue origin.tells → CommitsCut origin now told least volume

-- ---- what one call leaves

-- the image opens to that world, or to the present one without some of so many picks
abbrev pub OpensOnTheWay : ℕ → World → World → Image → Type 0
OpensOnTheWay most w present image = Recovers image w ⊎ ((given : ℕ) × ((given ≤ most) × Recovers image (unmounted (without_picks given present))))

-- that world is committed, or the present one without some of so many picks
abbrev pub KeepsOnTheWay : {D : Type 0} → ℕ → Meaning → Present D → World → World → Type 0
KeepsOnTheWay most now volume w present = KeepsWorld now volume w ⊎ ((given : ℕ) × ((given ≤ most) × KeepsWorld now volume (unmounted (without_picks given present))))

-- a crash while a call runs that gives up so many checkpoints
abbrev pub SurvivesOnTheWay : {D : Type 0} → ℕ → Meaning → Meaning → Present D → Type 0
SurvivesOnTheWay most old new before = IsTrue old.tells → (w : World) → KeepsWorld old before w → LeavesOnly old new (OpensOnTheWay most w (world_of old.shows before))
