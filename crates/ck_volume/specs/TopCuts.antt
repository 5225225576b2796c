-- Cuts as a caller tells them, who has the world that the history began at, and the calls by their actors.
use Rattle.std.specs.Prelude.{◌≤◌, ◌+◌, ℕ, Bool, false, List, [], ◌∷◌, IsTrue, length, take, if◌then◌else◌}
use Rattle.std.specs.Option.{option_map_or}
use Rattle.ck_disk.specs.Disk.{Image, Meaning}
use Rattle.ck_model.specs.declared.entry.Entry.{Entry}
use Rattle.ck_model.specs.Streams.{Texts}
use Rattle.ck_model.specs.Space.{without_picks}
use Rattle.ck_model.specs.World.{World, unmounted}
use Rattle.ck_model.specs.History.{CallsBy, state}
use Rattle.ck_volume.specs.Causes.{acknowledges}
use Rattle.ck_volume.specs.Cuts.{given_at}
use Rattle.ck_engine.specs.Recovery.{Recovers}

-- the entry says that a sync was done
abbrev pub is_synced : CallsBy → Entry → Bool
is_synced calls entry = option_map_or (λ call. acknowledges call entry.reply) (calls entry.actor entry.seq) false

-- the number of entries up to the last of these that says so, the first of them having this number
abbrev pub synced_from : CallsBy → ℕ → ℕ → List Entry → ℕ
synced_from calls number synced [] = synced
synced_from calls number synced (entry ∷ entries) = synced_from calls (number + 1) (if is_synced calls entry then number + 1 else synced) entries

-- the number of entries up to the last acknowledged sync, 0 where there is none
abbrev pub synced_count : CallsBy → List Entry → ℕ
synced_count calls history = synced_from calls 0 0 history

-- The image opens to the world after the first entries of the history, at least so many, without its mounts, whatever the
-- texts of streams are; or to what the call behind them committed on its way, without some of the picks that its entry gave up.
pub record RecoversCut (calls : CallsBy) (w : World) (history : List Entry) (least : ℕ) (image : Image) : Type 0 where
  pub count : ℕ
  pub given : ℕ
  pub least_is : least ≤ count
  pub within : count ≤ length history
  pub few : given ≤ given_at history count
  pub recovers : (texts : Texts) → Recovers image (unmounted (without_picks given (state texts calls w (take count history))))

abbrev pub CutFrom : Meaning → CallsBy → World → List Entry → ℕ → Image → Type 0
CutFrom old calls w history least image = IsTrue old.tells → RecoversCut calls w history least image
