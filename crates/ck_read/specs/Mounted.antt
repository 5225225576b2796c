-- A read of a mounted checkpoint's file in a world.
use Rattle.std.specs.Prelude.{◌≡◌, ℕ, List, Some, find}
use Rattle.std.specs.FinMap as map
use Rattle.ck_model.specs.declared.checkpoint.Kind.TheVariants.{Keeping}
use Rattle.ck_model.specs.World.{World, Checkpoint, has_id}
use Rattle.ck_read.specs.declared.progress.ReadProgress.{ReadProgress}
use Rattle.ck_read.specs.Progress.{IsReadOf}

-- The actor's letter stands for its checkpoint. Where that stands with its data, the read is of the file that the path leads
-- to there.
pub record IsReadIn (w : World) (actor letter : ℕ) (path : List (List ℕ)) (at len : ℕ) (progress : ReadProgress) : Type 0 where
  pub mounted : map.get w.mounts (actor, letter) ≡ Some progress.ckpt
  pub reads : (checkpoint : Checkpoint) → find (has_id progress.ckpt) w.checkpoints ≡ Some checkpoint → checkpoint.kind ≡ Keeping → IsReadOf checkpoint.cells path at len progress

-- its checkpoint stands with its data, and the read is of that file
pub record IsReadNow (w : World) (actor letter : ℕ) (path : List (List ℕ)) (at len : ℕ) (progress : ReadProgress) : Type 0 where
  pub mounted : map.get w.mounts (actor, letter) ≡ Some progress.ckpt
  pub checkpoint : Checkpoint
  pub stands : find (has_id progress.ckpt) w.checkpoints ≡ Some checkpoint
  pub keeps : checkpoint.kind ≡ Keeping
  pub reads : IsReadOf checkpoint.cells path at len progress
