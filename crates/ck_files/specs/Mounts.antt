-- A checkpoint that an actor's letter stands for.
use Rattle.std.specs.Prelude.{◌≡◌, ℕ, Ok}
use Rattle.ck_model.specs.declared.checkpoint.Fileset.{Fileset}
use Rattle.ck_model.specs.World.{Mounts}
use Rattle.ck_model.specs.CheckpointCalls.{mounted_checkpoint}
use Rattle.ck_model.specs.Table.{Table}
use Rattle.ck_model.specs.Values.{Store}
use Rattle.ck_model.specs.TableWorld.{checkpoint_on, world_on}

-- the letter stands for the checkpoint with this id, which isn't gone
pub record IsMounted (store : Store) (mounts : Mounts) (t : Table) (actor letter id : ℕ) : Type 0 where
  pub fileset : Fileset
  pub mounted : mounted_checkpoint (world_on store mounts t) actor letter ≡ Ok (checkpoint_on store t id fileset)
