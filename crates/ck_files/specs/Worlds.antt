-- Tables that stand for one world, or for that world without the checkpoints that were given up first.
use Rattle.std.specs.Prelude.{◌≡◌, ℕ}
use Rattle.ck_model.specs.declared.key.Key.{Key}
use Rattle.ck_model.specs.Space.{without_picks}
use Rattle.ck_model.specs.Table.{Table, column}
use Rattle.ck_model.specs.TableWorld.{world_on}
use Rattle.ck_model.specs.Values.{Store}
use Rattle.ck_model.specs.World.{Mounts}

-- over every device the world without so many picks, with the same limits and the same entries of the primary
pub record StandsWithout (given : ℕ) (old new : Table) : Type 0 where
  pub worlds : (store : Store) (mounts : Mounts) → world_on store mounts new ≡ without_picks given (world_on store mounts old)
  pub primary : (key : Key) → column new key 0 ≡ column old key 0
  pub counters : new.counters ≡ old.counters
  pub blocks : new.blocks ≡ old.blocks
  pub records : new.records ≡ old.records

-- the same world
abbrev pub StandAlike : Table → Table → Type 0
StandAlike old new = StandsWithout 0 old new
