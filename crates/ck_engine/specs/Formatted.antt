-- How a device is formatted.
use Rattle.std.specs.Prelude.{◌≡◌, ◌<◌, ◌≤◌, ℕ, IsTrue}
use Rattle.ck_disk.specs.Disk.{Image, Meaning, Rose}
use Rattle.ck_log.specs.Layout.{size_of}
use Rattle.ck_model.specs.World.{World, empty_world}
use Rattle.ck_model.specs.Limits.{checkpoint_limit}
use Rattle.ck_engine.specs.declared.format.FormatFault.{FormatFault}
use Rattle.ck_engine.specs.declared.format.FormatFault.TheVariants as fault
use Rattle.ck_engine.specs.declared.engine.Engine.{Engine}
use Rattle.ck_engine.specs.Exact.{IsExact}
use Rattle.ck_engine.specs.Opened.{IsBegun}
use Rattle.ck_engine.specs.Engine.{world_of, KeepsWorld}
use Rattle.ck_disk.specs.Runs.{Runs}

-- the world of a new volume: the root directory alone
abbrev pub new_world : ℕ → ℕ → World
new_world blocks records = empty_world (record { blocks = blocks; records = records; checkpoints = checkpoint_limit })

-- A new volume. Each image that a crash leaves has its world, and nothing beside it.
pub record IsFormatted {D : Type 0} (blocks records : ℕ) (old new : Meaning) (engine : Engine D) : Type 0 where
  pub begun : IsBegun new engine
  pub long : size_of blocks records ≤ old.size
  pub runs : Runs old new
  pub world : world_of new.shows engine ≡ new_world blocks records
  pub kept : IsTrue old.tells → KeepsWorld new engine (new_world blocks records)
  pub exact : IsTrue old.tells → (image : Image) → new.may_leave image → IsExact (new_world blocks records) image

-- why it isn't formatted: it is too short, and left as it is, or a write or a sync failed, or memory was refused
abbrev pub IsFormatFault : {D : Type 0} → (D → Meaning) → ℕ → ℕ → D → FormatFault D → Type 0
IsFormatFault means blocks records disk (fault.BadSize left needs has) =
    (left ≡ disk) × (needs ≡ size_of blocks records) × (has ≡ (means disk).size) × ((means disk).size < size_of blocks records)
IsFormatFault means blocks records disk (fault.WriteFault left) =
    Rose (means disk).write_faults (means left).write_faults × (size_of blocks records ≤ (means disk).size) × Runs (means disk) (means left)
IsFormatFault means blocks records disk (fault.NoMemory left) =
    (size_of blocks records ≤ (means disk).size) × Runs (means disk) (means left)
