-- What the files of a volume stand for, and what calls on them keep.
use Rattle.std.specs.Prelude.{◌≡◌, ◌≤◌, ◌⊎◌, ℕ, Result, Ok, Err, IsTrue}
use Rattle.ck_disk.specs.Runs.{Runs}
use Rattle.ck_disk.specs.Disk.{Image, Meaning, LeavesOnly}
use Rattle.ck_log.specs.Layout.{Layout, base_of, size_of}
use Rattle.ck_log.specs.Images.{Settled}
use Rattle.ck_alloc.specs.Blocks.{Allocation}
use Rattle.ck_model.specs.Space.{without_picks}
use Rattle.ck_model.specs.World.{World, Mounts, unmounted}
use Rattle.ck_model.specs.Table.{Table}
use Rattle.ck_model.specs.TableWorld.{world_on}
use Rattle.ck_slots.specs.Slots.{table_in}
use Rattle.ck_data.specs.declared.fault.Fault.{Fault}
use Rattle.ck_data.specs.declared.fault.Fault.TheVariants as fault
use Rattle.ck_engine.specs.declared.engine.Engine.{Engine}
use Rattle.ck_engine.specs.Committed.{Keeps, OpensToEither}
use Rattle.ck_data.specs.Device.{store_on}
use Rattle.ck_nodata.specs.StripItem.{IsStrippedTo}
use Rattle.ck_files.specs.Allocated.{KeepsBusy}
use Rattle.ck_files.specs.Files.{AreFiles}
use Rattle.ck_files.specs.Reports.{limits_of}
use Rattle.ck_files.specs.Worlds.{StandAlike}

-- the device
abbrev pub disk_of : {D : Type 0} → Engine D → D
disk_of engine = engine.disk

abbrev pub mounts_of : {D : Type 0} → Engine D → Mounts
mounts_of engine = engine.mounts

-- which data blocks are in use, pending or free
abbrev pub blocks_of : {D : Type 0} → Engine D → Allocation
blocks_of engine = engine.blocks

-- the table in memory
abbrev pub table_of : {D : Type 0} → Engine D → Table
table_of engine = table_in engine.slots

-- where it stands on the device
abbrev pub layout_of : {D : Type 0} → Engine D → Layout
layout_of engine = engine.region

-- the device's block that is data block 0
abbrev pub data_of : {D : Type 0} → Engine D → ℕ
data_of engine = base_of (layout_of engine).records

-- the world that it stands for where reads give this
abbrev pub world_of : {D : Type 0} → Image → Engine D → World
world_of shows engine = world_on (store_on shows (data_of engine)) engine.mounts (table_of engine)

-- what holds between two calls, while no write has failed
pub record IsWhole {D : Type 0} (m : Meaning) (engine : Engine D) : Type 0 where
  pub files : AreFiles (limits_of (table_of engine)) (table_of engine) engine.blocks
  pub blocks : (layout_of engine).blocks ≡ (table_of engine).blocks
  pub records : (layout_of engine).records ≡ (table_of engine).records
  pub size : size_of (layout_of engine).blocks (layout_of engine).records ≤ m.size
  pub settled : Settled (layout_of engine) m
  pub stripped : IsStrippedTo (table_of engine) engine.stripped

-- what a crash leaves now: that world and no other
abbrev pub KeepsWorld : {D : Type 0} → Meaning → Engine D → World → Type 0
KeepsWorld m engine w = Keeps (layout_of engine) engine.blocks m w

abbrev pub no_memory : Fault
no_memory = fault.NoMemory

-- a step that nobody sees: the device isn't called, and the table stands for the same world over every device
pub record IsUnnoticed {D : Type 0} (before after : Engine D) : Type 0 where
  pub disk : disk_of after ≡ disk_of before
  pub layout : layout_of after ≡ layout_of before
  pub mounts : mounts_of after ≡ mounts_of before
  pub alike : StandAlike (table_of before) (table_of after)
  pub files : AreFiles (limits_of (table_of before)) (table_of after) (blocks_of after)
  pub busy : KeepsBusy (blocks_of before) (blocks_of after)

-- ---- what a call leaves on the device

-- While it runs, a crash leaves the world that was committed last, or the present one from before the call without the checkpoints that
-- it gave up. Where no write failed, one of the two is committed, and the volume goes on.
pub record GoesOnGiving {D : Type 0} (given : ℕ) (old new : Meaning) (before after : Engine D) : Type 0 where
  pub whole : IsWhole new after
  pub kept : IsTrue old.tells → (w : World) → KeepsWorld old before w
      → KeepsWorld new after w ⊎ KeepsWorld new after (unmounted (without_picks given (world_of old.shows before)))

-- a failed write breaks it, and nothing else does
abbrev pub GoesOnGivingOrBreaks : {D : Type 0} {Y : Type 0} → ℕ → Meaning → Meaning → Engine D → Engine D → Result Y Fault → Type 0
GoesOnGivingOrBreaks given old new before after (Ok y) = GoesOnGiving given old new before after
GoesOnGivingOrBreaks given old new before after (Err why) = (why ≡ fault.WriteFault) ⊎ GoesOnGiving given old new before after

-- a crash while a call runs that gives up so many checkpoints
abbrev pub SurvivesGiving : {D : Type 0} → ℕ → Meaning → Meaning → Engine D → Type 0
SurvivesGiving given old new before =
    IsTrue old.tells → (w : World) → KeepsWorld old before w → LeavesOnly old new (OpensToEither w (unmounted (without_picks given (world_of old.shows before))))

-- What an attempt at a call keeps, whatever it answers. A crash at any moment of it leaves one of two worlds.
pub record IsAttemptGiving {D : Type 0} (given : ℕ) (old new : Meaning) (before after : Engine D) : Type 0 where
  pub runs : Runs old new
  pub survives : SurvivesGiving given old new before

-- ---- where nothing is given up

abbrev pub GoesOn : {D : Type 0} → Meaning → Meaning → Engine D → Engine D → Type 0
GoesOn old new before after = GoesOnGiving 0 old new before after

abbrev pub GoesOnOrBreaks : {D : Type 0} {Y : Type 0} → Meaning → Meaning → Engine D → Engine D → Result Y Fault → Type 0
GoesOnOrBreaks old new before after result = GoesOnGivingOrBreaks 0 old new before after result

abbrev pub Survives : {D : Type 0} → Meaning → Meaning → Engine D → Type 0
Survives old new before = SurvivesGiving 0 old new before

abbrev pub IsAttempt : {D : Type 0} → Meaning → Meaning → Engine D → Engine D → Type 0
IsAttempt old new before after = IsAttemptGiving 0 old new before after
