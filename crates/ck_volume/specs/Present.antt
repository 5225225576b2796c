-- What a volume has at a moment: its files, the entries of the calls that it answered, and whether it is broken.
use Rattle.std.specs.Prelude.{◌≡◌, ℕ, Option, None, List, [], length}
use Rattle.std.specs.FinMap as map
use Rattle.ck_disk.specs.Disk.{Image, Meaning}
use Rattle.ck_history.specs.History.{entries_of}
use Rattle.ck_model.specs.declared.entry.Entry.{Entry}
use Rattle.ck_model.specs.History.{Past}
use Rattle.ck_model.specs.World.{World}
use Rattle.ck_engine.specs.declared.engine.Engine.{Engine}
use Rattle.ck_engine.specs.Engine as files
use Rattle.ck_volume.specs.declared.log.Log.{Log}

pub record Present (D : Type 0) : Type 0 where
  pub engine : Engine D
  pub history : List Entry
  pub broken : Option ℕ

-- over these files, with this log
abbrev pub present : {D : Type 0} → Engine D → Log → Present D
present engine log = record { engine = engine; history = entries_of log.history; broken = log.broken }

-- the device
abbrev pub disk_of : {D : Type 0} → Present D → D
disk_of volume = files.disk_of volume.engine

-- its history: the answered calls in the order of their answers
abbrev pub history_of : {D : Type 0} → Present D → List Entry
history_of volume = volume.history

-- how many calls it has answered
abbrev pub length_of : {D : Type 0} → Present D → ℕ
length_of volume = length volume.history

-- after how many calls it broke
abbrev pub broken_of : {D : Type 0} → Present D → Option ℕ
broken_of volume = volume.broken

-- the world that it stands for where reads give this
abbrev pub world_of : {D : Type 0} → Image → Present D → World
world_of shows volume = files.world_of shows volume.engine

-- where its history stands
abbrev pub past_on : {D : Type 0} → Image → Present D → Past
past_on shows volume = record { world = world_of shows volume; length = length_of volume; broken = broken_of volume }

-- a broken one is asked for nothing
abbrev pub IsReady : {D : Type 0} → Meaning → Present D → Type 0
IsReady m volume = broken_of volume ≡ None → files.IsWhole m volume.engine

-- what a crash leaves now: that world and no other
abbrev pub KeepsWorld : {D : Type 0} → Meaning → Present D → World → Type 0
KeepsWorld m volume w = files.KeepsWorld m volume.engine w

-- a crash while a call runs
abbrev pub Survives : {D : Type 0} → Meaning → Meaning → Present D → Type 0
Survives old new before = files.Survives old new before.engine

-- a volume at its beginning
pub record IsBegun {D : Type 0} (m : Meaning) (volume : Present D) : Type 0 where
  pub whole : files.IsWhole m volume.engine
  pub history_is : history_of volume ≡ []
  pub unbroken : broken_of volume ≡ None
  pub mounts_are : files.mounts_of volume.engine ≡ map.empty
