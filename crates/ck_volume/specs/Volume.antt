-- What a volume stands for, and what is said of it between its calls.
use Rattle.std.specs.Prelude.{◌≡◌, ℕ, Option, List}
use Rattle.ck_disk.specs.Disk.{Image, Meaning}
use Rattle.ck_disk.specs.declared.disk.Disk.{Ghosts}
use Rattle.ck_history.specs.History as answers
use Rattle.ck_model.specs.declared.call.Call.{Call}
use Rattle.ck_model.specs.declared.entry.Entry.{Entry}
use Rattle.ck_model.specs.History.{Past}
use Rattle.ck_model.specs.Table.{Table}
use Rattle.ck_model.specs.World.{World, Mounts}
use Rattle.ck_engine.specs.Engine as files
use Rattle.ck_engine.specs.Formatted as formatted
use Rattle.ck_engine.specs.Opened as opened
use Rattle.ck_volume.specs.declared.volume.Volume.{Volume}
use Rattle.ck_volume.specs.Kept as kept
use Rattle.ck_volume.specs.Present.{Present, present}
use Rattle.ck_volume.specs.Present as now
use Rattle.ck_volume.specs.Told as told

-- its files, its history, and whether it is broken
abbrev pub present_of : {D : Type 0} {g : Ghosts D} → Volume D g → Present D
present_of volume = present volume.engine volume.log

-- the device
abbrev pub disk_of : {D : Type 0} {g : Ghosts D} → Volume D g → D
disk_of volume = files.disk_of volume.engine

-- the device as it stood when it was opened or formatted
abbrev pub origin_of : {D : Type 0} {g : Ghosts D} → Volume D g → D
origin_of volume = volume.origin.value

abbrev pub mounts_of : {D : Type 0} {g : Ghosts D} → Volume D g → Mounts
mounts_of volume = files.mounts_of volume.engine

-- the table in memory
abbrev pub table_of : {D : Type 0} {g : Ghosts D} → Volume D g → Table
table_of volume = files.table_of volume.engine

-- its history: the answered calls in the order of their answers
abbrev pub history_of : {D : Type 0} {g : Ghosts D} → Volume D g → List Entry
history_of volume = now.history_of (present_of volume)

-- how many calls there is memory for beside those
abbrev pub room_of : {D : Type 0} {g : Ghosts D} → Volume D g → ℕ
room_of volume = answers.room_of volume.log.history

-- how many calls it has answered
abbrev pub length_of : {D : Type 0} {g : Ghosts D} → Volume D g → ℕ
length_of volume = now.length_of (present_of volume)

-- how many of them were answered when a sync or a commit was done last, 0 before the first
abbrev pub committed_of : {D : Type 0} {g : Ghosts D} → Volume D g → ℕ
committed_of volume = volume.committed.value

-- after how many calls a commit broke it, where one did
abbrev pub spoilt_of : {D : Type 0} {g : Ghosts D} → Volume D g → Option ℕ
spoilt_of volume = volume.spoilt.value

-- the calls that its entries answer, in their order
abbrev pub told_of : {D : Type 0} {g : Ghosts D} → Volume D g → List Call
told_of volume = told.told_of volume.told

-- after how many calls it broke
abbrev pub broken_of : {D : Type 0} {g : Ghosts D} → Volume D g → Option ℕ
broken_of volume = volume.log.broken

-- the world that it stands for where reads give this
abbrev pub world_of : {D : Type 0} {g : Ghosts D} → Image → Volume D g → World
world_of shows volume = files.world_of shows volume.engine

-- where its history stands
abbrev pub past_on : {D : Type 0} {g : Ghosts D} → Image → Volume D g → Past
past_on shows volume = now.past_on shows (present_of volume)

-- Only its room may differ: the entries, the files, the mounts and the device stay as they are.
abbrev pub KeepsAllButRoom : {D : Type 0} {g : Ghosts D} → Volume D g → Volume D g → Type 0
KeepsAllButRoom before after = present_of after ≡ present_of before

-- The calls that it answered, the memory for more, what was committed and what broke it stay as they are.
pub record KeepsLog {D : Type 0} {g : Ghosts D} (before after : Volume D g) : Type 0 where
  pub history : history_of after ≡ history_of before
  pub room : room_of after ≡ room_of before
  pub told : told_of after ≡ told_of before
  pub committed : committed_of after ≡ committed_of before
  pub spoilt : spoilt_of after ≡ spoilt_of before
  pub broken : broken_of after ≡ broken_of before
  pub origin : origin_of after ≡ origin_of before

-- what every volume keeps
abbrev pub IsKept : {D : Type 0} {g : Ghosts D} → (D → Meaning) → Volume D g → Type 0
IsKept means volume = kept.IsKept (means (origin_of volume)) (means (disk_of volume)) (told_of volume) (committed_of volume) (spoilt_of volume) (present_of volume)

-- a volume at its beginning
abbrev pub IsBegun : {D : Type 0} {g : Ghosts D} → Meaning → Volume D g → Type 0
IsBegun m volume = now.IsBegun m (present_of volume)

-- it has no history yet, and the files that the device recovers to
pub record IsOpened {D : Type 0} {g : Ghosts D} (old new : Meaning) (volume : Volume D g) : Type 0 where
  pub begun : IsBegun new volume
  pub files_are : opened.IsOpened old new volume.engine

-- it has no history yet, and no files
pub record IsFormatted {D : Type 0} {g : Ghosts D} (blocks records : ℕ) (old new : Meaning) (volume : Volume D g) : Type 0 where
  pub begun : IsBegun new volume
  pub files_are : formatted.IsFormatted blocks records old new volume.engine
