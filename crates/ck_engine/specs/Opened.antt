-- How a device is opened.
use Rattle.std.specs.Prelude.{◌≡◌, IsTrue}
use Rattle.std.specs.FinMap as map
use Rattle.ck_disk.specs.Disk.{Meaning, LeavesOnly, Rose}
use Rattle.ck_engine.specs.Recovery.{Recovery, NotVolume, BadFormat, Damaged, Finds, Recovers}
use Rattle.ck_engine.specs.declared.open.OpenFault.{OpenFault}
use Rattle.ck_engine.specs.declared.open.OpenFault.TheVariants as fault
use Rattle.ck_engine.specs.declared.engine.Engine.{Engine}
use Rattle.ck_engine.specs.Engine.{world_of, IsWhole, KeepsWorld}

-- files at their beginning, without mounts
pub record IsBegun {D : Type 0} (m : Meaning) (engine : Engine D) : Type 0 where
  pub whole : IsWhole m engine
  pub mounts_are : engine.mounts ≡ map.empty

-- Its world is what the device recovers to, and a crash leaves that. A crash while it is opened leaves what one at the
-- beginning could leave.
pub record IsOpened {D : Type 0} (old new : Meaning) (engine : Engine D) : Type 0 where
  pub begun : IsBegun new engine
  pub recovers : IsTrue old.tells → Recovers old.shows (world_of new.shows engine)
  pub kept : IsTrue old.tells → KeepsWorld new engine (world_of new.shows engine)
  pub any_moment : LeavesOnly old new old.may_leave

-- the device recovers to this refusal
abbrev pub IsFound : Meaning → Meaning → Recovery → Type 0
IsFound old new found = (IsTrue old.tells → Finds old.shows found) × LeavesOnly old new old.may_leave

-- why it isn't opened
abbrev pub IsOpenFault : {D : Type 0} → (D → Meaning) → Meaning → OpenFault D → Type 0
IsOpenFault means old (fault.NotVolume disk) = IsFound old (means disk) NotVolume
IsOpenFault means old (fault.BadFormat disk version) = IsFound old (means disk) (BadFormat version)
IsOpenFault means old (fault.Damaged disk block slot) = IsFound old (means disk) (Damaged block slot)
IsOpenFault means old (fault.ReadFault disk) = Rose old.read_faults (means disk).read_faults × LeavesOnly old (means disk) old.may_leave
IsOpenFault means old (fault.WriteFault disk) = Rose old.write_faults (means disk).write_faults × LeavesOnly old (means disk) old.may_leave
IsOpenFault means old (fault.NoMemory disk) = LeavesOnly old (means disk) old.may_leave
