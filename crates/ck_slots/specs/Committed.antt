-- What a commit of a table to a region of a device does.
use Rattle.std.specs.Prelude.{⊤}
use Rattle.ck_disk.specs.Disk.{Image, Meaning, LeavesOnly, Rose}
use Rattle.ck_log.specs.Layout.{Layout}
use Rattle.ck_log.specs.Images.{CommitLeaves}
use Rattle.ck_model.specs.Table.{Table}
use Rattle.ck_area.specs.Area.{AreSlots}
use Rattle.ck_slots.specs.Written.{slots_of}
use Rattle.ck_slots.specs.declared.table.CommitFault.{CommitFault}
use Rattle.ck_slots.specs.declared.table.CommitFault.TheVariants as commit_fault

-- There are blocks in which the table is written. A crash at any moment of the commit leaves the region's table from
-- before or these blocks. What is said of the end holds of them.
pub record Commits (layout : Layout) (t : Table) (old new : Meaning) (AtTheEnd : Image → Type 0) : Type 0 where
  pub after : Image
  pub slots : AreSlots after (slots_of layout t)
  pub any_moment : LeavesOnly old new (CommitLeaves layout after old)
  pub at_the_end : AtTheEnd after

-- a write or a sync failed, or memory was refused
abbrev pub IsCommitFault : Meaning → Meaning → CommitFault → Type 0
IsCommitFault old new commit_fault.WriteFault = Rose old.write_faults new.write_faults
IsCommitFault old new commit_fault.NoMemory = ⊤
