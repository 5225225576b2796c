-- How many faults of the device a history tells of, and which sync it acknowledges.
use Rattle.std.specs.Prelude.{◌≤◌, ℕ, ◌+◌, ◌-◌, ◌^◌, ◌&&◌, Bool, true, false, List, [], ◌∷◌, min, if◌then◌else◌}
use Rattle.ck_disk.specs.Disk.{Meaning}
use Rattle.ck_model.specs.declared.call.Call.{Call}
use Rattle.ck_model.specs.declared.call.Call.TheVariants.{Sync}
use Rattle.ck_model.specs.declared.entry.Entry.{Entry}
use Rattle.ck_model.specs.declared.reply.Reply.{Reply}
use Rattle.ck_model.specs.declared.reply.Reply.TheVariants.{Done}
use Rattle.ck_model.specs.History.{is_write_fault}
use Rattle.ck_volume.specs.Event.{is_read_fault}

-- how many entries have such a reply
abbrev pub replies_of : (Reply → Bool) → List Entry → ℕ
replies_of is [] = 0
replies_of is (entry ∷ entries) = (if is entry.reply then 1 else 0) + replies_of is entries

-- The count of failed reads rose at least by the entries ReadFault, and that of failed writes and syncs by the entries
-- WriteFault. A count that stands at its end bounds nothing.
pub record HasCauses (old new : Meaning) (history : List Entry) : Type 0 where
  pub reads : min (old.read_faults + replies_of is_read_fault history) (2 ^ 64 - 1) ≤ new.read_faults
  pub writes : min (old.write_faults + replies_of is_write_fault history) (2 ^ 64 - 1) ≤ new.write_faults

abbrev pub is_sync : Call → Bool
is_sync Sync = true
is_sync _ = false

abbrev pub is_done : Reply → Bool
is_done Done = true
is_done _ = false

-- a sync was done
abbrev pub acknowledges : Call → Reply → Bool
acknowledges call reply = is_sync call && is_done reply
