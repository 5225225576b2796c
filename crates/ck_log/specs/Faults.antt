-- Why a region wasn't formatted or opened.
use Rattle.std.specs.Prelude.{◌≡◌, ◌<◌, ℕ, IsTrue}
use Rattle.ck_disk.specs.Disk.{Meaning, Rose}
use Rattle.ck_log.specs.Header.{Recovered, NotVolume, BadFormat}
use Rattle.ck_log.specs.Images.{recovered_region}
use Rattle.ck_log.specs.declared.faults.FormatLog.{FormatLog}
use Rattle.ck_log.specs.declared.faults.FormatLog.TheVariants as format_log
use Rattle.ck_log.specs.declared.faults.OpenLog.{OpenLog}
use Rattle.ck_log.specs.declared.faults.OpenLog.TheVariants as open_log

-- the device is too short for so many blocks, or a write or sync of it failed
abbrev pub IsFormatFault : ℕ → Meaning → Meaning → FormatLog → Type 0
IsFormatFault size old new (format_log.BadSize needs has) = (needs ≡ size) × (has ≡ old.size) × (old.size < size)
IsFormatFault size old new format_log.WriteFault = Rose old.write_faults new.write_faults

-- a header that says this gets that answer
abbrev pub IsRefusal : Recovered → OpenLog → Type 0
IsRefusal found open_log.NotVolume = found ≡ NotVolume
IsRefusal found (open_log.BadFormat version) = found ≡ BadFormat version
IsRefusal found (open_log.Damaged block slot) = ⊥
IsRefusal found open_log.ReadFault = ⊥
IsRefusal found open_log.WriteFault = ⊥
IsRefusal found open_log.NoMemory = ⊥

-- what reads give is no volume of this layout, or a read, or the first sync, failed
abbrev pub IsOpenFault : Meaning → Meaning → OpenLog → Type 0
IsOpenFault old new open_log.NotVolume = IsTrue old.tells → recovered_region old.shows ≡ NotVolume
IsOpenFault old new (open_log.BadFormat version) = IsTrue old.tells → recovered_region old.shows ≡ BadFormat version
IsOpenFault old new (open_log.Damaged block slot) = ⊥
IsOpenFault old new open_log.ReadFault = Rose old.read_faults new.read_faults
IsOpenFault old new open_log.WriteFault = Rose old.write_faults new.write_faults
IsOpenFault old new open_log.NoMemory = ⊥
