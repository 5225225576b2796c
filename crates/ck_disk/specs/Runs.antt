-- What calls on a device keep, one after the other, and what reads alone do.
use Rattle.std.specs.Prelude.{◌≡◌, ◌≤◌}
use Rattle.ck_disk.specs.Disk.{Meaning, Step, Within, KeepsClean}

-- what every call on a device keeps, one after the other
pub record Runs (old new : Meaning) : Type 0 where
  pub size : new.size ≡ old.size
  pub tells : new.tells ≡ old.tells
  pub reads : old.read_faults ≤ new.read_faults
  pub writes : old.write_faults ≤ new.write_faults
  pub later : old.moment ≤ new.moment

-- nothing is written
pub record OnlyReads (old new : Meaning) : Type 0 where
  pub shows : new.shows ≡ old.shows
  pub crash : Within new.may_leave old.may_leave
  pub marks : KeepsClean old.written new.written
  pub step : Step old new
