-- How a play on an opened volume ends.
use Rattle.std.specs.Prelude.{◌≡◌, ◌⊎◌, List, Result, OnOk, IfErr}
use Rattle.ck_disk.specs.Disk.{Meaning, LeavesOnly}
use Rattle.ck_io.specs.Clock.{ClockMeaning}
use Rattle.ck_io.specs.Sink.{SinkMeaning}
use Rattle.ck_model.specs.declared.entry.Entry.{Entry}
use Rattle.ck_model.specs.History.{call_at}
use Rattle.ck_model.specs.World.{World}
use Rattle.ck_report.specs.declared.status.Status.{Status}
use Rattle.ck_report.specs.declared.status.Status.TheVariants.{NoMemory}
use Rattle.ck_script.specs.Numbered.{calls_in}
use Rattle.ck_script.specs.Parsed.{Parsed}
use Rattle.ck_volume.specs.declared.commit.CommitAnswer.{CommitAnswer}
use Rattle.ck_admin.specs.Crash.{IsPlayed}
use Rattle.ck_admin.specs.Statuses.{IsPrintFault, play_status}
use Rattle.ck_admin.specs.Top.{Gains, GainsNothing}

-- it was played to the end of its commit, and its transcript printed, or not
pub record IsPrinted (script : Parsed) (clock : ClockMeaning) (w : World) (mid after : Meaning) (old new : SinkMeaning) (status : Status) : Type 0 where
  pub history : List Entry
  pub committed : CommitAnswer
  pub printed : Result (Unit {0}) Status
  pub played : IsPlayed script clock w mid after history committed
  pub whole : OnOk printed (Gains old new (call_at (calls_in script.calls)) history)
  pub fault : IfErr printed (λ status. IsPrintFault old new (call_at (calls_in script.calls)) history status)
  pub status_is : status ≡ play_status committed printed

-- memory was refused before the first event
pub record IsUnplayed (mid after : Meaning) (old new : SinkMeaning) (status : Status) : Type 0 where
  pub status_is : status ≡ NoMemory
  pub nothing : GainsNothing old new
  pub left : LeavesOnly mid after mid.may_leave

abbrev pub EndsOn : Parsed → ClockMeaning → World → Meaning → Meaning → SinkMeaning → SinkMeaning → Status → Type 0
EndsOn script clock w mid after old new status = IsUnplayed mid after old new status ⊎ IsPrinted script clock w mid after old new status
