-- Why reading a script, or printing a transcript, ends with a status.
use Rattle.std.specs.Prelude.{◌≡◌, ◌⊎◌, ℕ, List, Option, Some, None, IsTrue, Result, Ok, Err}
use Rattle.ck_disk.specs.Disk.{Meaning, LeavesOnly, Rose}
use Rattle.ck_model.specs.declared.entry.Entry.{Entry}
use Rattle.ck_model.specs.History.{CallsBy}
use Rattle.ck_report.specs.declared.status.Status.{Status}
use Rattle.ck_report.specs.declared.status.Status.TheVariants.{Done, Refused, Usage, BadScript, NotOpened, DeviceFault, SourceFault, SinkFault, NoMemory}
use Rattle.ck_report.specs.Printed.{AreProper}
use Rattle.ck_report.specs.Transcript.{transcript_text}
use Rattle.ck_io.specs.Bytes.{GainsPrefix}
use Rattle.ck_io.specs.Faults as io
use Rattle.ck_io.specs.Sink.{SinkMeaning}
use Rattle.ck_io.specs.Source.{SourceMeaning}
use Rattle.ck_script.specs.Parsed.{read_script}
use Rattle.ck_volume.specs.declared.commit.CommitAnswer.{CommitAnswer}
use Rattle.ck_volume.specs.declared.commit.CommitAnswer.TheVariants as answer
use Rattle.ck_engine.specs.Recovery.{Recovery, NotVolume, BadFormat, Damaged, Opens, Finds}
use Rattle.ck_admin.specs.Refusals.{not_volume_words, bad_format_words, damaged_words}

-- a line is the first that is refused, the source failed, or memory was refused
abbrev pub IsReadFault : SourceMeaning → SourceMeaning → Status → Type 0
IsReadFault old new Done = ⊥
IsReadFault old new (Refused words) = ⊥
IsReadFault old new Usage = ⊥
IsReadFault old new (BadScript line) = IsTrue old.tells → read_script old.left ≡ Err line
IsReadFault old new (NotOpened words) = ⊥
IsReadFault old new DeviceFault = ⊥
IsReadFault old new SourceFault = io.Rose old.faults new.faults
IsReadFault old new SinkFault = ⊥
IsReadFault old new NoMemory = Unit {0}

-- the source had left a script of which this line is the first that is refused
abbrev pub IsRefusedAt : SourceMeaning → ℕ → Type 0
IsRefusedAt source line = IsTrue source.tells × (read_script source.left ≡ Err line)

-- the sink failed and gained the front of a history's text, or memory was refused and it gained nothing
pub record GainsInPart (old new : SinkMeaning) (calls : CallsBy) (history : List Entry) : Type 0 where
  pub cause : io.Rose old.faults new.faults
  pub part : IsTrue old.tells → GainsPrefix old.holds new.holds (transcript_text calls history)
  pub proper : AreProper calls history

abbrev pub IsPrintFault : SinkMeaning → SinkMeaning → CallsBy → List Entry → Status → Type 0
IsPrintFault old new calls history Done = ⊥
IsPrintFault old new calls history (Refused words) = ⊥
IsPrintFault old new calls history Usage = ⊥
IsPrintFault old new calls history (BadScript line) = ⊥
IsPrintFault old new calls history (NotOpened words) = ⊥
IsPrintFault old new calls history DeviceFault = ⊥
IsPrintFault old new calls history SourceFault = ⊥
IsPrintFault old new calls history SinkFault = GainsInPart old new calls history
IsPrintFault old new calls history NoMemory = IsTrue old.tells → new.holds ≡ old.holds

-- ---- opening

-- what the line says of a device that isn't opened
abbrev pub refusal_words : Recovery → Option (List ℕ)
refusal_words NotVolume = Some not_volume_words
refusal_words (BadFormat version) = Some (bad_format_words version)
refusal_words (Damaged block slot) = Some (damaged_words block slot)
refusal_words (Opens world) = None

-- the device recovers to a refusal of these words
pub record IsRefused (before after : Meaning) (words : List ℕ) : Type 0 where
  pub found : Recovery
  pub finds : IsTrue before.tells → Finds before.shows found
  pub words_are : refusal_words found ≡ Some words
  pub left : LeavesOnly before after before.may_leave

-- the status that says so, unless memory was refused for the words
abbrev pub not_opened_status : {E : Type 0} → Result (List ℕ) E → Status
not_opened_status (Ok words) = NotOpened words
not_opened_status (Err none) = NoMemory

-- a read, a write or a sync of the device failed
abbrev pub DeviceRose : Meaning → Meaning → Type 0
DeviceRose before after = Rose before.read_faults after.read_faults ⊎ Rose before.write_faults after.write_faults

-- why a device isn't opened. A crash leaves what it could leave before
abbrev pub IsOpenStatus : Meaning → Meaning → Status → Type 0
IsOpenStatus before after Done = ⊥
IsOpenStatus before after (Refused words) = ⊥
IsOpenStatus before after Usage = ⊥
IsOpenStatus before after (BadScript line) = ⊥
IsOpenStatus before after (NotOpened words) = IsRefused before after words
IsOpenStatus before after DeviceFault = DeviceRose before after × LeavesOnly before after before.may_leave
IsOpenStatus before after SourceFault = ⊥
IsOpenStatus before after SinkFault = ⊥
IsOpenStatus before after NoMemory = LeavesOnly before after before.may_leave

-- ---- the end of a play

-- the status of a play: how the commit behind it ended comes before what printing said
abbrev pub play_status : CommitAnswer → Result (Unit {0}) Status → Status
play_status answer.Done (Ok done) = Done
play_status answer.Done (Err status) = status
play_status answer.WriteFault printed = DeviceFault
play_status (answer.Broken number) printed = DeviceFault
play_status answer.NoMemory printed = NoMemory
