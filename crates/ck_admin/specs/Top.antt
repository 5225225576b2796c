-- What the top call promises.
use Rattle.std.specs.Prelude.{◌≡◌, ◌<◌, ◌++◌, ◌⊎◌, ⊤, ℕ, Bool, true, false, List, Option, Some, None, IsTrue, Ok, Err}
use Rattle.ck_disk.specs.Disk.{Image, Meaning, LeavesOnly, Rose}
use Rattle.ck_log.specs.Layout.{size_of}
use Rattle.ck_model.specs.declared.entry.Entry.{Entry}
use Rattle.ck_model.specs.History.{CallsBy, call_at, state}
use Rattle.ck_model.specs.Streams.{Texts}
use Rattle.ck_model.specs.World.{World, unmounted}
use Rattle.ck_report.specs.declared.status.Status.{Status}
use Rattle.ck_report.specs.declared.status.Status.TheVariants.{Done, Refused, Usage, BadScript, NotOpened, DeviceFault, SourceFault, SinkFault, NoMemory}
use Rattle.ck_report.specs.Printed.{AreProper}
use Rattle.ck_report.specs.Transcript.{transcript_text}
use Rattle.ck_io.specs.Bytes.{GainsPrefix}
use Rattle.ck_io.specs.Clock.{ClockMeaning}
use Rattle.ck_io.specs.Faults as io
use Rattle.ck_io.specs.Sink.{SinkMeaning}
use Rattle.ck_io.specs.Source.{SourceMeaning}
use Rattle.ck_script.specs.Numbered.{calls_in}
use Rattle.ck_script.specs.Parsed.{Parsed, read_script}
use Rattle.ck_engine.specs.Exact.{IsExact}
use Rattle.ck_engine.specs.Formatted.{new_world}
use Rattle.ck_engine.specs.Recovery.{Recovers}
use Rattle.ck_words.specs.declared.command.Command.{Command}
use Rattle.ck_words.specs.declared.command.Command.TheVariants.{Play, Mkfs}
use Rattle.ck_admin.specs.Crash.{LeavesCuts}
use Rattle.ck_admin.specs.Play.{IsPlay, lost_a_write}
use Rattle.ck_admin.specs.Refusals.{bad_size_words}
use Rattle.ck_admin.specs.Statuses.{IsRefused, DeviceRose}

-- What the source had left is a script, the device recovers to a world, and this is a play of the script from it. P says
-- what was printed of its history, and E holds of its calls, its world and its history. A source that doesn't tell what it had left may
-- have had any script.
pub record PrintsPlay (source : SourceMeaning) (clock : ClockMeaning) (before after : Meaning) (E : CallsBy → World → List Entry → Type 0) (P : CallsBy → List Entry → Type 0) : Type 0 where
  pub read : Parsed
  pub world : World
  pub history : List Entry
  pub script : IsTrue source.tells → read_script source.left ≡ Ok read
  pub recovers : IsTrue before.tells → Recovers before.shows world
  pub play : IsPlay read clock world before after history
  pub leaves : ∥ LeavesCuts (call_at (calls_in read.calls)) world before after history ∥₁
  pub ends : E (call_at (calls_in read.calls)) world history
  pub printed : P (call_at (calls_in read.calls)) history

-- no write was lost, and each image has the world after the whole history, without its mounts and with nothing beside it
pub record EndsWhole (after : Meaning) (calls : CallsBy) (world : World) (history : List Entry) : Type 0 where
  pub no_fault : lost_a_write history ≡ false
  pub exact : IsTrue after.tells → (texts : Texts) (image : Image) → after.may_leave image → IsExact (unmounted (state texts calls world history)) image

abbrev pub EndsAnyhow : CallsBy → World → List Entry → Type 0
EndsAnyhow calls world history = ⊤

abbrev pub LostNothing : CallsBy → World → List Entry → Type 0
LostNothing calls world history = lost_a_write history ≡ false

-- Where the sink tells what it holds, it gained the history's text. The entries' numbers, bytes and names are such that
-- the text tells them.
pub record Gains (old new : SinkMeaning) (calls : CallsBy) (history : List Entry) : Type 0 where
  pub text : IsTrue old.tells → new.holds ≡ old.holds ++ transcript_text calls history
  pub proper : AreProper calls history

-- the same of the front of the text
pub record GainsFront (old new : SinkMeaning) (calls : CallsBy) (history : List Entry) : Type 0 where
  pub front : IsTrue old.tells → GainsPrefix old.holds new.holds (transcript_text calls history)
  pub proper : AreProper calls history

abbrev pub GainsNothing : SinkMeaning → SinkMeaning → Type 0
GainsNothing old new = IsTrue old.tells → new.holds ≡ old.holds

-- the whole text, or nothing, or, where the sink failed, the front of it
abbrev pub GainsAllOrNothing : SinkMeaning → SinkMeaning → CallsBy → List Entry → Type 0
GainsAllOrNothing old new calls history = Gains old new calls history ⊎ (GainsNothing old new ⊎ (io.Rose old.faults new.faults × GainsFront old new calls history))

abbrev pub GainsNone : SinkMeaning → SinkMeaning → CallsBy → List Entry → Type 0
GainsNone old new calls history = GainsNothing old new

-- nothing was printed, and a crash leaves what it could leave before
abbrev pub PlaysNothing : SinkMeaning → SinkMeaning → Meaning → Meaning → Type 0
PlaysNothing old new before after = GainsNothing old new × LeavesOnly before after before.may_leave

-- How a play ends: why, what is printed then, and what a crash leaves. Memory is refused before the first call, or for the
-- commit behind the last one, or for the text behind a commit that was done.
abbrev pub EndsPlay : SourceMeaning → SourceMeaning → ClockMeaning → SinkMeaning → SinkMeaning → Meaning → Meaning → Status → Type 0
EndsPlay source left clock old new before after Done = PrintsPlay source clock before after (EndsWhole after) (Gains old new)
EndsPlay source left clock old new before after (Refused words) = ⊥
EndsPlay source left clock old new before after Usage = ⊥
EndsPlay source left clock old new before after (BadScript line) = (IsTrue source.tells → read_script source.left ≡ Err line) × GainsNothing old new
EndsPlay source left clock old new before after (NotOpened words) = IsRefused before after words × GainsNothing old new
EndsPlay source left clock old new before after DeviceFault =
    (DeviceRose before after × PlaysNothing old new before after)
    ⊎ (Rose before.write_faults after.write_faults × PrintsPlay source clock before after EndsAnyhow (GainsAllOrNothing old new))
EndsPlay source left clock old new before after SourceFault = io.Rose source.faults left.faults × GainsNothing old new
EndsPlay source left clock old new before after SinkFault = io.Rose old.faults new.faults × PrintsPlay source clock before after (EndsWhole after) (GainsFront old new)
EndsPlay source left clock old new before after NoMemory =
    PlaysNothing old new before after
    ⊎ (PrintsPlay source clock before after LostNothing (GainsAllOrNothing old new)
    ⊎ PrintsPlay source clock before after (EndsWhole after) (GainsNone old new))

-- How a device is made a volume: each image that a crash leaves has the empty world and nothing beside it, or it is too
-- short, or it failed.
abbrev pub EndsMkfs : ℕ → ℕ → Meaning → Meaning → Status → Type 0
EndsMkfs blocks records before after Done = IsTrue before.tells → (image : Image) → after.may_leave image → IsExact (new_world blocks records) image
EndsMkfs blocks records before after (Refused words) = ⊥
EndsMkfs blocks records before after Usage = ⊥
EndsMkfs blocks records before after (BadScript line) = ⊥
EndsMkfs blocks records before after (NotOpened words) = (words ≡ bad_size_words (size_of blocks records) before.size) × (before.size < size_of blocks records)
EndsMkfs blocks records before after DeviceFault = Rose before.write_faults after.write_faults
EndsMkfs blocks records before after SourceFault = ⊥
EndsMkfs blocks records before after SinkFault = ⊥
EndsMkfs blocks records before after NoMemory = ⊤

abbrev pub is_usage : Status → Bool
is_usage Done = false
is_usage (Refused words) = false
is_usage Usage = true
is_usage (BadScript line) = false
is_usage (NotOpened words) = false
is_usage DeviceFault = false
is_usage SourceFault = false
is_usage SinkFault = false
is_usage NoMemory = false

-- such an end of a play comes before any call of the device
abbrev pub leaves_device : Status → Bool
leaves_device Done = false
leaves_device (Refused words) = false
leaves_device Usage = true
leaves_device (BadScript line) = true
leaves_device (NotOpened words) = false
leaves_device DeviceFault = false
leaves_device SourceFault = true
leaves_device SinkFault = false
leaves_device NoMemory = false

abbrev pub is_play : Option Command → Bool
is_play None = false
is_play (Some Play) = true
is_play (Some (Mkfs blocks records)) = false

-- nothing is read and nothing printed
pub record IsUntouched (before after : SourceMeaning) (old new : SinkMeaning) : Type 0 where
  pub source : after ≡ before
  pub sink : new ≡ old
