-- Plays of scripts on a volume over a device.
use Rattle.std.specs.Prelude.{◌≡◌, ◌≤◌, Bool, List, None, IsTrue}
use Rattle.std.specs.List.{AllByRecursion, list_any}
use Rattle.ck_disk.specs.Disk.{Meaning}
use Rattle.ck_io.specs.Clock.{ClockMeaning}
use Rattle.ck_model.specs.declared.entry.Entry.{Entry}
use Rattle.ck_model.specs.Streams.{Texts}
use Rattle.ck_model.specs.World.{World}
use Rattle.ck_model.specs.History.{IsLegal, IsOfScript, call_at, is_write_fault}
use Rattle.ck_script.specs.declared.script.Script.{Script}
use Rattle.ck_script.specs.Numbered.{calls_in}
use Rattle.ck_script.specs.Parsed.{Parsed}
use Rattle.ck_volume.specs.Causes.{HasCauses}
use Rattle.ck_actor.specs.Turns.{Follows}
pub use Rattle.ck_volume.specs.Kept.{broken_by, BreaksFrom}

-- an entry is WriteFault
abbrev pub lost_a_write : List Entry → Bool
lost_a_write history = list_any (λ entry. is_write_fault entry.reply) history

-- its calls and its turns
abbrev pub parsed : Script → Parsed
parsed script = record { calls = script.calls; turns = script.turns }

-- The history has each actor's calls, each once and in their order. Where the device tells what it holds, it is legal
-- from the opening world w and follows the script's turns, whatever the texts of streams are. Its moments are the clock's.
-- Faults have their causes.
pub record IsPlay (script : Parsed) (clock : ClockMeaning) (w : World) (old new : Meaning) (history : List Entry) : Type 0 where
  pub legal : IsTrue old.tells → (texts : Texts) → IsLegal texts (call_at (calls_in script.calls)) w history
  pub of_script : IsOfScript (calls_in script.calls) history
  pub follows : IsTrue old.tells → (texts : Texts) → Follows texts script w history
  pub moments : IsTrue clock.tells → AllByRecursion (λ entry. entry.at ≡ clock.moment) history
  pub causes : HasCauses old new history
  pub breaks : BreaksFrom 0 None history

-- what every call on a device keeps, one after the other
pub record IsLater (old new : Meaning) : Type 0 where
  pub size : new.size ≡ old.size
  pub tells : new.tells ≡ old.tells
  pub reads : old.read_faults ≤ new.read_faults
  pub writes : old.write_faults ≤ new.write_faults
