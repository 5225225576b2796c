-- What the top call promises.
use Rattle.std.specs.Prelude.{◌≡◌, ◌≢◌, ◌++◌, ℕ, ⊤, Bool, true, false, List, [], ◌∷◌, Option, Some, None, Result, Ok, Err, IsTrue, codes, nat_eq, if◌then◌else◌}
use Rattle.std.specs.Cmp.Lexicographic.{pointwise}
use Rattle.ck_io.specs.Bytes.{GainsPrefix}
use Rattle.ck_io.specs.Faults.{Rose}
use Rattle.ck_io.specs.Sink.{SinkMeaning}
use Rattle.ck_io.specs.Source.{SourceMeaning}
use Rattle.ck_report.specs.declared.status.Status.{Status}
use Rattle.ck_report.specs.declared.status.Status.TheVariants.{Done, Refused, Usage, BadScript, NotOpened, DeviceFault, SourceFault, SinkFault, NoMemory}
use Rattle.ck_report.specs.Status.{status_line}
use Rattle.ck_image.specs.declared.refusal.Refusal.{Refusal}
use Rattle.ck_image.specs.declared.refusal.Refusal.TheVariants as refusal
use Rattle.ck_image.specs.declared.command.Command.{Command}
use Rattle.ck_image.specs.declared.command.Command.TheVariants.{Verify, Apply, Merge}
use Rattle.ck_image.specs.Texts.{refusal_words, printed}

-- ---- words

abbrev pub command_word : List ℕ → Option Command
command_word word =
    if pointwise nat_eq word (codes "verify") then Some Verify
    else if pointwise nat_eq word (codes "apply") then Some Apply
    else if pointwise nat_eq word (codes "merge") then Some Merge
    else None

-- the one word of a command
abbrev pub command_of : List (List ℕ) → Option Command
command_of [] = None
command_of (word ∷ []) = command_word word
command_of (word ∷ other ∷ words) = None

abbrev pub is_usage : Status → Bool
is_usage Done = false
is_usage (Refused words) = false
is_usage Usage = true
is_usage (BadScript line) = false
is_usage (NotOpened words) = false
is_usage DeviceFault = false
is_usage SourceFault = false
is_usage SinkFault = false
is_usage NoMemory = false

-- ---- what is printed

-- where the sink tells what it holds, it gained this text
abbrev pub Gains : SinkMeaning → SinkMeaning → List ℕ → Type 0
Gains old new text = IsTrue old.tells → new.holds ≡ old.holds ++ text

-- the same of the front of the text
abbrev pub GainsFront : SinkMeaning → SinkMeaning → List ℕ → Type 0
GainsFront old new text = IsTrue old.tells → GainsPrefix old.holds new.holds text

abbrev pub GainsNothing : SinkMeaning → SinkMeaning → Type 0
GainsNothing old new = IsTrue old.tells → new.holds ≡ old.holds

-- P of the text that the command makes of its input. A source that doesn't tell what it had left may have had any input.
pub record Prints (command : Command) (source : SourceMeaning) (P : List ℕ → Type 0) : Type 0 where
  pub text : List ℕ
  pub made : IsTrue source.tells → printed command source.left ≡ Ok text
  pub is_printed : P text

-- the command refuses its input, in these words
pub record Refuses (command : Command) (source : SourceMeaning) (words : List ℕ) : Type 0 where
  pub why : Refusal
  pub refused : IsTrue source.tells → printed command source.left ≡ Err why
  pub words_are : refusal_words why ≡ words

-- how a command ends: why, and what is printed then
abbrev pub Ends : Command → SourceMeaning → SourceMeaning → SinkMeaning → SinkMeaning → Status → Type 0
Ends command source left old new Done = Prints command source (Gains old new)
Ends command source left old new (Refused words) = Refuses command source words × GainsNothing old new
Ends command source left old new Usage = ⊥
Ends command source left old new (BadScript line) = ⊥
Ends command source left old new (NotOpened words) = ⊥
Ends command source left old new DeviceFault = ⊥
Ends command source left old new SourceFault = Rose source.faults left.faults × GainsNothing old new
Ends command source left old new SinkFault = Rose old.faults new.faults × Prints command source (GainsFront old new)
Ends command source left old new NoMemory = GainsNothing old new

-- the words of the refusal, unless memory ran out
abbrev pub IsRefused : Refusal → Status → Type 0
IsRefused why Done = ⊥
IsRefused why (Refused words) = (refusal_words why ≡ words) × (why ≢ refusal.NoMemory)
IsRefused why Usage = ⊥
IsRefused why (BadScript line) = ⊥
IsRefused why (NotOpened words) = ⊥
IsRefused why DeviceFault = ⊥
IsRefused why SourceFault = ⊥
IsRefused why SinkFault = ⊥
IsRefused why NoMemory = ⊤

-- why reading the input ends with a status
abbrev pub IsReadFault : Command → SourceMeaning → SourceMeaning → Status → Type 0
IsReadFault command old new Done = ⊥
IsReadFault command old new (Refused words) = Refuses command old words
IsReadFault command old new Usage = ⊥
IsReadFault command old new (BadScript line) = ⊥
IsReadFault command old new (NotOpened words) = ⊥
IsReadFault command old new DeviceFault = ⊥
IsReadFault command old new SourceFault = Rose old.faults new.faults
IsReadFault command old new SinkFault = ⊥
IsReadFault command old new NoMemory = ⊤

-- how printing what is to be printed ends
abbrev pub IsPrinted : Result (List ℕ) Refusal → SinkMeaning → SinkMeaning → Status → Type 0
IsPrinted made old new Done = (text : List ℕ) × (made ≡ Ok text) × Gains old new text
IsPrinted made old new (Refused words) = (why : Refusal) × (made ≡ Err why) × (refusal_words why ≡ words) × GainsNothing old new
IsPrinted made old new Usage = ⊥
IsPrinted made old new (BadScript line) = ⊥
IsPrinted made old new (NotOpened words) = ⊥
IsPrinted made old new DeviceFault = ⊥
IsPrinted made old new SourceFault = ⊥
IsPrinted made old new SinkFault = (text : List ℕ) × (made ≡ Ok text) × Rose old.faults new.faults × GainsFront old new text
IsPrinted made old new NoMemory = GainsNothing old new

-- nothing is read and nothing printed
pub record IsUntouched (before after : SourceMeaning) (old new : SinkMeaning) : Type 0 where
  pub source : after ≡ before
  pub sink : new ≡ old

-- as the words' command ends; words of no command are refused before anything is read
abbrev pub EndsAs : Option Command → SourceMeaning → SourceMeaning → SinkMeaning → SinkMeaning → Status → Type 0
EndsAs None source left old new status = (status ≡ Usage) × IsUntouched source left old new
EndsAs (Some command) source left old new status = Ends command source left old new status

-- ---- the line on standard error

abbrev pub line_of : Status → List ℕ
line_of status = if is_usage status then codes "usage: ckptimage COMMAND\n" else status_line status
