-- How a script is read line by line.
use Rattle.std.specs.Prelude.{◌≡◌, ◌<◌, ◌≤◌, ℕ, List, Option, None, Result, Err, IsTrue, length, nat_lt, if◌then◌else◌, slice_index, slice_range, drop}
use Rattle.std.specs.List.{sum_by}
use Rattle.std.specs.Str.Lines.{strip_carriage_return}
use Rattle.ck_script.specs.declared.fault.ParseFault.{ParseFault}
use Rattle.ck_script.specs.declared.fault.ParseFault.TheVariants.{BadLine, NoMemory}
use Rattle.ck_script.specs.declared.form.Form.{Form}
use Rattle.ck_script.specs.declared.form.Form.TheVariants.{Called, Turned}
use Rattle.ck_script.specs.declared.line.Line.{Line}
use Rattle.ck_script.specs.Limits.{are_within_limits, asked_by, streams_by}
use Rattle.ck_script.specs.Numbered.{numbers_in}
use Rattle.ck_script.specs.Parsed.{Parsed}

-- the outcome refuses just the line that the fault names; memory may always be refused
abbrev pub IsFaultOf : Result Parsed ℕ → ParseFault → Type 0
IsFaultOf outcome (BadLine number) = outcome ≡ Err number
IsFaultOf outcome NoMemory = Unit {0}

-- the line with this number is refused, since nothing comes after it
abbrev pub IsRefusal : ℕ → Option Parsed → ParseFault → Type 0
IsRefusal number after (BadLine line) = (line ≡ number) × (after ≡ None)
IsRefusal number after NoMemory = Unit {0}

-- the line of a text that begins and ends here; the end is that of the text or a line feed
abbrev pub line_at : List ℕ → ℕ → ℕ → List ℕ
line_at text start end = if nat_lt end (length text) then strip_carriage_return (slice_range text start end) else drop start text

-- these are the sums over the lines: the bytes that they ask for, their streams, and how many calls each actor has
pub record IsTally (lines : List Line) (asked streams : ℕ) (counts : List ℕ) : Type 0 where
  pub asked_is : asked ≡ sum_by (λ line. asked_by line.call) lines
  pub streams_is : streams ≡ sum_by (λ line. streams_by line.call) lines
  pub whole : length counts ≡ 65
  pub counts_is : (actor : ℕ) → actor < 65 → slice_index counts actor ≡ length (numbers_in lines actor)
  pub within : IsTrue (are_within_limits lines)

-- a call's actor has a number from 1 to 64
abbrev pub HasActor : Form → Type 0
HasActor (Called actor call) = (1 ≤ actor) × (actor ≤ 64)
HasActor (Turned turns) = Unit {0}
