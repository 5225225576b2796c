-- What the bytes of a script stand for: its calls and turns, or the number of the first line that is refused.
use Rattle.std.specs.Prelude.{ℕ, ◌+◌, ◌||◌, Bool, false, List, [], ◌∷◌, ◌++◌, length, Option, Some, None, Result, Ok, Err, count_by, nat_eq, nat_lt, take, if◌then◌else◌, slice_index}
use Rattle.std.specs.Option.{option_map_or, option_and_then}
use Rattle.std.specs.Str.Lines.{lines}
use Rattle.ck_model.specs.declared.call.Call.{Call}
use Rattle.ck_model.specs.Limits.{script_limit}
use Rattle.ck_text.specs.Words.{words_of}
use Rattle.ck_script.specs.declared.form.Form.{Form}
use Rattle.ck_script.specs.declared.form.Form.TheVariants.{Called, Turned}
use Rattle.ck_script.specs.declared.line.Line.{Line}
use Rattle.ck_script.specs.Grammar.{form_of}
use Rattle.ck_script.specs.Built.{is_built}
use Rattle.ck_script.specs.Limits.{are_within_limits}
use Rattle.ck_script.specs.Numbered.{numbers_in}

-- what is read of a script: the lines of its calls, and its turns
pub record Parsed : Type 0 where
  pub calls : List Line
  pub turns : List ℕ

abbrev pub nothing_read : Parsed
nothing_read = record { calls = []; turns = [] }

-- a line without words, or whose first byte is `#`
abbrev pub is_skipped : List ℕ → Bool
is_skipped line = nat_eq (length (words_of line)) 0 || nat_eq (slice_index line 0) 35

-- what words stand for, where it is built
abbrev pub built_form : List (List ℕ) → Option Form
built_form words = option_and_then (λ form. if is_built form then Some form else None) (form_of words)

-- and what a line stands for
abbrev pub form_in : List ℕ → Option Form
form_in line = built_form (words_of line)

-- a call gets the next number of its actor
abbrev pub line_of : List Line → ℕ → ℕ → Call → Line
line_of lines number actor call = record { actor = actor; seq = length (numbers_in lines actor) + 1; line = number; call = call }

-- the calls with one more, unless with it a limit is passed
abbrev pub with_call : Parsed → Line → Option Parsed
with_call read line =
    if are_within_limits (read.calls ++ line ∷ []) then Some (record { calls = read.calls ++ line ∷ []; turns = read.turns }) else None

-- with the line of this number; turns follow those of the lines before
abbrev pub with_form : ℕ → Parsed → Form → Option Parsed
with_form number read (Called actor call) = with_call read (line_of read.calls number actor call)
with_form number read (Turned turns) = Some (record { calls = read.calls; turns = read.turns ++ turns })

abbrev pub with_line : ℕ → Parsed → List ℕ → Option Parsed
with_line number read line = if is_skipped line then Some read else option_and_then (with_form number read) (form_in line)

-- the number of the line that has the byte behind the limit, if there is one
abbrev pub long_line : List ℕ → Option ℕ
long_line bytes = if nat_lt script_limit (length bytes) then Some (count_by (λ byte. nat_eq byte 10) (take script_limit bytes) + 1) else None

-- these lines behind the ones before them; the line with the number `long` is too long
abbrev pub read_lines : Option ℕ → ℕ → Parsed → List (List ℕ) → Result Parsed ℕ
read_lines long number read [] = option_map_or (λ line. Err line) long (Ok read)
read_lines long number read (line ∷ lines) =
    if option_map_or (nat_eq number) long false then Err number
    else option_map_or (λ more. read_lines long (number + 1) more lines) (with_line number read line) (Err number)

-- the calls and turns of a script, or the number of the first line that is refused
abbrev pub read_script : List ℕ → Result Parsed ℕ
read_script bytes = read_lines (long_line bytes) 1 nothing_read (lines (take script_limit bytes))
