-- The list of checkpoints, as the command prints it.
use Rattle.std.specs.Prelude.{◌≡◌, ℕ, pos, ◌*ℤ◌, List, [], ◌∷◌, ◌++◌, MatchBool, nat_le, codes}
use Rattle.std.specs.Fmt.{decimal}
use Rattle.jiff_core.specs.declared.civil.datetime.DateTime.{DateTime}
use Rattle.jiff_core.specs.DateTime.{civil_nanos}
use Rattle.jiff.specs.Words.{iso_datetime_text}
use Rattle.ck_model.specs.declared.checkpoint.CkptLine.{CkptLine}
use Rattle.ck_report.specs.Words.{spaced, state_word, keep_word}

-- moments up to this one are shown as dates
abbrev pub last_date : ℕ
last_date = 253000000000

-- what a clock in UTC shows so many seconds after 1970-01-01T00:00:00Z
pub record IsShown (moment : ℕ) (text : List ℕ) : Type 0 where
  pub shown : DateTime
  pub moment_is : civil_nanos shown ≡ pos moment *ℤ pos 1000000000
  pub text_is : text ≡ iso_datetime_text shown ++ codes "Z"

-- the date and time of a moment in UTC, or its number behind `@` where that is too great
abbrev pub IsDate : ℕ → List ℕ → Type 0
IsDate moment text = MatchBool (nat_le moment last_date) (IsShown moment text) (text ≡ codes "@" ++ decimal moment)

-- a checkpoint's line, with this date
abbrev pub listing_line : CkptLine → List ℕ → List ℕ
listing_line line date =
    decimal line.id ++ spaced (state_word line.state) ++ spaced (keep_word line.removable) ++ spaced date ++ spaced line.name ++ codes "\n"

-- one line for each checkpoint, in order, with the date of its creation
abbrev pub IsListing : List CkptLine → List ℕ → Type 0
IsListing [] text = text ≡ []
IsListing (line ∷ lines) text =
    (date : List ℕ) × (rest : List ℕ) × IsDate line.ctime date × IsListing lines rest × (text ≡ listing_line line date ++ rest)
