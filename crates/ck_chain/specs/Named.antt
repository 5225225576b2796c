-- Which data blocks a table names.
use Rattle.std.specs.Prelude.{◌≡◌, ℕ, Option, Some, option_and_then, cond, is_some}
use Rattle.ck_model.specs.declared.key.Key.{Key}
use Rattle.ck_model.specs.declared.held.Held.{Held}
use Rattle.ck_model.specs.Table.{Table, column}
use Rattle.ck_model.specs.Rules.{block_in}

-- the data block that this names, if it is an entry that names one
abbrev pub block_of : Option Held → Option ℕ
block_of held = option_and_then block_in held

-- some entry names the data block
abbrev pub IsNamed : Table → ℕ → Type 0
IsNamed t block = (fs : ℕ) × ((key : Key) × (block_of (column t key fs) ≡ Some block))

-- 1 where there is an entry, and else 0
abbrev pub one_of : Option Held → ℕ
one_of held = cond (is_some held) 1 0

-- an entry that names a block
pub record Naming (o : Option Held) (block : ℕ) : Type 0 where
  pub held : Held
  pub stands : o ≡ Some held
  pub names : block_in held ≡ Some block
