-- How many data blocks an entry names.
use Rattle.std.specs.Prelude.{ℕ, Option, Some, None, length}
use Rattle.ck_model.specs.declared.held.Held.{Held}
use Rattle.ck_model.specs.TableWorld.{blocks_in}

-- of an entry, if there is one
abbrev pub named_in : Option Held → ℕ
named_in None = 0
named_in (Some held) = length (blocks_in held)
