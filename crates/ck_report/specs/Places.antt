-- Calls of a script, and where they stand.
use Rattle.std.specs.Prelude.{ℕ, ◌&&◌, Bool, List, Option, nat_eq, slice_get, option_and_then}
use Rattle.std.specs.Option.{option_map}
use Rattle.ck_model.specs.declared.call.Call.{Call}
use Rattle.ck_script.specs.declared.line.Line.{Line}

-- the line has the call of this actor with this number
abbrev pub is_call_of : ℕ → ℕ → Line → Bool
is_call_of actor seq line = nat_eq line.actor actor && nat_eq line.seq seq

-- the line at a place
abbrev pub line_there : List Line → Option ℕ → Option Line
line_there lines place = option_and_then (slice_get lines) place

-- its call
abbrev pub call_there : List Line → Option ℕ → Option Call
call_there lines place = option_map (λ line. line.call) (line_there lines place)
