-- The lines of a script: whose calls they are, and how these are numbered.
use Rattle.std.specs.Prelude.{◌≡◌, ℕ, List, length, Some, None, if◌then◌else◌, nat_eq, map as list_map}
use Rattle.std.specs.List.{filter_map, range_with_len}
use Rattle.ck_model.specs.declared.call.Call.{Call}
use Rattle.ck_script.specs.declared.line.Line.{Line}

-- the actor and the call of each line
abbrev pub calls_in : List Line → List (ℕ × Call)
calls_in lines = list_map (λ line. (line.actor, line.call)) lines

-- the numbers of an actor's calls, in the order of their lines
abbrev pub numbers_in : List Line → ℕ → List ℕ
numbers_in lines actor = filter_map (λ line. if nat_eq line.actor actor then Some line.seq else None) lines

-- each actor's calls are numbered from 1
abbrev pub IsNumbered : List Line → Type 0
IsNumbered lines = (actor : ℕ) → numbers_in lines actor ≡ range_with_len 1 (length (numbers_in lines actor))
