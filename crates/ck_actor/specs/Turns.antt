-- Which histories follow the turns of a script.
use Rattle.std.specs.Prelude.{◌≡◌, ℕ, ◌+◌, Bool, true, List, [], ◌∷◌, ◌++◌, map as list_map, filter, nat_eq, nat_lt, if◌then◌else◌}
use Rattle.std.specs.Option.{option_map_or}
use Rattle.ck_laws.specs.Laws.{frozen}
use Rattle.ck_model.specs.declared.call.Call.{Call}
use Rattle.ck_model.specs.declared.call.Call.TheVariants.{Nodata}
use Rattle.ck_model.specs.declared.entry.Entry.{Entry}
use Rattle.ck_model.specs.History.{begun, call_at}
use Rattle.ck_model.specs.Streams.{Texts}
use Rattle.ck_model.specs.World.{World}
use Rattle.ck_script.specs.declared.line.Line.{Line}
use Rattle.ck_script.specs.declared.script.Script.{Script}
use Rattle.ck_script.specs.Numbered.{calls_in}
use Rattle.ck_script.specs.Parsed.{Parsed}
use Rattle.ck_actor.specs.Counts.{TurnCounts, TakeTurns}

-- where an actor stands: so many of its calls are through, and the next one has had so many turns
pub record Standing : Type 0 where
  pub through : ℕ
  pub had : ℕ

abbrev pub at_first : ℕ → Standing
at_first actor = record { through = 0; had = 0 }

-- its call has had one turn more
abbrev pub going_on : Standing → Standing
going_on standing = record { through = standing.through; had = standing.had + 1 }

-- its call is through
abbrev pub gone_on : Standing → Standing
gone_on standing = record { through = standing.through + 1; had = 0 }

-- behind one turn more of a call that takes so many
abbrev pub turned : ℕ → Standing → Standing
turned count standing = if nat_lt (standing.had + 1) count then going_on standing else gone_on standing

abbrev pub with_turn : ℕ → ℕ → (ℕ → Standing) → ℕ → Standing
with_turn actor count at other = if nat_eq other actor then turned count (at other) else at other

-- A call that takes so many turns is answered at the last one, but `nodata -s` at the first.
abbrev pub answering_turn : Call → ℕ → ℕ
answering_turn (Nodata name true) count = 1
answering_turn call count = count

-- the call has no entry yet
abbrev pub is_left : TurnCounts → (ℕ → Standing) → Line → Bool
is_left counts at line =
    let standing = at line.actor in
    if nat_eq line.seq (standing.through + 1)
    then nat_lt standing.had (answering_turn line.call (counts line.actor line.seq))
    else nat_lt standing.through line.seq

-- The calls, each by its actor and number, in the order in which they are answered. A turn works on the first call of its actor that
-- isn't through; the background's, and one of an actor whose calls are all through, answers none. Behind the last turn come the
-- calls that are left, in the order of their lines.
abbrev pub answered_by : List Line → TurnCounts → (ℕ → Standing) → List ℕ → List (ℕ × ℕ)
answered_by lines counts at [] = list_map (λ line. (line.actor, line.seq)) (filter (is_left counts at) lines)
answered_by lines counts at (actor ∷ turns) =
    let standing = at actor in
    let seq = standing.through + 1 in
    let count = counts actor seq in
    option_map_or
    (λ call.
    (if nat_eq (standing.had + 1) (answering_turn call count) then (actor, seq) ∷ [] else [])
    ++ answered_by lines counts (with_turn actor count at) turns)
    (call_at (calls_in lines) actor seq)
    (answered_by lines counts at turns)

-- its calls and its turns
abbrev pub parsed : Script → Parsed
parsed script = record { calls = script.calls; turns = script.turns }

-- each call takes as many turns as it may, and the turns of the script, so taken, answer the calls in the history's order
pub record Follows (texts : Texts) (script : Parsed) (w : World) (history : List Entry) : Type 0 where
  pub counts : TurnCounts
  pub taken : let calls = call_at (calls_in script.calls) in TakeTurns texts calls (frozen texts calls w history) counts (begun w) history
  pub order : list_map (λ entry. (entry.actor, entry.seq)) history ≡ answered_by script.calls counts at_first script.turns
