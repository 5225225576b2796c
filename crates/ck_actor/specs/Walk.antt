-- Where all actors stand as a script's turns are taken one after another, and what these answer.
use Rattle.std.specs.Prelude.{◌≡◌, ◌≤◌, ◌<◌, ℕ, ◌+◌, Bool, Option, List, [], ◌∷◌, ◌++◌, filter, map as list_map, nat_eq, nat_lt, if◌then◌else◌}
use Rattle.std.specs.Option.{option_map_or}
use Rattle.ck_model.specs.declared.call.Call.{Call}
use Rattle.ck_model.specs.History.{call_at}
use Rattle.ck_script.specs.declared.line.Line.{Line}
use Rattle.ck_script.specs.Numbered.{calls_in}
use Rattle.ck_actor.specs.Counts.{TurnCounts}
use Rattle.ck_actor.specs.Turns.{Standing, at_first, with_turn, answering_turn, is_left}

-- where all actors stand
abbrev pub Standings : Type 0
Standings = ℕ → Standing

-- the number of the first call of an actor that isn't through
abbrev pub seq_at : Standings → ℕ → ℕ
seq_at at actor = (at actor).through + 1

abbrev pub place_of : Line → ℕ × ℕ
place_of line = (line.actor, line.seq)

abbrev pub next_call : List Line → Standings → ℕ → Option Call
next_call lines at actor = call_at (calls_in lines) actor (seq_at at actor)

-- where they stand behind a turn
abbrev pub behind : List Line → TurnCounts → Standings → ℕ → Standings
behind lines counts at actor = option_map_or (λ call. with_turn actor (counts actor (seq_at at actor)) at) (next_call lines at actor) at

-- what a turn answers of a call that has had so many turns and takes so many
abbrev pub answered_at : ℕ → ℕ → ℕ → Call → ℕ → List (ℕ × ℕ)
answered_at actor seq had call count = if nat_eq (had + 1) (answering_turn call count) then (actor, seq) ∷ [] else []

-- what it answers
abbrev pub answered_now : List Line → TurnCounts → Standings → ℕ → List (ℕ × ℕ)
answered_now lines counts at actor = option_map_or (λ call. answered_at actor (seq_at at actor) (at actor).had call (counts actor (seq_at at actor))) (next_call lines at actor) []

-- the same of turns
abbrev pub standing_after : List Line → TurnCounts → Standings → List ℕ → Standings
standing_after lines counts at [] = at
standing_after lines counts at (actor ∷ turns) = standing_after lines counts (behind lines counts at actor) turns

abbrev pub answered_in : List Line → TurnCounts → Standings → List ℕ → List (ℕ × ℕ)
answered_in lines counts at [] = []
answered_in lines counts at (actor ∷ turns) = answered_now lines counts at actor ++ answered_in lines counts (behind lines counts at actor) turns

-- the calls that are left
abbrev pub left_behind : List Line → TurnCounts → Standings → List (ℕ × ℕ)
left_behind lines counts at = list_map place_of (filter (is_left counts at) lines)

-- The call of a line has no entry yet: it comes behind the next one of its actor, or is that one, and takes more turns than it has had
-- until it is answered.
abbrev pub ahead_at : Standing → Line → Bool
ahead_at standing line =
    if nat_eq line.seq (standing.through + 1) then nat_lt standing.had (answering_turn line.call (standing.had + 1)) else nat_lt standing.through line.seq

abbrev pub is_ahead : Standings → Line → Bool
is_ahead at line = ahead_at (at line.actor) line

-- an actor stands elsewhere
abbrev pub moved_to : ℕ → Standing → Standings → Standings
moved_to actor standing at other = if nat_eq other actor then standing else at other

-- a call has had so many turns already
abbrev pub with_count : ℕ → ℕ → ℕ → TurnCounts → TurnCounts
with_count actor seq count counts other n = if nat_eq other actor then (if nat_eq n seq then count else counts other n) else counts other n

-- these turns are known to have been taken by the calls that are through, and fewer than they take by the others
pub record Agrees (counts : TurnCounts) (at : Standings) (known : TurnCounts) : Type 0 where
  pub through : (actor seq : ℕ) → seq ≤ (at actor).through → counts actor seq ≡ known actor seq
  pub going : (actor : ℕ) → (at actor).had < counts actor (seq_at at actor)

-- so far the turns answered these calls and led to where the actors stand, however many turns the calls take that aren't through
abbrev pub IsWalked : List Line → Standings → TurnCounts → List ℕ → List (ℕ × ℕ) → Type 0
IsWalked lines at known turns answered =
    (counts : TurnCounts) → Agrees counts at known → (answered_in lines counts at_first turns ≡ answered) × (standing_after lines counts at_first turns ≡ at)
