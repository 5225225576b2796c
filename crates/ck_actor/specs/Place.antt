-- Where an actor stands among the lines of a script.
use Rattle.std.specs.Prelude.{◌≡◌, ◌≤◌, ℕ, ◌+◌, List, Option, Some, None, IfSome, length, nat_lt, if◌then◌else◌, slice_get, take}
use Rattle.ck_script.specs.declared.line.Line.{Line}
use Rattle.ck_script.specs.Numbered.{numbers_in}
use Rattle.ck_actor.specs.declared.place.Place.{Place}

-- how many calls an actor has
abbrev pub call_count : List Line → ℕ → ℕ
call_count lines actor = length (numbers_in lines actor)

-- how many of the actor's calls are in lines before its own
abbrev pub answered_count : List Line → Place → ℕ
answered_count lines place = call_count (take place.line lines) place.actor

-- the number of the actor's next call, if one is left
abbrev pub next_number : List Line → Place → Option ℕ
next_number lines place =
    if nat_lt (answered_count lines place) (call_count lines place.actor) then Some (answered_count lines place + 1) else None

-- its line is that of the actor's next call, or the end
pub record IsFound (lines : List Line) (place : Place) : Type 0 where
  pub within : place.line ≤ length lines
  pub own : IfSome (slice_get lines place.line) (λ line. line.actor ≡ place.actor)
