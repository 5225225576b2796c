-- What an actor has done of a script, and what its turns do.
use Rattle.std.specs.Prelude.{◌≡◌, ◌≤◌, ◌<◌, ⊤, ℕ, ◌+◌, ◌-◌, List, Option, None, Some, IsTrue, length, slice_get, take}
use Rattle.std.specs.FinMap as map
use Rattle.ck_disk.specs.Disk.{Meaning}
use Rattle.ck_io.specs.Clock.{ClockMeaning}
use Rattle.ck_model.specs.declared.call.Call.{Call}
use Rattle.ck_model.specs.declared.entry.Entry.{Entry}
use Rattle.ck_model.specs.History.{numbers_of}
use Rattle.ck_model.specs.Table.{Table}
use Rattle.ck_script.specs.declared.line.Line.{Line}
use Rattle.ck_script.specs.Numbered.{numbers_in}
use Rattle.ck_nodata.specs.StripItem.{unstripped_count}
use Rattle.ck_volume.specs.declared.event.Progress.{Progress}
use Rattle.ck_volume.specs.declared.event.Progress.TheVariants.{Fresh, Read, Strip}
use Rattle.ck_volume.specs.Progress.{had_of, FitsHistory, IsBegunFor}
use Rattle.ck_actor.specs.declared.actor.Actor.{Actor}
use Rattle.ck_actor.specs.declared.place.Place.{Place}
use Rattle.ck_actor.specs.Turns.{Standing}
use Rattle.ck_actor.specs.Place.{answered_count, call_count, next_number}

abbrev pub number_of : Actor → ℕ
number_of actor = actor.place.actor

-- a turn begins the next call where none is on its way
abbrev pub begun_by : Progress → Option ℕ → Option ℕ
begun_by Fresh next = next
begun_by (Read read) next = None
begun_by (Strip id) next = None

-- the number of the call that its next turn begins; none where that goes on with one, or all were answered
abbrev pub begins : List Line → Actor → Option ℕ
begins lines actor = begun_by actor.progress (next_number lines actor.place)

-- its calls in the lines before this one have entries: a call that strips has its own
abbrev pub entered_line : Place → Progress → ℕ
entered_line place Fresh = place.line
entered_line place (Read read) = place.line
entered_line place (Strip id) = place.line + 1

-- the numbers of its calls that have entries
abbrev pub entered_numbers : List Line → Place → Progress → List ℕ
entered_numbers lines place progress = numbers_in (take (entered_line place progress) lines) place.actor

-- how many of its calls have no entry yet
abbrev pub calls_left : List Line → Actor → ℕ
calls_left lines actor = call_count lines actor.place.actor - length (entered_numbers lines actor.place actor.progress)

-- The call of its line has been begun, as this progress says: what was read or is stripped fits that call in the history of what the
-- origin recovers to.
pub record HasBegun (origin : Meaning) (told : List Call) (lines : List Line) (history : List Entry) (place : Place) (progress : Progress) : Type 0 where
  pub line : Line
  pub line_is : slice_get lines place.line ≡ Some line
  pub own : line.actor ≡ place.actor
  pub begun : IsBegunFor line.call progress
  pub fits : FitsHistory origin told history place.actor line.call progress

-- where a call is on its way
abbrev pub OnWay : Progress → Type 0 → Type 0
OnWay Fresh X = ⊤
OnWay (Read read) X = X
OnWay (Strip id) X = X

abbrev pub IsOnWay : Meaning → List Call → List Line → List Entry → Place → Progress → Type 0
IsOnWay origin told lines history place progress = OnWay progress (HasBegun origin told lines history place progress)

-- Of this history, it has just its calls in the lines before its place, and the call of its line where that strips. That call may be on
-- its way.
pub record Stands (origin : Meaning) (told : List Call) (lines : List Line) (history : List Entry) (actor : Actor) : Type 0 where
  pub numbers : numbers_of history actor.place.actor ≡ entered_numbers lines actor.place actor.progress
  pub on_way : IsOnWay origin told lines history actor.place actor.progress

-- a call that is on its way began at the clock's moment, where the clock tells it
abbrev pub HasMoment : ClockMeaning → Actor → Type 0
HasMoment clock actor = OnWay actor.progress (IsTrue clock.tells → actor.began ≡ clock.moment)

-- it stands before all lines
pub record IsNew (number : ℕ) (actor : Actor) : Type 0 where
  pub place_is : actor.place ≡ record { actor = number; line = 0 }
  pub progress_is : actor.progress ≡ Fresh

-- how many turns a call may have had: a strip doesn't tell, but one at least
abbrev pub HasHad : Progress → ℕ → Type 0
HasHad Fresh had = had ≡ 0
HasHad (Read read) had = had ≡ had_of (Read read)
HasHad (Strip id) had = 1 ≤ had

-- where it may stand: so many of its calls are through, and the next one has had so many turns
pub record StandsAt (lines : List Line) (actor : Actor) (at : Standing) : Type 0 where
  pub through : at.through ≡ answered_count lines actor.place
  pub had : HasHad actor.progress at.had

-- how many turns are left at most of the call of its line
abbrev pub turns_left : Progress → Table → ℕ
turns_left Fresh t = 262144 + map.len t.entries + 1
turns_left (Read read) t = 262144 - had_of (Read read) + map.len t.entries + 1
turns_left (Strip id) t = unstripped_count t + 1

-- a call that is on its way behind a turn has fewer turns left
abbrev pub HasFewer : Actor → Table → Actor → Table → Type 0
HasFewer was before now after = OnWay now.progress (turns_left now.progress after < turns_left was.progress before)

-- the history has each of its calls, and none is on its way
pub record IsThrough (lines : List Line) (history : List Entry) (actor : Actor) : Type 0 where
  pub numbers : numbers_of history actor.place.actor ≡ numbers_in lines actor.place.actor
  pub at_rest : actor.progress ≡ Fresh
