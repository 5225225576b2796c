-- What one turn of an actor does.
use Rattle.std.specs.Prelude.{◌≡◌, ◌≢◌, ◌<◌, ◌⊎◌, ℕ, ◌+◌, List, [], ◌∷◌, ◌++◌, Some, None, IsTrue, length}
use Rattle.ck_disk.specs.Disk.{Meaning}
use Rattle.ck_disk.specs.declared.disk.Disk.{Ghosts}
use Rattle.ck_laws.specs.Laws.{frozen}
use Rattle.ck_model.specs.declared.call.Call.{Call}
use Rattle.ck_model.specs.declared.entry.Entry.{Entry}
use Rattle.ck_model.specs.declared.reply.Reply.{Reply}
use Rattle.ck_model.specs.History.{call_at, numbers_of, state}
use Rattle.ck_model.specs.Streams.{Texts}
use Rattle.ck_model.specs.World.{World}
use Rattle.ck_script.specs.declared.line.Line.{Line}
use Rattle.ck_script.specs.Numbered.{calls_in}
use Rattle.ck_engine.specs.Recovery.{Recovers}
use Rattle.ck_volume.specs.Event.{newest}
use Rattle.ck_volume.specs.Told.{AreAnswered}
use Rattle.ck_volume.specs.Volume.{history_of, told_of}
use Rattle.ck_volume.specs.declared.volume.Volume.{Volume}
use Rattle.ck_actor.specs.declared.actor.Actor.{Actor}
use Rattle.ck_actor.specs.Actor.{StandsAt}
use Rattle.ck_actor.specs.Counts.{Takes, frozen_turns}
use Rattle.ck_actor.specs.Turns.{Standing, going_on, gone_on, answering_turn}

-- the entries of a volume, and the calls that they answer
pub record Answered : Type 0 where
  pub told : List Call
  pub history : List Entry

abbrev pub answered_by_now : {D : Type 0} {g : Ghosts D} → Volume D g → Answered
answered_by_now volume = record { told = told_of volume; history = history_of volume }

-- One entry comes, which answers the call. The calls that have entries are those that are through.
pub record AddsEntry (number : ℕ) (at : Standing) (call : Call) (before after : Answered) : Type 0 where
  pub told : after.told ≡ before.told ++ call ∷ []
  pub added : after.history ≡ before.history ++ newest after.history ∷ []
  pub own : (newest after.history).actor ≡ number
  pub seq : (newest after.history).seq ≡ at.through + 1
  pub so_far : length (numbers_of before.history number) ≡ at.through

-- a call with this reply may take so many turns, in the history of what the origin recovers to
abbrev pub MayTake : Meaning → List Line → ℕ → Call → Answered → Reply → ℕ → Type 0
MayTake origin lines number call before reply count =
    IsTrue origin.tells → (w : World) → Recovers origin.shows w → (texts : Texts) → let calls = call_at (calls_in lines) in AreAnswered calls before.told before.history →
    Takes (frozen_turns (frozen texts calls w before.history) (state texts calls w before.history) number call) call reply count

-- no call is left, and nothing changes
pub record IsIdle (lines : List Line) (number : ℕ) (at next : Standing) (before after : Answered) : Type 0 where
  pub none : call_at (calls_in lines) number (at.through + 1) ≡ None
  pub standing : next ≡ at
  pub history : after ≡ before

-- The call has had one turn more and goes on, and isn't answered at this one, however many it takes.
pub record IsTaken (lines : List Line) (number : ℕ) (at next : Standing) (before after : Answered) : Type 0 where
  pub call : Call
  pub call_is : call_at (calls_in lines) number (at.through + 1) ≡ Some call
  pub standing : next ≡ going_on at
  pub later : (count : ℕ) → at.had + 1 < count → answering_turn call count ≢ at.had + 1
  pub history : after ≡ before

-- The call is answered at this turn, however many it takes, and goes on.
pub record IsEntered (origin : Meaning) (lines : List Line) (number : ℕ) (at next : Standing) (before after : Answered) : Type 0 where
  pub call : Call
  pub call_is : call_at (calls_in lines) number (at.through + 1) ≡ Some call
  pub standing : next ≡ going_on at
  pub now : (count : ℕ) → at.had + 1 < count → answering_turn call count ≡ at.had + 1
  pub entry : AddsEntry number at call before after
  pub takes : (count : ℕ) → at.had + 1 < count → MayTake origin lines number call before (newest after.history).reply count

-- The call is answered and through: the turns that it had with this one are as many as it may take.
pub record IsAnswered (origin : Meaning) (lines : List Line) (number : ℕ) (at next : Standing) (before after : Answered) : Type 0 where
  pub call : Call
  pub call_is : call_at (calls_in lines) number (at.through + 1) ≡ Some call
  pub standing : next ≡ gone_on at
  pub now : answering_turn call (at.had + 1) ≡ at.had + 1
  pub entry : AddsEntry number at call before after
  pub takes : MayTake origin lines number call before (newest after.history).reply (at.had + 1)

-- The call is through, and was answered at a turn before.
pub record IsEnded (lines : List Line) (number : ℕ) (at next : Standing) (before after : Answered) : Type 0 where
  pub call : Call
  pub call_is : call_at (calls_in lines) number (at.through + 1) ≡ Some call
  pub standing : next ≡ gone_on at
  pub earlier : answering_turn call (at.had + 1) ≢ at.had + 1
  pub history : after ≡ before

-- where this actor stood, and stands behind the turn
abbrev pub IsTurn : Meaning → List Line → ℕ → Standing → Standing → Answered → Answered → Type 0
IsTurn origin lines number at next before after =
    IsIdle lines number at next before after ⊎ IsTaken lines number at next before after ⊎ IsEntered origin lines number at next before after
    ⊎ IsAnswered origin lines number at next before after ⊎ IsEnded lines number at next before after

-- from where it stood to where it may stand behind the turn
pub record IsTurnFrom (origin : Meaning) (lines : List Line) (number : ℕ) (at : Standing) (actor : Actor) (before after : Answered) : Type 0 where
  pub next : Standing
  pub stands : StandsAt lines actor next
  pub turn : IsTurn origin lines number at next before after

-- the same from each standing where it may have stood
abbrev pub IsTurnOf : Meaning → List Line → ℕ → Actor → Actor → Answered → Answered → Type 0
IsTurnOf origin lines number was now before after = (at : Standing) → StandsAt lines was at → IsTurnFrom origin lines number at now before after
