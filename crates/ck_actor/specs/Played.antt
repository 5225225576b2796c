-- What stands while a script is played.
use Rattle.std.specs.Prelude.{◌≡◌, ◌≤◌, ◌<◌, ◌⊎◌, ℕ, zero, suc, ◌+◌, ◌-◌, List, [], ◌++◌, None, Some, IsTrue, length, map as list_map, slice_get}
use Rattle.std.specs.List.{AllByRecursion}
use Rattle.ck_disk.specs.Disk.{Meaning}
use Rattle.ck_disk.specs.declared.disk.Disk.{Ghosts}
use Rattle.ck_io.specs.Clock.{ClockMeaning}
use Rattle.ck_laws.specs.Laws.{frozen}
use Rattle.ck_model.specs.declared.call.Call.{Call}
use Rattle.ck_model.specs.declared.entry.Entry.{Entry}
use Rattle.ck_model.specs.History.{begun, call_at, numbers_of}
use Rattle.ck_model.specs.Streams.{Texts}
use Rattle.ck_model.specs.World.{World}
use Rattle.ck_script.specs.declared.line.Line.{Line}
use Rattle.ck_script.specs.Numbered.{calls_in}
use Rattle.ck_engine.specs.Recovery.{Recovers}
use Rattle.ck_volume.specs.Told.{AreAnswered}
use Rattle.ck_volume.specs.TopCuts.{synced_count}
use Rattle.ck_volume.specs.Volume.{committed_of, history_of, origin_of, room_of, spoilt_of}
use Rattle.ck_volume.specs.declared.volume.Volume.{Volume}
use Rattle.ck_actor.specs.declared.actor.Actor.{Actor}
use Rattle.ck_actor.specs.Actor.{number_of, HasMoment, IsNew, Stands, StandsAt}
use Rattle.ck_actor.specs.Completed.{IsCompleted, IsSound}
use Rattle.ck_actor.specs.Counts.{TurnCounts, TakeTurns}
use Rattle.ck_actor.specs.Place.{call_count}
use Rattle.ck_actor.specs.Turned.{Answered, answered_by_now}
use Rattle.ck_actor.specs.Turns.{going_on, gone_on}
use Rattle.ck_actor.specs.Walk.{Standings, seq_at, answered_at, moved_to, with_count, Agrees, IsWalked}

-- where the actor with this number stands
pub record IsPlayer (origin : Meaning) (clock : ClockMeaning) (lines : List Line) (at : Standings) (now : Answered) (number : ℕ) (actor : Actor) : Type 0 where
  pub number_is : number_of actor ≡ number
  pub stands : Stands origin now.told lines now.history actor
  pub moment : HasMoment clock actor
  pub standing : StandsAt lines actor (at number)

-- before the first turn
pub record AreBegun (actors : List Actor) : Type 0 where
  pub many : length actors ≡ 64
  pub each : (place : ℕ) (actor : Actor) → slice_get actors place ≡ Some actor → IsNew (suc place) actor

-- the actors by their numbers, from 1 on
abbrev pub ArePlayers : Meaning → ClockMeaning → List Line → Standings → Answered → List Actor → Type 0
ArePlayers origin clock lines at now actors =
    (place : ℕ) (actor : Actor) → slice_get actors place ≡ Some actor → IsPlayer origin clock lines at now (suc place) actor

-- how many calls of the actors with numbers from 1 to this one have no entry yet
abbrev pub all_left : List Line → List Entry → ℕ → ℕ
all_left lines history zero = 0
all_left lines history (suc below) = all_left lines history below + (call_count lines (suc below) - length (numbers_of history (suc below)))

-- no actor has this number
abbrev pub IsNone : ℕ → Type 0
IsNone number = (number ≡ 0) ⊎ (64 < number)

-- the entries' calls, by their actors and numbers
abbrev pub places_of : List Entry → List (ℕ × ℕ)
places_of history = list_map (λ entry. (entry.actor, entry.seq)) history

-- where the device tells, the entries' calls may take the turns that are known, however many those take that aren't through
abbrev pub AreTaken : Meaning → List Line → Standings → TurnCounts → List Entry → Type 0
AreTaken origin lines at known history =
    IsTrue origin.tells → (w : World) → Recovers origin.shows w → (texts : Texts) (counts : TurnCounts) → Agrees counts at known
    → TakeTurns texts (call_at (calls_in lines)) (frozen texts (call_at (calls_in lines)) w history) counts (begun w) history

abbrev pub HaveMoment : ClockMeaning → List Entry → Type 0
HaveMoment clock history = IsTrue clock.tells → AllByRecursion (λ entry. entry.at ≡ clock.moment) history

-- Where all actors stand, and the entries that came, with room for those that are left.
pub record IsPlayed (origin : Meaning) (clock : ClockMeaning) (lines : List Line) (actors : List Actor) (at : Standings) (known : TurnCounts) (now : Answered) (room : ℕ) : Type 0 where
  pub many : length actors ≡ 64
  pub players : ArePlayers origin clock lines at now actors
  pub others : (number : ℕ) → IsNone number → numbers_of now.history number ≡ []
  pub sound : IsSound lines at known
  pub left : all_left lines now.history 64 ≤ room
  pub takes : AreTaken origin lines at known now.history
  pub answered : AreAnswered (call_at (calls_in lines)) now.told now.history
  pub moments : HaveMoment clock now.history

-- the same of a volume, whose syncs committed what they answered
pub record IsUnderWay {D : Type 0} {g : Ghosts D} (means : D → Meaning) (origin : D) (clock : ClockMeaning) (lines : List Line) (volume : Volume D g) (actors : List Actor) (at : Standings) (known : TurnCounts) : Type 0 where
  pub played : IsPlayed (means origin) clock lines actors at known (answered_by_now volume) (room_of volume)
  pub synced : synced_count (call_at (calls_in lines)) (history_of volume) ≤ committed_of volume
  pub unspoilt : spoilt_of volume ≡ None
  pub origin_is : origin_of volume ≡ origin

pub record IsPlaying {D : Type 0} {g : Ghosts D} (means : D → Meaning) (origin : D) (clock : ClockMeaning) (lines : List Line) (volume : Volume D g) (actors : List Actor) : Type 0 where
  pub at : Standings
  pub known : TurnCounts
  pub under_way : IsUnderWay means origin clock lines volume actors at known

-- these turns were taken
pub record AreTurned {D : Type 0} {g : Ghosts D} (means : D → Meaning) (origin : D) (clock : ClockMeaning) (lines : List Line) (turns : List ℕ) (volume : Volume D g) (actors : List Actor) : Type 0 where
  pub at : Standings
  pub known : TurnCounts
  pub under_way : IsUnderWay means origin clock lines volume actors at known
  pub walked : IsWalked lines at known turns (places_of (history_of volume))

-- and then the calls of so many lines were brought to their ends that were left
pub record AreFinished {D : Type 0} {g : Ghosts D} (means : D → Meaning) (origin : D) (clock : ClockMeaning) (lines : List Line) (turns : List ℕ) (passed : ℕ) (volume : Volume D g) (actors : List Actor) : Type 0 where
  pub first : Standings
  pub counts : TurnCounts
  pub before : List (ℕ × ℕ)
  pub walked : IsWalked lines first counts turns before
  pub first_sound : IsSound lines first counts
  pub at : Standings
  pub known : TurnCounts
  pub under_way : IsUnderWay means origin clock lines volume actors at known
  pub completed : IsCompleted lines first counts before passed at known (places_of (history_of volume))

-- ---- one turn of the actor with this number: from where all stood, with these turns known and these calls answered

-- it changed nothing
pub record IsStepIdle (lines : List Line) (number : ℕ) (at : Standings) (known : TurnCounts) (before : List (ℕ × ℕ)) (next : Standings) (counts : TurnCounts) (after : List (ℕ × ℕ)) : Type 0 where
  pub none : call_at (calls_in lines) number (seq_at at number) ≡ None
  pub at_is : next ≡ at
  pub known_is : counts ≡ known
  pub places : after ≡ before

-- its call has had one turn more and goes on, and was answered at this one where it is, however many turns it takes
pub record IsStepGoing (lines : List Line) (number : ℕ) (at : Standings) (known : TurnCounts) (before : List (ℕ × ℕ)) (next : Standings) (counts : TurnCounts) (after : List (ℕ × ℕ)) : Type 0 where
  pub call : Call
  pub call_is : call_at (calls_in lines) number (seq_at at number) ≡ Some call
  pub at_is : next ≡ moved_to number (going_on (at number)) at
  pub known_is : counts ≡ known
  pub places : (count : ℕ) → (at number).had + 1 < count → after ≡ before ++ answered_at number (seq_at at number) (at number).had call count

-- its call is through, and was answered at this turn or before
pub record IsStepGone (lines : List Line) (number : ℕ) (at : Standings) (known : TurnCounts) (before : List (ℕ × ℕ)) (next : Standings) (counts : TurnCounts) (after : List (ℕ × ℕ)) : Type 0 where
  pub call : Call
  pub call_is : call_at (calls_in lines) number (seq_at at number) ≡ Some call
  pub at_is : next ≡ moved_to number (gone_on (at number)) at
  pub known_is : counts ≡ with_count number (seq_at at number) ((at number).had + 1) known
  pub places : after ≡ before ++ answered_at number (seq_at at number) (at number).had call ((at number).had + 1)

abbrev pub IsStep : List Line → ℕ → Standings → TurnCounts → List (ℕ × ℕ) → Standings → TurnCounts → List (ℕ × ℕ) → Type 0
IsStep lines number at known before next counts after =
    IsStepIdle lines number at known before next counts after ⊎ IsStepGoing lines number at known before next counts after ⊎ IsStepGone lines number at known before next counts after

-- what stands behind it
pub record HasStepped {D : Type 0} {g : Ghosts D} (means : D → Meaning) (origin : D) (clock : ClockMeaning) (lines : List Line) (number : ℕ) (at : Standings) (known : TurnCounts) (before after : Volume D g) (actors : List Actor) : Type 0 where
  pub next : Standings
  pub counts : TurnCounts
  pub under_way : IsUnderWay means origin clock lines after actors next counts
  pub step : IsStep lines number at known (places_of (history_of before)) next counts (places_of (history_of after))
