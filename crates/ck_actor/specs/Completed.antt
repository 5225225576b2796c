-- Behind the listed turns: the calls that are left are brought to their ends in the order of their lines.
use Rattle.std.specs.Prelude.{◌≡◌, ◌≤◌, ◌<◌, ◌⊎◌, ℕ, List, ◌++◌, filter, map as list_map, take}
use Rattle.ck_script.specs.declared.line.Line.{Line}
use Rattle.ck_actor.specs.Counts.{TurnCounts}
use Rattle.ck_actor.specs.Place.{call_count}
use Rattle.ck_actor.specs.Walk.{Standings, seq_at, place_of, is_ahead}

-- each call takes a turn, and only a call of the script is on its way
pub record IsSound (lines : List Line) (at : Standings) (known : TurnCounts) : Type 0 where
  pub positive : (actor seq : ℕ) → 1 ≤ known actor seq
  pub there : (actor : ℕ) → ((at actor).had ≡ 0) ⊎ ((at actor).through < call_count lines actor)

-- Since the actors stood as first, with these counts and these calls answered before, the calls of so many lines came to their ends, and
-- those of them were answered that weren't yet, in their order.
pub record IsCompleted (lines : List Line) (first : Standings) (counts : TurnCounts) (before : List (ℕ × ℕ)) (passed : ℕ) (at : Standings) (known : TurnCounts) (answered : List (ℕ × ℕ)) : Type 0 where
  pub order : answered ≡ before ++ list_map place_of (filter (is_ahead first) (take passed lines))
  -- what was through then has the count that it had
  pub kept : (actor seq : ℕ) → seq ≤ (first actor).through → known actor seq ≡ counts actor seq
  -- a call that was on its way took more turns than it had had
  pub began : (actor : ℕ) → (first actor).through < (at actor).through → (first actor).had < known actor (seq_at first actor)
  -- an actor stands as it did, or no call of it is on its way
  pub still : (actor : ℕ) → (at actor).through ≡ (first actor).through → (at actor).had ≡ (first actor).had
  pub at_rest : (actor : ℕ) → (first actor).through < (at actor).through → (at actor).had ≡ 0
  pub no_less : (actor : ℕ) → (first actor).through ≤ (at actor).through
  -- all calls of those lines are through, and of an actor that went on since no other
  pub all : (actor : ℕ) → call_count (take passed lines) actor ≤ (at actor).through
  pub no_more : (actor : ℕ) → (first actor).through < (at actor).through → (at actor).through ≤ call_count (take passed lines) actor
