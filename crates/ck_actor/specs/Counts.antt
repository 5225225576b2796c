-- How many turns of its actor a call takes.
use Rattle.std.specs.Prelude.{◌≡◌, ◌≤◌, ⊤, ℕ, ◌+◌, ◌-◌, Bool, false, List, [], ◌∷◌, length, min, Option, Some, None, MatchOption, IsSomeAnd, nat_lt, if◌then◌else◌}
use Rattle.std.specs.Option.{option_and_then}
use Rattle.std.specs.Result.{result_ok}
use Rattle.std.specs.FinMap as map
use Rattle.ck_model.specs.declared.call.Call.{Call}
use Rattle.ck_model.specs.declared.call.Call.TheVariants.{Nodata, Cread, Backup, Full}
use Rattle.ck_model.specs.declared.entry.Entry.{Entry}
use Rattle.ck_model.specs.declared.reply.Reply.{Reply}
use Rattle.ck_model.specs.declared.reply.Reply.TheVariants.{Done, Bytes, Streamed}
use Rattle.ck_model.specs.Cells.{Cells, size_at}
use Rattle.ck_model.specs.History.{CallsBy, Past, past_after}
use Rattle.ck_model.specs.Streams.{Texts, image, changed}
use Rattle.ck_model.specs.Walk.{file_at}
use Rattle.ck_model.specs.World.{World}
use Rattle.ck_read.specs.Progress.{turns_of}
use Rattle.ck_script.specs.Grammar.{◌>>=◌}

-- how many turns each call takes, by its actor and its number
abbrev pub TurnCounts : Type 0
TurnCounts = ℕ → ℕ → ℕ

-- The turns that a reply tells: those of a read by its bytes, those of a stream by its records. A stream has one more, which
-- finds no record left.
abbrev pub told_turns : Call → Reply → Option ℕ
told_turns (Cread letter path at len) (Bytes bytes) = Some (turns_of at (length bytes))
told_turns (Full letter) (Streamed records bytes) = Some (records + 1)
told_turns (Backup letter later_letter) (Streamed records bytes) = Some (records + 1)
told_turns _ _ = None

-- the maps that were frozen, by the ids of their checkpoints
abbrev pub FrozenMaps : Type 0
FrozenMaps = ℕ → Option Cells

-- the map that was frozen under the id for which an actor's letter stands
abbrev pub frozen_on : FrozenMaps → World → ℕ → ℕ → Option Cells
frozen_on frozen w actor letter = option_and_then frozen (map.get w.mounts (actor, letter))

-- The turns that a read of frozen maps takes to its end. None where a letter isn't mounted, the path is no file of the
-- checkpoint, or a backup's first id is above its second, and for every other call.
abbrev pub frozen_turns : FrozenMaps → World → ℕ → Call → Option ℕ
frozen_turns frozen w actor (Cread letter path at len) = do
  cells ← frozen_on frozen w actor letter
  node ← result_ok (file_at cells path)
  Some (turns_of at (min len (size_at cells node - at)))
frozen_turns frozen w actor (Full letter) = do
  cells ← frozen_on frozen w actor letter
  Some (length (image cells) + 1)
frozen_turns frozen w actor (Backup letter later_letter) = do
  first ← map.get w.mounts (actor, letter)
  second ← map.get w.mounts (actor, later_letter)
  earlier ← frozen first
  later ← frozen second
  if nat_lt second first then None else Some (length (changed earlier later) + 1)
frozen_turns frozen w actor _ = None

-- `nodata -s` may go on behind the turn at which it is answered Ok
abbrev pub may_go_on : Call → Reply → Bool
may_go_on (Nodata name synchronous) Done = synchronous
may_go_on _ _ = false

-- up to as many as the frozen maps have, and one where they have none
abbrev pub AsFrozen : Option ℕ → ℕ → Type 0
AsFrozen frozen count = MatchOption frozen (count ≡ 1) (λ most. count ≤ most)

-- how many turns a call with this reply may take
pub record Takes (frozen : Option ℕ) (call : Call) (reply : Reply) (count : ℕ) : Type 0 where
  pub some : 1 ≤ count
  pub told : may_go_on call reply ≡ false → MatchOption (told_turns call reply) (AsFrozen frozen count) (λ turns. count ≡ turns)

-- each entry's call takes as many turns as it may
abbrev pub TakeTurns : Texts → CallsBy → FrozenMaps → TurnCounts → Past → List Entry → Type 0
TakeTurns texts calls frozen counts past [] = ⊤
TakeTurns texts calls frozen counts past (entry ∷ entries) =
    IsSomeAnd (calls entry.actor entry.seq) (λ call. Takes (frozen_turns frozen past.world entry.actor call) call entry.reply (counts entry.actor entry.seq))
    × TakeTurns texts calls frozen counts (past_after texts calls past entry) entries
