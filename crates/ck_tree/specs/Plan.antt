-- What a call that changes files is to change of the primary.
use Rattle.std.specs.Prelude.{◌≡◌, ◌≢◌, ◌≤◌, ◌+◌, ◌%◌, ◌⊎◌, ⊤, ℕ, true, List, [], ◌∷◌, length, All, Option, Some, None, IfSome, IsSome, Ok, Err, replicate}
use Rattle.ck_model.specs.declared.cell.Cell.{Cell}
use Rattle.ck_model.specs.declared.cell.Payload.TheVariants.{File, Dir, Bytes}
use Rattle.ck_model.specs.declared.call.Call.{Call}
use Rattle.ck_model.specs.declared.call.Call.TheVariants.{Make, Mkdir, Write, Fill, Trunc}
use Rattle.ck_model.specs.declared.held.Small.{Small}
use Rattle.ck_model.specs.declared.held.Small.TheVariants as small
use Rattle.ck_model.specs.declared.change.Change.{Change}
use Rattle.ck_model.specs.declared.change.Change.TheVariants as change
use Rattle.ck_model.specs.declared.checkpoint.Counters.{Counters}
use Rattle.ck_model.specs.Cells.{Cells, set_cell}
use Rattle.ck_model.specs.Changes.{cell_of, block_after, cut_block}
use Rattle.ck_model.specs.FileCalls.{changed_by}
use Rattle.ck_model.specs.Held.{IsKey, IsEntry, IsStamp}
use Rattle.ck_model.specs.Rules.{KeyBelow, HeldBelow}
use Rattle.ck_model.specs.Table.{Table, column}
use Rattle.ck_model.specs.Values.{payload_of}
use Rattle.ck_model.specs.World.{World}
use Rattle.ck_chain.specs.Changes.{deletions_first, is_deletion, key_of, value_after}
use Rattle.ck_tree.specs.declared.fault.TreeFault.{TreeFault}
use Rattle.ck_tree.specs.declared.fault.TreeFault.TheVariants.{NoMemory}
use Rattle.ck_tree.specs.Faults.{reply_of}
use Rattle.ck_tree.specs.Map.{StandsFor}

-- ---- what the model says of a call

-- the bytes that a block of a file has after the call
abbrev pub block_by : World → Call → ℕ → ℕ → List ℕ
block_by w (Write path place bytes) node index = block_after w.primary node place bytes index
block_by w (Fill path place len byte) node index = block_after w.primary node place (replicate len byte) index
block_by w (Trunc path size) node index = cut_block w.primary node index (size % 4096)
block_by w _ node index = block_after w.primary node 0 [] index

-- the numbers that are given next, after the call
abbrev pub numbers_after : Call → Counters → Counters
numbers_after (Make path) next = record next { stamp = next.stamp + 1; number = next.number + 1 }
numbers_after (Mkdir path) next = record next { stamp = next.stamp + 1; number = next.number + 1 }
numbers_after _ next = record next { stamp = next.stamp + 1 }

-- ---- what changes come to

-- the cell that a change leaves, of the version with this stamp, where the blocks of files get these bytes
abbrev pub cell_after : (ℕ → ℕ → List ℕ) → ℕ → Change → Option Cell
cell_after bytes stamp (change.Put key small) = Some (cell_of stamp (payload_of small))
cell_after bytes stamp (change.Write node index block) = Some (cell_of stamp (Bytes (bytes node index)))
cell_after bytes stamp (change.Del key) = None

-- the map after these changes, one after the other
abbrev pub with_changes : (ℕ → ℕ → List ℕ) → ℕ → Cells → List Change → Cells
with_changes bytes stamp cells [] = cells
with_changes bytes stamp cells (change ∷ changes) =
    with_changes bytes stamp (set_cell cells (key_of change) (cell_after bytes stamp change)) changes

-- the world once these changes are made for the call
abbrev pub world_after : World → Call → List Change → World
world_after w call changes = record w {
  primary = with_changes (block_by w call) w.next.stamp w.primary changes;
  next = numbers_after call w.next;
}

-- ---- plans

-- the table stands for the world's primary map, and has its next numbers
pub record StandsForPrimary (t : Table) (w : World) : Type 0 where
  pub cells : StandsFor t 0 w.primary
  pub next : w.next ≡ t.counters

-- A change that may be made in a call with these next numbers: within its limits, of numbers that are given by
-- then, and a deletion only of a key that the primary has.
pub record MayBeMade (t : Table) (next : Counters) (change : Change) : Type 0 where
  pub key : IsKey (key_of change)
  pub below : KeyBelow next.number (key_of change)
  pub deleted : is_deletion change ≡ true → IsSome (column t (key_of change) 0)
  pub value : (stamp : ℕ) → IsStamp stamp → IfSome (value_after change stamp) (λ held. IsEntry (key_of change) held × HeldBelow next.number held)

-- no two of these change the same key
abbrev pub Differ : List Change → Type 0
Differ [] = ⊤
Differ (change ∷ changes) = All (λ other. key_of other ≢ key_of change) changes × Differ changes

-- the changes that a call asks for, of which the model is told the rest: stamps and the bytes of blocks
pub record IsPlan (t : Table) (call : Call) (changes : List Change) : Type 0 where
  pub first : deletions_first changes ≡ true
  pub once : Differ changes
  pub each : All (MayBeMade t (numbers_after call t.counters)) changes
  pub few : length changes ≤ 262146
  pub leads : (w : World) → StandsForPrimary t w → changed_by w call ≡ Ok (world_after w call changes)

-- memory was refused, or the model refuses the call with the fault's reply
abbrev pub IsRefusal : Table → Call → TreeFault → Type 0
IsRefusal t call fault = (fault ≡ NoMemory) ⊎ ((w : World) → StandsForPrimary t w → changed_by w call ≡ Err (reply_of fault))

-- the call that makes a directory, or else a file
abbrev pub making : Small → List (List ℕ) → Call
making (small.To node) path = Make path
making (small.File size) path = Make path
making small.Dir path = Mkdir path
