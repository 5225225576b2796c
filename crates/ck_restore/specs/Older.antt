-- What a restore leaves of the checkpoints up to the restored one, step by step.
use Rattle.std.specs.Prelude.{◌≡◌, ◌≢◌, ◌<◌, ◌≤◌, ◌↔◌, ℕ, true, Some}
use Rattle.std.specs.FinMap as map
use Rattle.ck_model.specs.declared.key.Key.{Key}
use Rattle.ck_model.specs.declared.held.Held.TheVariants.{Absent}
use Rattle.ck_model.specs.Table.{Table, column, record_count}
use Rattle.ck_model.specs.Chain.{is_live, seen}
use Rattle.ck_model.specs.Rules.{IsNeeded, IsOrderly}
use Rattle.ck_chain.specs.Named.{IsNamed}
use Rattle.ck_restore.specs.Entries.{entries_from}

pub record LeavesOlder (id : ℕ) (old new : Table) : Type 0 where
  -- every reader of one that isn't gone sees what it saw
  pub seen : (fs : ℕ) (key : Key) → is_live old fs ≡ true → fs ≤ id → seen new fs key ≡ seen old fs key
  pub filesets : (fs : ℕ) → fs ≤ id → map.get new.filesets fs ≡ map.get old.filesets fs
  pub counters : new.counters ≡ old.counters
  pub blocks : new.blocks ≡ old.blocks
  pub limit : new.records ≡ old.records
  pub records : record_count new ≤ record_count old

-- an absent there is needed
abbrev pub NeededAt : Table → Key → ℕ → Type 0
NeededAt t key fs = column t key fs ≡ Some Absent → IsNeeded t key fs

-- the absents of the older checkpoints that aren't gone are needed
abbrev pub OlderNeeded : Table → ℕ → Type 0
OlderNeeded t id = (fs : ℕ) (key : Key) → is_live t fs ≡ true → fs < id → NeededAt t key fs

-- but maybe at this key
abbrev pub OthersNeeded : Table → ℕ → Key → Type 0
OthersNeeded t id but = (fs : ℕ) (key : Key) → key ≢ but → is_live t fs ≡ true → fs < id → NeededAt t key fs

-- what tidying older checkpoints leaves
pub record LeavesTidied (id : ℕ) (old new : Table) : Type 0 where
  pub older : LeavesOlder id old new
  pub filesets : new.filesets ≡ old.filesets
  pub orderly : IsOrderly new
  pub named : (block : ℕ) → IsNamed new block ↔ IsNamed old block
  pub entries : entries_from new id ≡ entries_from old id
  pub newer : (fs : ℕ) (key : Key) → id ≤ fs → column new key fs ≡ column old key fs
  pub needed : (fs : ℕ) (key : Key) → NeededAt old key fs → NeededAt new key fs
