-- A change of a table that nobody sees who reads the primary or a checkpoint that isn't gone.
use Rattle.std.specs.Prelude.{◌≡◌, ◌≤◌, ◌⊎◌, ℕ, None, Some, true, false}
use Rattle.std.specs.FinMap as map
use Rattle.ck_model.specs.declared.key.Key.{Key}
use Rattle.ck_model.specs.declared.held.Held.TheVariants.{Extent}
use Rattle.ck_model.specs.Table.{Table, column, record_count}
use Rattle.ck_model.specs.Chain.{is_gone, is_live, keeps_data, seen}
use Rattle.ck_model.specs.TableWorld.{extent_count}
use Rattle.ck_chain.specs.Named.{IsNamed}

pub record IsUnseen (old new : Table) : Type 0 where
  -- every reader of a checkpoint that isn't gone sees what it saw
  pub seen : (fs : ℕ) (key : Key) → is_live old fs ≡ true → seen new fs key ≡ seen old fs key
  pub primary : (key : Key) → column new key 0 ≡ column old key 0
  -- whether data is kept stays, and no data block is new where it isn't
  pub keeps : (fs : ℕ) → keeps_data new fs ≡ keeps_data old fs
  pub dropped : (fs : ℕ) (key : Key) (stamp block : ℕ) → keeps_data old fs ≡ false → column new key fs ≡ Some (Extent stamp block) → column old key fs ≡ Some (Extent stamp block)
  -- the records of those stay, and one that is gone stays or leaves the table
  pub filesets : (fs : ℕ) → is_gone old fs ≡ false → map.get new.filesets fs ≡ map.get old.filesets fs
  pub gone : (fs : ℕ) → is_gone old fs ≡ true → (map.get new.filesets fs ≡ map.get old.filesets fs) ⊎ (map.get new.filesets fs ≡ None)
  pub counters : new.counters ≡ old.counters
  pub blocks : new.blocks ≡ old.blocks
  pub limit : new.records ≡ old.records
  -- neither records nor data blocks are more
  pub records : record_count new ≤ record_count old
  pub extents : extent_count new ≤ extent_count old
  pub named : (block : ℕ) → IsNamed new block → IsNamed old block
