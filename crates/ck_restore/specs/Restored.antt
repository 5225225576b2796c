-- The table after a restore of one of its checkpoints.
use Rattle.std.specs.Prelude.{◌≡◌, ◌<◌, ℕ, true, None, nat_lt, if◌then◌else◌}
use Rattle.std.specs.FinMap as map
use Rattle.ck_model.specs.declared.key.Key.{Key}
use Rattle.ck_model.specs.Table.{Table, column}
use Rattle.ck_model.specs.Chain.{is_live, seen, value_of}

-- what the clauses of `restore` say of the world that the table stands for
pub record IsRestored (old new : Table) (id : ℕ) : Type 0 where
  pub primary : (key : Key) → column new key 0 ≡ value_of old id key
  -- it and all newer ones leave
  pub filesets : (fs : ℕ) → map.get new.filesets fs ≡ (if nat_lt fs id then map.get old.filesets fs else None)
  pub kept : (fs : ℕ) (key : Key) → is_live old fs ≡ true → fs < id → seen new fs key ≡ seen old fs key
  pub counters : new.counters ≡ old.counters
  pub blocks : new.blocks ≡ old.blocks
  pub limit : new.records ≡ old.records
