-- How many entries the newer filesets of a table have.
use Rattle.std.specs.Prelude.{◌≡◌, ◌<◌, ◌≤◌, ℕ, [], length, filter, Option, IsSome, IfSome, IsSomeAnd, nat_le}
use Rattle.std.specs.FinMap as map
use Rattle.ck_model.specs.Table.{Table, keys_in, newer}

-- the entries of one fileset
abbrev pub entry_count : Table → ℕ → ℕ
entry_count t fs = length (keys_in t fs)

-- the entries of a checkpoint and of all newer ones
abbrev pub entries_from : Table → ℕ → ℕ
entries_from t id = length (filter (λ e. nat_le id e.0.0) (map.entries t.entries))

-- the newest fileset of a table, which is newer than this one
pub record IsNewest (t : Table) (id fs : ℕ) : Type 0 where
  pub above : id < fs
  pub stands : IsSome (map.get t.filesets fs)
  pub last : newer t fs ≡ []

-- the next fileset between these two; none where no other stands there
pub record IsNextBelow (t : Table) (at id : ℕ) (next : Option ℕ) : Type 0 where
  pub above : IfSome next (λ fs. at < fs)
  pub below : IfSome next (λ fs. fs < id)
  pub least : (fs : ℕ) → at < fs → fs < id → IsSome (map.get t.filesets fs) → IsSomeAnd next (λ first. first ≤ fs)
