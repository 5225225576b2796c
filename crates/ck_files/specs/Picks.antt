-- A checkpoint that is given up where room is wanted.
use Rattle.std.specs.Prelude.{◌≡◌, ℕ, Some, None}
use Rattle.ck_model.specs.Table.{Table, spare_count}
use Rattle.ck_reclaim.specs.Removable.{pick_of}
use Rattle.ck_table.specs.Gone.{with_gone}
use Rattle.ck_files.specs.Drained.{IsDrained}

-- the one that goes first is gone, and nothing else of the table has changed
pub record IsGivenUp (old new : Table) : Type 0 where
  pub id : ℕ
  pub picked : pick_of old ≡ Some id
  pub table : new ≡ with_gone old id

-- no record is free, nothing is left to remove or to strip, and nothing to give up
pub record IsFull (t : Table) : Type 0 where
  pub spare : spare_count t ≡ 0
  pub drained : IsDrained t
  pub none : pick_of t ≡ None
