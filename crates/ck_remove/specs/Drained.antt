-- A table once every step of a removal is done.
use Rattle.std.specs.Prelude.{ℕ}
use Rattle.ck_model.specs.Table.{Table, IsTable}
use Rattle.ck_model.specs.Rules.{IsSound}
use Rattle.ck_model.specs.Placed.{NoneGone}
use Rattle.ck_remove.specs.Unseen.{IsUnseen}

-- nobody sees the steps, and no checkpoint is gone any more
pub record IsDrained (old new : Table) : Type 0 where
  pub lawful : IsTable new
  pub sound : IsSound new
  pub unseen : IsUnseen old new
  pub none : NoneGone new
