-- What the table of a volume and its data blocks are between two events.
use Rattle.std.specs.Prelude.{◌≡◌}
use Rattle.ck_alloc.specs.Blocks.{Allocation}
use Rattle.ck_model.specs.declared.checkpoint.Limits.{Limits}
use Rattle.ck_model.specs.Rules.{IsSound}
use Rattle.ck_model.specs.Table.{Table, IsTable, IsSized}
use Rattle.ck_files.specs.Allocated.{IsAllocated}

-- what every table of a volume is
pub record IsOurs (t : Table) : Type 0 where
  pub lawful : IsTable t
  pub sized : IsSized t
  pub sound : IsSound t

-- the table is sound, its data blocks are those in use, and it has these limits
pub record AreFiles (limits : Limits) (t : Table) (blocks : Allocation) : Type 0 where
  pub ours : IsOurs t
  pub allocated : IsAllocated t blocks
  pub limit : t.blocks ≡ limits.blocks
  pub records : t.records ≡ limits.records
