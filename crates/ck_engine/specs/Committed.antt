-- The table that was committed last, and the worlds that a crash may leave.
use Rattle.std.specs.Prelude.{◌≡◌, ◌⊎◌, ℕ, true}
use Rattle.std.specs.FinMap as map
use Rattle.ck_disk.specs.Disk.{Image, Meaning}
use Rattle.ck_log.specs.Layout.{Layout, base_of}
use Rattle.ck_alloc.specs.Blocks.{Allocation}
use Rattle.ck_model.specs.World.{World}
use Rattle.ck_model.specs.Table.{Table}
use Rattle.ck_model.specs.TableWorld.{world_on}
use Rattle.ck_files.specs.Allocated.{is_named, is_busy}
use Rattle.ck_data.specs.Device.{store_on}
use Rattle.ck_files.specs.Files.{IsOurs}
use Rattle.ck_engine.specs.Recovery.{Recovers}
use Rattle.ck_engine.specs.Safe.{IsSafe}

-- each image that a crash may leave has this table, which stands for that world; its data blocks are in use or pending
pub record IsCommitted (layout : Layout) (blocks : Allocation) (m : Meaning) (t : Table) (w : World) : Type 0 where
  pub ours : IsOurs t
  pub limit : t.blocks ≡ layout.blocks
  pub records : t.records ≡ layout.records
  pub busy : (block : ℕ) → is_named t block ≡ true → is_busy blocks block ≡ true
  pub safe : IsSafe layout t m
  pub world : world_on (store_on m.shows (base_of layout.records)) map.empty t ≡ w

-- a crash leaves this world and no other
pub record Keeps (layout : Layout) (blocks : Allocation) (m : Meaning) (w : World) : Type 0 where
  pub table : Table
  pub committed : IsCommitted layout blocks m table w

-- the image opens to one of two worlds
abbrev pub OpensToEither : World → World → Image → Type 0
OpensToEither a b image = Recovers image a ⊎ Recovers image b
