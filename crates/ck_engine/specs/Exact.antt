-- An image that has a world, and nothing beside it.
use Rattle.std.specs.Prelude.{◌≡◌}
use Rattle.std.specs.FinMap as map
use Rattle.ck_disk.specs.Disk.{Image}
use Rattle.ck_log.specs.Layout.{Layout, base_of}
use Rattle.ck_model.specs.Placed.{NoneGone}
use Rattle.ck_model.specs.World.{World}
use Rattle.ck_model.specs.Space.{held, records_in}
use Rattle.ck_model.specs.TableWorld.{world_on, extent_count}
use Rattle.ck_model.specs.Table.{Table, record_count}
use Rattle.ck_data.specs.Device.{store_on}
use Rattle.ck_engine.specs.Safe.{HoldsTable}

-- Its table stands for the world without mounts, with as many records and data blocks as the model counts, and no
-- checkpoint in it is gone.
pub record IsExact (w : World) (image : Image) : Type 0 where
  pub layout : Layout
  pub table : Table
  pub holds : HoldsTable layout table image
  pub world : world_on (store_on image (base_of layout.records)) map.empty table ≡ w
  pub records : record_count table ≡ records_in w
  pub blocks : extent_count table ≡ held w
  pub standing : NoneGone table
