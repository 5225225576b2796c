use Rattle.std.proofs.Common.{◌≡◌, IsTrue}
use Rattle.ck_model.specs.TableWorld.{world_on}
use Rattle.ck_model.specs.World.{Mounts}
use Rattle.ck_tree.specs.Plan.{block_by}
use Rattle.ck_data.specs.Device.{store_on}
use Rattle.ck_files.specs.Places.{AreHeld}
use Rattle.ck_data.specs.Stored.{OnlyStores}
use Rattle.ck_data.proofs.PlaceLemmas.{IsPlacing}
use Rattle.ck_data.proofs.places.store_all.Given as goal

abbrev pub invariant-loop-at : goal.invariant-loop-at
invariant-loop-at g l = record {
  placing : IsPlacing
      (λ written. IsTrue (g.D.Disk.means l.initial.disk).tells → (mounts : Mounts)
      → AreHeld (block_by (world_on (store_on (g.D.Disk.means l.initial.disk).shows l.area.base) mounts (g.M.Meta.table l.meta)) l.call) (store_on (g.D.Disk.means l.disk).shows l.area.base) written)
      (g.M.Meta.table l.meta) l.initial.changes l.changes l.at l.blocks;
  pending : l.blocks.pending ≡ l.initial.blocks.pending;
  device : OnlyStores l.area.base l.initial.blocks (g.D.Disk.means l.initial.disk) (g.D.Disk.means l.disk);
}
