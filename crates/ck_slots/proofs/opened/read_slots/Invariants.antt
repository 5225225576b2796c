use Rattle.std.proofs.Common.{◌≡◌, length, take, IsTrue}
use Rattle.ck_disk.specs.Runs.{OnlyReads}
use Rattle.ck_log.specs.Images.{area_of}
use Rattle.ck_area.specs.Area.{Blocks, AreSlots}
use Rattle.ck_slots.proofs.opened.read_slots.Given as goal

abbrev pub invariant-loop-at : goal.invariant-loop-at
invariant-loop-at g l = record {
  read : (blocks : Blocks) × (length blocks ≡ l.at) × AreSlots blocks l.area.items
      × (IsTrue (g.D.Disk.means l.initial.disk).tells → blocks ≡ take l.at (area_of l.region (g.D.Disk.means l.initial.disk).shows));
  device : OnlyReads (g.D.Disk.means l.initial.disk) (g.D.Disk.means l.disk);
}
