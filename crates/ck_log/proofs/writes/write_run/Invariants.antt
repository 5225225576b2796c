use Rattle.std.proofs.Common.{◌≡◌, ◌+◌, length, take, IsTrue}
use Rattle.ck_disk.specs.Disk.{LeavesOnly, Reaches, Outside, Agrees}
use Rattle.ck_log.specs.Images.{part}
use Rattle.ck_log.proofs.writes.write_run.Given as goal

abbrev pub invariant-loop-block : goal.invariant-loop-block
invariant-loop-block g l = record {
  place : l.place ≡ l.at + l.block-index;
  any_moment : LeavesOnly (g.D.Disk.means l.fn.disk) (g.D.Disk.means l.disk) (Reaches (Outside l.at (length l.blocks)) (g.D.Disk.means l.fn.disk).may_leave);
  written : IsTrue (g.D.Disk.means l.fn.disk).tells → part l.at l.block-index (g.D.Disk.means l.disk).shows ≡ take l.block-index l.blocks;
  others : IsTrue (g.D.Disk.means l.fn.disk).tells → Agrees (Outside l.at (length l.blocks)) (g.D.Disk.means l.fn.disk).shows (g.D.Disk.means l.disk).shows;
}
