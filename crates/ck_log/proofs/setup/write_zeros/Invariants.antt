use Rattle.std.proofs.Common.{◌≡◌, take, replicate, IsTrue}
use Rattle.ck_disk.specs.Disk.{LeavesOnly, Reaches, Outside, Agrees}
use Rattle.ck_log.specs.Images.{part}
use Rattle.ck_log.specs.FirstTable.{blank_block}
use Rattle.ck_log.proofs.setup.write_zeros.Given as goal

abbrev pub invariant-loop-k : goal.invariant-loop-k
invariant-loop-k g l = record {
  any_moment : LeavesOnly (g.D.Disk.means l.fn.disk) (g.D.Disk.means l.disk) (Reaches (Outside l.at l.count) (g.D.Disk.means l.fn.disk).may_leave);
  written : IsTrue (g.D.Disk.means l.fn.disk).tells → part l.at l.k (g.D.Disk.means l.disk).shows ≡ take l.k (replicate l.count blank_block);
  others : IsTrue (g.D.Disk.means l.fn.disk).tells → Agrees (Outside l.at l.count) (g.D.Disk.means l.fn.disk).shows (g.D.Disk.means l.disk).shows;
}
