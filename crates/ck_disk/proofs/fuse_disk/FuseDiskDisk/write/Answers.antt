use Rattle.std.proofs.Common.{arith}
use Rattle.ck_disk.proofs.MomentLaws.{set_same}
use Rattle.ck_disk.proofs.LostWrites.{lost_crash, lost_marks, lost_counts, lost_step}
use Rattle.ck_disk.proofs.fuse_disk.FuseDiskDisk.write.Goals as goal

pub returns-then-self-eq0-clause-others : goal.returns-then-self-eq0-clause-others
returns-then-self-eq0-clause-others g c = λ told. set_same _ _

pub returns-then-self-eq0-clause-crash : goal.returns-then-self-eq0-clause-crash
returns-then-self-eq0-clause-crash g c = lost_crash (g.D.Disk.means c.args.self.now.inner) _ _ c.args.at c.more.ensures

pub returns-then-self-eq0-clause-marks : goal.returns-then-self-eq0-clause-marks
returns-then-self-eq0-clause-marks g c = lost_marks (g.D.Disk.means c.args.self.now.inner) _ _ c.args.at c.more.ensures

pub returns-then-self-eq0-clause-step : goal.returns-then-self-eq0-clause-step
returns-then-self-eq0-clause-step g c = lost_step _ _ _ c.args.at c.more.ensures (g.met.D.Disk.lawful c.args.self.now.inner) _ _ _ (omega arith)

pub returns-then-self-eq0-clause-lost : goal.returns-then-self-eq0-clause-lost
returns-then-self-eq0-clause-lost g c = λ spent. lost_counts (g.D.Disk.means c.args.self.now.inner) _ _ c.args.at c.more.ensures
