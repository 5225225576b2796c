use Rattle.ck_recovered.proofs.OpenedLemmas.{crashes_open_lem, reads_open_lem}
use Rattle.ck_recovered.proofs.laws.every_device_has_blocks.Goals as goal

pub returns-clause-crashes : goal.returns-clause-crashes
returns-clause-crashes g c = crashes_open_lem (g.D.Disk.means c.args.disk.now) (g.met.D.Disk.lawful c.args.disk.now)

pub returns-clause-reads : goal.returns-clause-reads
returns-clause-reads g c = reads_open_lem (g.D.Disk.means c.args.disk.now) (g.met.D.Disk.lawful c.args.disk.now)
