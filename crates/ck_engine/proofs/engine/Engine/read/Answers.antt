use Rattle.std.proofs.Common.{refl}
use Rattle.ck_engine.proofs.AttemptLemmas.{reads-attempt, reads-goes, goes_all}
use Rattle.ck_engine.proofs.engine.Engine.read.Goals as goal

pub returns-clause-attempt : goal.returns-clause-attempt
returns-clause-attempt g c = reads-attempt (g.D.Disk.means c.args.self.now.disk) (g.D.Disk.means c.read.new.disk) c.args.self.now _ (g.met.D.Disk.lawful c.args.self.now.disk) c.read.ensures.device

pub returns-clause-goes_on : goal.returns-clause-goes_on
returns-clause-goes_on g c =
    let after = record c.args.self.now { disk = c.read.new.disk } in
    goes_all 0 _ _ c.args.self.now after c.read.result (reads-goes (g.D.Disk.means c.args.self.now.disk) (g.D.Disk.means c.read.new.disk) c.args.self.now after c.requires.whole c.read.ensures.device refl refl refl refl)
