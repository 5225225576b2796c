use Rattle.std.proofs.Common.{◌≡◌, refl}
use Rattle.ck_model.specs.World.{unmounted}
use Rattle.ck_engine.specs.Engine.{blocks_of, layout_of, table_of, world_of}
use Rattle.ck_engine.proofs.KeptLaws.{committed-exact}
use Rattle.ck_engine.proofs.AttemptLemmas.{commit-attempt, commit-committed, commit-goes, commit-table}
use Rattle.ck_engine.proofs.engine.Engine.commit.Goals as goal

pub returns-in-Ok-clause-attempt : goal.returns-in-Ok-clause-attempt
returns-in-Ok-clause-attempt g c =
    commit-attempt (g.D.Disk.means c.args.self.now.disk) (g.D.Disk.means c.commit.new.disk) c.args.self.now _ (g.met.D.Disk.lawful c.args.self.now.disk) c.requires.whole _ c.commit.ensures.commits

pub returns-in-Ok-clause-goes_on : goal.returns-in-Ok-clause-goes_on
returns-in-Ok-clause-goes_on g c =
    let e = c.in-Ok.ensures in
    commit-goes (g.D.Disk.means c.args.self.now.disk) (g.D.Disk.means c.commit.new.disk) c.args.self.now _ (g.met.D.Disk.lawful c.args.self.now.disk) c.requires.whole _ e.commits
    (g.met.D.Disk.lawful c.commit.new.disk) e.region refl refl e.settled e.synced e.commits.at_the_end e.others c.settle.ensures.free c.settle.ensures.partition refl

pub returns-in-Ok-clause-committed : goal.returns-in-Ok-clause-committed
returns-in-Ok-clause-committed g c =
    let e = c.in-Ok.ensures in
    commit-committed (g.D.Disk.means c.args.self.now.disk) (g.D.Disk.means c.commit.new.disk) c.args.self.now
    (record c.args.self.now { region = c.commit.new.region; blocks = c.settle.new.self; disk = c.commit.new.disk }) (g.met.D.Disk.lawful c.args.self.now.disk) c.requires.whole _ e.commits
    (g.met.D.Disk.lawful c.commit.new.disk) e.region refl refl e.settled e.synced e.commits.at_the_end e.others c.settle.ensures.free c.settle.ensures.partition refl

pub returns-in-Err-WriteFault-clause-attempt : goal.returns-in-Err-WriteFault-clause-attempt
returns-in-Err-WriteFault-clause-attempt g c =
    commit-attempt (g.D.Disk.means c.args.self.now.disk) (g.D.Disk.means c.commit.new.disk) c.args.self.now _ (g.met.D.Disk.lawful c.args.self.now.disk) c.requires.whole _ c.commit.ensures.commits

pub returns-in-Err-NoMemory-clause-attempt : goal.returns-in-Err-NoMemory-clause-attempt
returns-in-Err-NoMemory-clause-attempt g c =
    commit-attempt (g.D.Disk.means c.args.self.now.disk) (g.D.Disk.means c.commit.new.disk) c.args.self.now _ (g.met.D.Disk.lawful c.args.self.now.disk) c.requires.whole _ c.commit.ensures.commits

pub returns-in-Ok-clause-exact : goal.returns-in-Ok-clause-exact
returns-in-Ok-clause-exact g c = λ drained told w keeps image left.
    let e = c.in-Ok.ensures in
    let new = g.D.Disk.means c.commit.new.disk in
    let after = record c.args.self.now { region = c.commit.new.region; blocks = c.settle.new.self; disk = c.commit.new.disk } in
    committed-exact (layout_of after) (blocks_of after) new (table_of c.args.self.now) (unmounted (world_of new.shows after))
    (commit-table (g.D.Disk.means c.args.self.now.disk) new c.args.self.now after (g.met.D.Disk.lawful c.args.self.now.disk) c.requires.whole _ e.commits
    (g.met.D.Disk.lawful c.commit.new.disk) e.region refl refl e.settled e.synced e.commits.at_the_end e.others c.settle.ensures.free c.settle.ensures.partition refl told w keeps)
    drained image left

pub returns-in-Err-NoMemory-clause-no_memory : goal.returns-in-Err-NoMemory-clause-no_memory
returns-in-Err-NoMemory-clause-no_memory g c = λ is.
    let region : c.commit.new.region ≡ c.args.self.now.region = c.in-Err-NoMemory.ensures.kept in
    let disk : c.commit.new.disk ≡ c.args.self.now.disk = c.in-Err-NoMemory.ensures.same_disk c.in-Err-NoMemory.field-0-is in
    (λ i. record c.args.self.now { region = region i; disk = disk i })
