use Rattle.ck_engine.proofs.AttemptLemmas.{quiet-attempt, settled_free, on_ok_map}
use Rattle.ck_engine.specs.Engine.{table_of, blocks_of}
use Rattle.ck_engine.proofs.engine.Engine.free_blocks.Goals as goal

pub returns-then-free-count-clause-attempt : goal.returns-then-free-count-clause-attempt
returns-then-free-count-clause-attempt g c = quiet-attempt 0 (g.D.Disk.means c.args.self.now.disk) c.args.self.now c.args.self.now (g.met.D.Disk.lawful c.args.self.now.disk)

pub returns-clause-free : goal.returns-clause-free
returns-clause-free g c =
    let files = c.requires.whole.files in
    on_ok_map _ _ c.commit.result
    (settled_free (table_of c.args.self.now) (blocks_of c.args.self.now) (blocks_of c.commit.new.self) c.args.count files.ours files.allocated c.requires.room)
    c.commit.ensures.settled
