use Rattle.ck_restore.proofs.NewestLemmas.{reached_next}
use Rattle.ck_restore.proofs.newest.newest_above.Goals as goal

pub loop-fs-preserved : goal.loop-fs-preserved
loop-fs-preserved g c = reached_next (g.M.Meta.table c.args.meta.now) c.args.id c.loop-fs.at c.in-Some.fs c.loop-fs.found c.loop-fs.invariant c.in-Some.ensures.above c.in-Some.ensures.next
