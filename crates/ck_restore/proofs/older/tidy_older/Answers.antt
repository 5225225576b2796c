use Rattle.ck_restore.proofs.TidiedLemmas.{upto_next, upto_all}
use Rattle.ck_restore.proofs.older.tidy_older.Goals as goal

pub loop-fs-preserved : goal.loop-fs-preserved
loop-fs-preserved g c =
    upto_next c.args.id c.args.key.now c.loop-fs.at c.in-Some.fs (g.M.Meta.table c.args.meta.now) (g.M.Meta.table c.loop-fs.meta) (g.M.Meta.table c.tidy_live.new.meta)
    c.loop-fs.invariant c.in-Some.ensures c.tidy_live.ensures.tidied c.tidy_live.ensures.here

pub returns-clause-needed : goal.returns-clause-needed
returns-clause-needed g c =
    upto_all c.args.id c.args.key.now c.loop-fs.at (g.M.Meta.table c.args.meta.now) (g.M.Meta.table c.loop-fs.meta) (g.met.M.Meta.lawful c.loop-fs.meta)
    c.loop-fs.invariant c.in_default.ensures c.requires.others
