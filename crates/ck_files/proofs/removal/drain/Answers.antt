use Rattle.ck_files.proofs.AlikeLemmas.{alike_both}
use Rattle.ck_files.proofs.removal.drain.Goals as goal

pub loop-preserved : goal.loop-preserved
loop-preserved g c = record {
  alike = alike_both (g.M.Meta.table c.args.meta.now) (g.M.Meta.table c.loop.meta) (g.M.Meta.table c.step.new.meta) c.loop.invariant.alike c.step.ensures.alike;
  ours = c.step.ensures.ours;
  allocated = c.step.ensures.allocated;
  busy = λ block busy. c.step.ensures.busy block (c.loop.invariant.busy block busy);
  stripped = c.step.ensures.stripped;
}

pub returns-clause-alike : goal.returns-clause-alike
returns-clause-alike g c = alike_both (g.M.Meta.table c.args.meta.now) (g.M.Meta.table c.loop.meta) (g.M.Meta.table c.step.new.meta) c.loop.invariant.alike c.step.ensures.alike
