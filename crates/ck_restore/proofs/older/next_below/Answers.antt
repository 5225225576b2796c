use Rattle.ck_restore.proofs.NewestLemmas.{below_some, below_past, below_none}
use Rattle.ck_restore.proofs.older.next_below.Goals as goal

pub returns-in_err-fs : goal.returns-in_err-fs
returns-in_err-fs g c = rw c.from_residual.ensures (below_none (g.M.Meta.table c.args.meta.now) c.args.at c.args.id c.in_err-fs.ensures.next)

pub returns-then-fs-id : goal.returns-then-fs-id
returns-then-fs-id g c = below_some (g.M.Meta.table c.args.meta.now) c.args.at c.args.id c.in_ok-fs.fs c.in_ok-fs.ensures.above c.if-fs-id.true c.in_ok-fs.ensures.next

pub returns-else-fs-id : goal.returns-else-fs-id
returns-else-fs-id g c = below_past (g.M.Meta.table c.args.meta.now) c.args.at c.args.id c.in_ok-fs.fs c.if-fs-id.false c.in_ok-fs.ensures.next
