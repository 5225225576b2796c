use Rattle.std.proofs.Common.{arith}
use Rattle.ck_restore.proofs.EntriesLemmas.{few_entries}
use Rattle.ck_restore.proofs.size.entry_count.Goals as goal

pub overflow_add-count : goal.overflow_add-count
overflow_add-count g c =
    let few = few_entries (g.M.Meta.table c.args.meta.now) c.args.fs (g.met.M.Meta.sized c.args.meta.now) in
    omega (arith, few, c.loop-key.invariant)
