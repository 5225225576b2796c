use Rattle.std.proofs.Common.{arith}
use Rattle.ck_restore.proofs.EntriesLemmas.{entries_from-split, entries_above-next, entries_above-none, few_from}
use Rattle.ck_restore.proofs.size.restore_size.Goals as goal

pub loop-fs-init : goal.loop-fs-init
loop-fs-init g c =
    let split = entries_from-split (g.M.Meta.table c.args.meta.now) c.args.id in
    omega (arith, split, c.entry_count-count.ensures)

pub overflow_add-count : goal.overflow_add-count
overflow_add-count g c =
    let t = g.M.Meta.table c.args.meta.now in
    let few = few_from t c.args.id (g.met.M.Meta.sized c.args.meta.now) in
    let next = entries_above-next t c.loop-fs.at c.in-Some.fs c.requires c.in-Some.ensures.above c.in-Some.ensures.next in
    omega (arith, few, next, c.loop-fs.invariant, c.entry_count-count-in-Some.ensures)

pub loop-fs-preserved : goal.loop-fs-preserved
loop-fs-preserved g c =
    let t = g.M.Meta.table c.args.meta.now in
    let next = entries_above-next t c.loop-fs.at c.in-Some.fs c.requires c.in-Some.ensures.above c.in-Some.ensures.next in
    omega (arith, next, c.loop-fs.invariant, c.entry_count-count-in-Some.ensures)

pub returns : goal.returns
returns g c =
    let none = entries_above-none (g.M.Meta.table c.args.meta.now) c.loop-fs.at c.requires c.in_default.ensures.next in
    omega (arith, none, c.loop-fs.invariant)
