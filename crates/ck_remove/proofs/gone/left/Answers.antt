use Rattle.std.proofs.Common.{Bool, ◌+◌, if◌then◌else◌, sym, ap, ◌∙◌, arith}
use Rattle.ck_remove.specs.Gone.{entry_count, left_in}
use Rattle.ck_remove.proofs.LeftLemmas.{few_entries, few_left}
use Rattle.ck_remove.proofs.gone.left.Goals as goal

pub overflow_add-count : goal.overflow_add-count
overflow_add-count g c =
    let few = few_entries (g.M.Meta.table c.args.meta.now) c.in-Some.id (g.met.M.Meta.sized c.args.meta.now) in
    omega (arith, few, c.entry_count.ensures)

pub overflow_add-count-then-is_gone : goal.overflow_add-count-then-is_gone
overflow_add-count-then-is_gone g c =
    let t = g.M.Meta.table c.args.meta.now in
    let few = few_left t (g.met.M.Meta.sized c.args.meta.now) in
    let rest = ap (left_in t) c.in-Some.ensures.next in
    let here = ap (λ (b : Bool). if b then 1 + entry_count t c.in-Some.id else 0) (sym c.is_gone.ensures ∙ c.if-is_gone.true) in
    omega (arith, few, c.loop-id.invariant, rest, here, c.entry_count.ensures)
