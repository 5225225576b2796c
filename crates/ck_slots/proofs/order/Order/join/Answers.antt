use Rattle.std.proofs.Common.{◌+◌, sym, ap, subst, ◌∙◌, arith}
use Rattle.std.specs.List.{concat}
use Rattle.ck_slots.specs.Pieces.{AreFilled}
use Rattle.ck_slots.proofs.PieceLemmas.{joined_is, concat-join, filled-join}
use Rattle.ck_slots.proofs.order.Order.join.Goals as goal

pub invariant_of-self-clause-filled : goal.invariant_of-self-clause-filled
invariant_of-self-clause-filled c =
    let ps = c.args.self.now.pieces.items in
    let at = c.args.at in
    let is = joined_is ps c.remove-next.new.self.items at (at + 1) c.index_mut.result.now c.remove-next.result c.append.new.self (omega arith) (omega (arith, c.requires.within)) c.remove-next.ensures.items c.index_mut.ensures.value c.remove-next.ensures.value c.append.ensures in
    subst (λ qs. AreFilled qs) (sym is) (filled-join ps at (at + 1) (omega arith) (omega (arith, c.requires.within)) c.args.self.now.filled)

pub returns-clause-numbers : goal.returns-clause-numbers
returns-clause-numbers c =
    let ps = c.args.self.now.pieces.items in
    let at = c.args.at in
    let is = joined_is ps c.remove-next.new.self.items at (at + 1) c.index_mut.result.now c.remove-next.result c.append.new.self (omega arith) (omega (arith, c.requires.within)) c.remove-next.ensures.items c.index_mut.ensures.value c.remove-next.ensures.value c.append.ensures in
    ap concat is ∙ concat-join ps at (at + 1) (omega arith) (omega (arith, c.requires.within))
