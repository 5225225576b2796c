use Rattle.std.proofs.Common.{ap, ◌∙◌, length, arith}
use Rattle.ck_slots.proofs.PieceLemmas.{crowded-join, few_pieces}
use Rattle.ck_slots.proofs.order.Order.join_all.Goals as goal

pub loop-at-preserved-then-len-le512 : goal.loop-at-preserved-then-len-le512
loop-at-preserved-then-len-le512 c = record {
  crowded = crowded-join c.loop-at.self.pieces.items c.join.new.self.pieces.items c.loop-at.at c.join.ensures.before c.join.ensures.joined c.loop-at.invariant.crowded;
  within = omega (arith, c.join.ensures.len, c.loop-at-test.true, c.len.ensures);
  numbers = c.join.ensures.numbers ∙ c.loop-at.invariant.numbers;
  limit = c.join.ensures.limit ∙ c.loop-at.invariant.limit;
}

pub returns-clause-spare : goal.returns-clause-spare
returns-clause-spare c =
    let o = c.loop-at.self in
    let few = few_pieces o.pieces.items (λ k within. c.loop-at.invariant.crowded k (omega (arith, within, c.loop-at-test.false, c.len.ensures))) in
    omega (arith, few, o.enough, c.requires, ap length c.loop-at.invariant.numbers, c.loop-at.invariant.limit)
