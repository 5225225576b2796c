use Rattle.std.proofs.Common.{◌<◌, ◌+◌, [], ◌++◌, length, sym, ap, ◌∙◌, arith}
use Rattle.std.proofs.lemmas.List.{get_or_default}
use Rattle.ck_slots.specs.Pieces.{piece_at}
use Rattle.ck_slots.proofs.PieceLemmas.{concat-next}
use Rattle.ck_slots.proofs.order.Order.flat.Goals as goal

pub loop-at-preserved : goal.loop-at-preserved
loop-at-preserved c =
    let ps = c.args.self.now.pieces.items in
    let at = c.loop-at.at in
    let within : at < length ps = omega (arith, c.loop-at-test.true, c.len-at-end.ensures) in
    c.in_ok-extend_from_slice.ensures.items
    ∙ ap (λ ns. c.loop-at.flat.items ++ ns) (c.as_slice.ensures ∙ c.index.ensures ∙ get_or_default ps at c.index.result.now [] within)
    ∙ ap (λ ns. ns ++ piece_at ps at) c.loop-at.invariant
    ∙ sym (concat-next ps at (at + 1) (omega arith) within)
