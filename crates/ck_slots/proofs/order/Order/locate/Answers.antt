use Rattle.std.proofs.Common.{◌≡◌, suc, ◌+◌, [], length, ap, ◌∙◌, inl, inr, arith}
use Rattle.std.proofs.lemmas.List.{get_or_default}
use Rattle.std.proofs.lemmas.Bool.{cases_lt}
use Rattle.ck_slots.specs.Pieces.{piece_at}
use Rattle.ck_slots.proofs.PieceLemmas.{offset-next, offset_last}
use Rattle.ck_slots.proofs.order.Order.locate.Goals as goal

pub loop-within-preserved : goal.loop-within-preserved
loop-within-preserved c =
    let ps = c.args.self.now.pieces.items in
    let piece = c.loop-within.piece in
    let long : c.len.result ≡ length (piece_at ps piece) = c.len.ensures.len ∙ ap length (c.index.ensures ∙ get_or_default ps piece c.index.result.now [] c.loop-within.invariant.there) in
    let less : c.len-within.result ≡ length (piece_at ps piece) = c.len-within.ensures.len ∙ ap length (c.index-in-loop-within.ensures ∙ get_or_default ps piece c.index-in-loop-within.result.now [] c.loop-within.invariant.there) in
    record {
      there = elim (cases_lt (suc piece) (length ps)) [
        | inl more ↦ omega (arith, more)
        | inr last ↦ absurd (omega (arith, last, long, c.loop-within-test.true, c.loop-within.invariant.is, c.loop-within.invariant.there, c.requires, offset_last ps piece (omega (arith, last, c.loop-within.invariant.there))))
      ];
      is = omega (arith, long, less, c.loop-within-test.true, c.loop-within.invariant.is, offset-next ps piece (piece + 1) (omega arith) c.loop-within.invariant.there);
    }
