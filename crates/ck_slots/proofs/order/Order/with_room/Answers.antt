use Rattle.std.proofs.Common.{◌+◌, arith}
use Rattle.ck_slots.proofs.PieceLemmas.{offset-next}
use Rattle.ck_slots.proofs.order.Order.with_room.Goals as goal

pub returns-clause-index : goal.returns-clause-index
returns-clause-index c =
    let place = c.args.place in
    omega (arith, c.if-place-le256.false, c.split.ensures.before, c.split.ensures.half, offset-next c.split.new.self.pieces.items place.piece (place.piece + 1) (omega arith) (omega (arith, c.split.ensures.len)))
