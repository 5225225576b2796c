use Rattle.std.proofs.Common.{◌≡◌, ◌<◌, ◌+◌, ◌-◌, length, vec_len}
use Rattle.ck_slots.specs.Pieces.{offset}
use Rattle.ck_slots.proofs.order.Order.locate.Given as goal

abbrev pub invariant-loop-within : goal.invariant-loop-within
invariant-loop-within l = record {
  there : l.piece < length l.self.pieces.items;
  is : offset l.self.pieces.items l.piece + l.within ≡ l.index;
}

abbrev pub decreases-loop-within : goal.decreases-loop-within
decreases-loop-within l = vec_len l.self.pieces - l.piece
