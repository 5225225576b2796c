use Rattle.std.proofs.Common.{◌≡◌, ◌<◌, ◌-◌, vec_len}
use Rattle.ck_slots.specs.Order.{numbers_in}
use Rattle.ck_slots.proofs.PieceLemmas.{AreCrowded}
use Rattle.ck_slots.proofs.order.Order.join_all.Given as goal

abbrev pub invariant-loop-at : goal.invariant-loop-at
invariant-loop-at l = record {
  crowded : AreCrowded l.self.pieces.items l.at;
  within : l.at < vec_len l.self.pieces;
  numbers : numbers_in l.self ≡ numbers_in l.fn.self;
  limit : l.self.limit ≡ l.fn.self.limit;
}

abbrev pub decreases-loop-at : goal.decreases-loop-at
decreases-loop-at l = vec_len l.self.pieces - l.at
