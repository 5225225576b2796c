use Rattle.std.proofs.Common.{◌≡◌, ◌+◌, ◌≤◌, vec_len, vec_capacity}
use Rattle.ck_slots.proofs.order.new_pieces.Given as goal

abbrev pub invariant-loop : goal.invariant-loop
invariant-loop l = record {
  count : vec_len l.pieces ≡ l.counter;
  room : l.count + 1 ≤ vec_capacity l.pieces;
}
