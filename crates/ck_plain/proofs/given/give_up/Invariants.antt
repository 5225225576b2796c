use Rattle.std.proofs.Common.{◌≡◌, ℕ, ◌+◌, ◌-◌, ◌≤◌, vec_len, vec_capacity, map as list_map}
use Rattle.ck_plain.specs.Plain.{checkpoint_of}
use Rattle.ck_plain.specs.Room.{ask_of, picks_for, left_of}
use Rattle.ck_plain.proofs.given.give_up.Given as goal

abbrev pub invariant-loop-given : goal.invariant-loop-given
invariant-loop-given l = record {
  fewer : vec_len l.checkpoints ≤ vec_len l.initial.checkpoints;
  capacity : vec_capacity l.checkpoints ≡ vec_capacity l.initial.checkpoints;
  given : picks_for l.most (ask_of l.room) (list_map checkpoint_of l.initial.checkpoints.items) ≡ l.given + picks_for (l.most - l.given) (ask_of l.room) (list_map checkpoint_of l.checkpoints.items);
  left : (k : ℕ) → left_of (l.given + k) (list_map checkpoint_of l.initial.checkpoints.items) ≡ left_of k (list_map checkpoint_of l.checkpoints.items);
}
