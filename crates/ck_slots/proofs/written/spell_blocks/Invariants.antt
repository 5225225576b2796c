use Rattle.std.proofs.Common.{◌≡◌, ◌≤◌, vec_len, vec_capacity}
use Rattle.ck_slots.specs.Slots.{table_in}
use Rattle.ck_slots.specs.Written.{AreSpelled}
use Rattle.ck_slots.proofs.written.spell_blocks.Given as goal

abbrev pub invariant-loop-at : goal.invariant-loop-at
invariant-loop-at l = record {
  spelled : AreSpelled (table_in l.table) l.blocks.items;
  count : vec_len l.blocks ≡ l.at;
  capacity : l.count ≤ vec_capacity l.blocks;
}
