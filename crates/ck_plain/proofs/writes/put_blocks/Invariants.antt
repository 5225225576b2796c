use Rattle.std.proofs.Common.{◌≡◌, ◌≤◌, ◌-◌}
use Rattle.std.specs.List.{range_with_len}
use Rattle.ck_model.specs.Cells.{with_cells}
use Rattle.ck_plain.specs.Blocks.{blocks_after}
use Rattle.ck_plain.proofs.writes.put_blocks.Given as goal

abbrev pub invariant-loop-index : goal.invariant-loop-index
invariant-loop-index l = record {
  above : l.first ≤ l.index;
  put : l.next ≡ with_cells l.initial.next (blocks_after l.old l.stamp l.node l.at l.bytes (range_with_len l.index (l.end - l.index)));
}
