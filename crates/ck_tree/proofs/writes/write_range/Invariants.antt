use Rattle.std.proofs.Common.{◌≡◌, ◌-◌, ◌++◌}
use Rattle.std.specs.List.{range_with_len}
use Rattle.ck_tree.specs.Writes.{block_writes, grown_put}
use Rattle.ck_tree.proofs.writes.write_range.Given as goal

abbrev pub invariant-loop-index : goal.invariant-loop-index
invariant-loop-index l = l.changes.items ≡ (l.fn.changes.items ++ grown_put l.node l.old l.end) ++ block_writes l.node (range_with_len l.from (l.index - l.from))
