use Rattle.std.proofs.Common.{◌≡◌, map as list_map}
use Rattle.std.specs.List.{range_with_len}
use Rattle.ck_model.specs.Changes.{byte_after}
use Rattle.ck_plain.proofs.blocks.block_after.Given as goal

abbrev pub invariant-loop-place : goal.invariant-loop-place
invariant-loop-place l = l.block.items ≡ list_map (byte_after l.cells l.node l.at l.bytes l.index) (range_with_len 0 l.place)
