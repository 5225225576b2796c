use Rattle.std.proofs.Common.{◌≡◌, map as list_map, nat_lt, if◌then◌else◌}
use Rattle.std.specs.List.{range_with_len}
use Rattle.ck_model.specs.Contents.{block_byte}
use Rattle.ck_plain.proofs.blocks.cut_block.Given as goal

abbrev pub invariant-loop-place : goal.invariant-loop-place
invariant-loop-place l =
    l.block.items ≡ list_map (λ place. if nat_lt place l.kept then block_byte l.cells l.node l.index place else 0) (range_with_len 0 l.place)
