use Rattle.std.proofs.Common.{◌≡◌, nat_lt, if◌then◌else◌, slice_index, map as list_map, ap, ◌∙◌, arith}
use Rattle.std.specs.List.{range_with_len}
use Rattle.ck_model.specs.Contents.{block_byte}
use Rattle.ck_model.specs.Changes.{cut_block}
use Rattle.ck_plain.proofs.Pushed.{pushed_range}
use Rattle.ck_plain.proofs.blocks.cut_block.Goals as goal

pub loop-place-preserved : goal.loop-place-preserved
loop-place-preserved c =
    let place = c.loop-place.place in
    let kept = c.args.kept in
    pushed_range (λ at. if nat_lt at kept then block_byte c.args.cells.now c.args.node c.args.index at else 0) 0 place place _ _ _
    c.loop-place.invariant (omega arith) c.in_ok-push.ensures.items
    (c.kept_byte.ensures ∙ ap (λ old. if nat_lt place kept then slice_index old place else 0) c.bytes_of-old.ensures)

pub returns : goal.returns
unfolding cut_block
returns c =
    let all : c.loop-place.place ≡ 4096 = omega arith in
    c.loop-place.invariant
    ∙ ap (λ n. list_map (λ at. if nat_lt at c.args.kept then block_byte c.args.cells.now c.args.node c.args.index at else 0) (range_with_len 0 n)) all
