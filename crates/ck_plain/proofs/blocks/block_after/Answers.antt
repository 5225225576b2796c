use Rattle.std.proofs.Common.{◌≡◌, map as list_map, ap, ◌∙◌, arith}
use Rattle.std.specs.List.{range_with_len}
use Rattle.ck_model.specs.Changes.{byte_after, block_after}
use Rattle.ck_plain.proofs.Pushed.{pushed_range}
use Rattle.ck_plain.proofs.blocks.block_after.Goals as goal

pub loop-place-preserved : goal.loop-place-preserved
loop-place-preserved c =
    pushed_range (byte_after c.args.cells.now c.args.node c.args.at c.args.bytes.now c.args.index) 0 c.loop-place.place c.loop-place.place _ _ _
    c.loop-place.invariant (omega arith) c.in_ok-push.ensures.items c.byte_after.ensures

pub returns : goal.returns
unfolding block_after
returns c =
    let byte = byte_after c.args.cells.now c.args.node c.args.at c.args.bytes.now c.args.index in
    let all : c.loop-place.place ≡ 4096 = omega arith in
    c.loop-place.invariant ∙ ap (λ n. list_map byte (range_with_len 0 n)) all
