use Rattle.std.proofs.Common.{◌≡◌, ◌+◌, ◌-◌, map as list_map, ap, ◌∙◌, arith}
use Rattle.std.specs.List.{range_with_len}
use Rattle.ck_model.specs.Contents.{file_byte}
use Rattle.ck_plain.proofs.Pushed.{pushed_range}
use Rattle.ck_plain.proofs.reads.file_range.Goals as goal

pub loop-place-preserved : goal.loop-place-preserved
loop-place-preserved c =
    let byte = file_byte c.args.cells.now c.args.node in
    let at = c.args.at in
    let place = c.loop-place.place in
    let count : place - at + 1 ≡ place + 1 - at = omega arith in
    pushed_range byte at (place - at) place _ _ _ c.loop-place.invariant (omega arith) c.in_ok-push.ensures.items c.file_byte.ensures
    ∙ ap (λ n. list_map byte (range_with_len at n)) count
