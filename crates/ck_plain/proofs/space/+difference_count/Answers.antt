use Rattle.std.proofs.Common.{◌-◌, ◌<◌, ◌^◌, length, take, drop, ap, arith}
use Rattle.std.specs.FinMap as map
use Rattle.ck_model.specs.Cells.{Cells}
use Rattle.ck_model.proofs.DifferenceLaws.{len-differences-le}
use Rattle.ck_plain.proofs.Bounds.{difference_count-fits, len-next_cells, length_newer}
use Rattle.ck_plain.proofs.space.+difference_count.Goals as goal

pub overflow_add-result : goal.overflow_add-result
overflow_add-result t c =
    let all = c.args.checkpoints.now in
    let primary = c.args.primary.now in
    let newer = take (length all - 1) (drop 1 all) in
    let few : length newer < 2 ^ 31 = omega (arith, length_newer all, c.requires.few) in
    omega (arith, c.difference_count-own.ensures, len-differences-le c.checkpoint-item.result.cells c.next_cells.result.now, c.checkpoint-item.result.few_cells, ap (λ (cells : Cells). map.len cells) c.next_cells.ensures, len-next_cells primary newer c.requires.cells, c.difference_count.ensures, difference_count-fits primary newer few c.requires.cells)
