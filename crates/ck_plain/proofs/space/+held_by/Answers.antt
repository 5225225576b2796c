use Rattle.std.proofs.Common.{◌-◌, ◌≤◌, ◌<◌, ◌^◌, length, take, drop, arith}
use Rattle.ck_plain.proofs.Bounds.{own_block_count-le, held_by-fits, length_newer}
use Rattle.ck_plain.proofs.space.+held_by.Goals as goal
use Rattle.ck_plain.proofs.space.+held_by.Goals.{then-keeps, else-keeps}

pub overflow_add-result : goal.overflow_add-result
overflow_add-result t c =
    let own : c.if-keeps.own ≤ 2147483648 =
    elim c.if-keeps.branch [
      | then-keeps w ↦ omega (arith, w.own-is, w.own_block_count.ensures, own_block_count-le c.checkpoint-item.result.cells w.next_cells.result.now, c.checkpoint-item.result.few_cells)
      | else-keeps w ↦ omega (arith, w.own-is)
    ] in
    let all = c.args.checkpoints.now in
    let newer = take (length all - 1) (drop 1 all) in
    let few : length newer < 2 ^ 31 = omega (arith, length_newer all, c.requires) in
    omega (arith, own, c.held_by.ensures, held_by-fits c.if-older.keeps c.args.primary.now newer few)
