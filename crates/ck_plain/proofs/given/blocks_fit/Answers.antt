use Rattle.std.proofs.Common.{arith}
use Rattle.ck_plain.proofs.Bounds.{held_beside-fits}
use Rattle.ck_plain.proofs.given.blocks_fit.Goals as goal

pub overflow_add-result : goal.overflow_add-result
overflow_add-result c =
    let room = c.args.room.now in
    omega (arith, c.held_beside.ensures, held_beside-fits room.primary.now c.args.checkpoints.now c.requires room.few_cells, room.few_blocks)
