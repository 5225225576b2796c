use Rattle.std.proofs.Common.{false, arith}
use Rattle.ck_model.specs.Key.{is_block, key_cmp_total, key_cmp_exact}
use Rattle.ck_model.proofs.SizeLaws.{len-retain_keys-le}
use Rattle.ck_plain.proofs.Bounds.{held_by-fits}
use Rattle.ck_plain.proofs.space.held_beside.Goals as goal

pub overflow_add-result : goal.overflow_add-result
overflow_add-result c =
    omega (arith, c.block_count.ensures, len-retain_keys-le key_cmp_total key_cmp_exact c.args.primary.now is_block, c.held_by.ensures, held_by-fits false c.args.primary.now c.args.checkpoints.now c.requires.few)
