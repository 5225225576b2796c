use Rattle.std.proofs.Common.{arith}
use Rattle.ck_plain.proofs.Bounds.{difference_count-fits}
use Rattle.ck_plain.proofs.space.records_beside.Goals as goal

pub overflow_add-result : goal.overflow_add-result
overflow_add-result c = omega (arith, c.len.ensures, c.difference_count.ensures, difference_count-fits c.args.primary.now c.args.checkpoints.now c.requires.few c.requires.cells)

pub overflow_add-result-2 : goal.overflow_add-result-2
overflow_add-result-2 c = omega (arith, c.len.ensures, c.difference_count.ensures, difference_count-fits c.args.primary.now c.args.checkpoints.now c.requires.few c.requires.cells)
