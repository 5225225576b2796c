use Rattle.std.proofs.Common.{ap, arith}
use Rattle.std.specs.FinMap as map
use Rattle.ck_model.specs.Cells.{Cells}
use Rattle.ck_model.proofs.MarkLaws.{len-marked}
use Rattle.ck_plain.proofs.frozen.set_nodata.Goals as goal

pub invariant_of-checkpoint : goal.invariant_of-checkpoint
invariant_of-checkpoint c = record {
  few_cells = omega (arith, ap (λ (cells : Cells). map.len cells) c.mark.ensures, len-marked c.args.checkpoint.now.cells, c.args.checkpoint.now.few_cells);
}
