use Rattle.std.proofs.Common.{ap, arith, rules}
use Rattle.std.specs.FinMap as map
use Rattle.ck_model.specs.declared.key.Key.TheVariants.{Node}
use Rattle.ck_model.specs.declared.cell.Cell.{Cell}
use Rattle.ck_model.specs.declared.cell.Payload.TheVariants.{Dir}
use Rattle.ck_model.specs.Key.{key_cmp, key_cmp_total, key_cmp_exact}
use Rattle.ck_model.specs.Cells.{Cells}
use Rattle.ck_model.specs.Changes.{cell_of}
use Rattle.ck_model.proofs.SizeLaws.{len-insert-le}
use Rattle.ck_plain.proofs.world.Plain.new.Goals as goal

pub invariant_of-result : goal.invariant_of-result
invariant_of-result c = record {
  few_records = c.requires.records;
  few_live = c.requires.checkpoints;
  few_cells = omega (
    arith,
    ap (λ (cells : Cells). map.len cells) c.in_ok-put.ensures.ok,
    len-insert-le key_cmp_total key_cmp_exact c.new-primary.result (Node 0) (cell_of 0 Dir),
    ap (λ (cells : Cells). map.len cells) c.new-primary.ensures,
    map.len-empty key_cmp Cell,
  );
  within_limit = search rules;
  stamps = omega arith;
}
