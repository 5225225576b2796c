use Rattle.std.proofs.Common.{Some, sym, ap, ◌∙◌}
use Rattle.ck_model.specs.declared.key.Key.{Key}
use Rattle.ck_model.specs.declared.cell.Cell.{Cell}
use Rattle.ck_model.specs.Key.{key_cmp_total, key_cmp_exact}
use Rattle.ck_model.proofs.PlaceLaws.{get_found, get_gap}
use Rattle.ck_plain.proofs.cells.look.Goals as goal

pub returns-in-Ok : goal.returns-in-Ok
returns-in-Ok c = ap (λ (e : Key × Cell). Some e.1) (sym c.index-entries-at.is) ∙ get_found key_cmp_total key_cmp_exact c.args.key.now c.args.entries.now c.in-Ok.at c.index-entries-at.result c.in-Ok.ensures.found c.index-entries-at.is c.requires

pub returns-in-Err : goal.returns-in-Err
returns-in-Err c = get_gap key_cmp_total key_cmp_exact c.args.key.now c.args.entries.now c.in-Err.field-0 c.in-Err.ensures.absent c.requires
