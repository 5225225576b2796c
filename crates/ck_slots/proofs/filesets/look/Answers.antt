use Rattle.std.proofs.Common.{ℕ, Some, sym, ap, ◌∙◌}
use Rattle.std.specs.Cmp.{nat_cmp_total}
use Rattle.std.specs.FinMap.{nat_cmp-IsAntisymmetric}
use Rattle.ck_model.specs.declared.checkpoint.Fileset.{Fileset}
use Rattle.ck_model.proofs.PlaceLaws.{get_found, get_gap}
use Rattle.ck_slots.proofs.filesets.look.Goals as goal

pub returns-in-Ok : goal.returns-in-Ok
returns-in-Ok c = ap (λ (e : ℕ × Fileset). Some e.1) (sym c.index-filesets-at.is) ∙ get_found nat_cmp_total nat_cmp-IsAntisymmetric c.args.id c.args.filesets.now c.in-Ok.at c.index-filesets-at.result c.in-Ok.ensures.found c.index-filesets-at.is c.requires

pub returns-in-Err : goal.returns-in-Err
returns-in-Err c = get_gap nat_cmp_total nat_cmp-IsAntisymmetric c.args.id c.args.filesets.now c.in-Err.field-0 c.in-Err.ensures.absent c.requires
