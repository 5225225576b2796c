use Rattle.std.specs.Cmp.{nat_cmp_total}
use Rattle.std.specs.FinMap.{nat_cmp-IsAntisymmetric}
use Rattle.ck_model.proofs.PlaceLaws.{unset_found, unset_gap}
use Rattle.ck_slots.proofs.filesets.unset.Goals as goal

pub returns-in-Ok-clause-unset : goal.returns-in-Ok-clause-unset
returns-in-Ok-clause-unset c = rw c.remove.ensures.items (unset_found nat_cmp_total nat_cmp-IsAntisymmetric c.args.id c.args.filesets.now.items c.in-Ok.at c.remove.result (rw c.deref.ensures.value at c.in-Ok.ensures.found) c.requires)

pub returns-in_default-clause-unset : goal.returns-in_default-clause-unset
returns-in_default-clause-unset c = unset_gap nat_cmp_total nat_cmp-IsAntisymmetric c.args.id c.args.filesets.now.items c.in_default.field-0 (rw c.deref.ensures.value at c.in_default.ensures.absent) c.requires
