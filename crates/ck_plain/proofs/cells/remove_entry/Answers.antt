use Rattle.ck_model.specs.Key.{key_cmp_total, key_cmp_exact}
use Rattle.ck_model.proofs.PlaceLaws.{unset_found, unset_gap}
use Rattle.ck_plain.proofs.cells.remove_entry.Goals as goal

pub returns-in-Ok : goal.returns-in-Ok
returns-in-Ok c = rw c.remove.ensures.items (unset_found key_cmp_total key_cmp_exact c.args.key.now c.args.entries.now.items c.in-Ok.at c.remove.result (rw c.deref.ensures.value at c.in-Ok.ensures.found) c.requires)

pub returns-in_default : goal.returns-in_default
returns-in_default c = unset_gap key_cmp_total key_cmp_exact c.args.key.now c.args.entries.now.items c.in_default.field-0 (rw c.deref.ensures.value at c.in_default.ensures.absent) c.requires
