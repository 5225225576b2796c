use Rattle.ck_model.specs.Key.{key_cmp_total, key_cmp_exact}
use Rattle.ck_model.proofs.PlaceLaws.{set_found, set_gap}
use Rattle.ck_plain.proofs.cells.put_entry.Goals as goal

pub returns-in-Ok-clause-ok : goal.returns-in-Ok-clause-ok
returns-in-Ok-clause-ok c = set_found key_cmp_total key_cmp_exact c.args.key c.args.cell c.args.entries.now.items c.in-Ok.at c.index_mut.result.now (rw c.deref.ensures.value at c.in-Ok.ensures.found) c.index_mut.ensures.value c.requires

pub returns-in_ok-insert-in-Err-clause-ok : goal.returns-in_ok-insert-in-Err-clause-ok
returns-in_ok-insert-in-Err-clause-ok c =
    rw (c.in_ok-insert-in-Err.ensures.items) (set_gap key_cmp_total key_cmp_exact c.args.key c.args.cell c.args.entries.now.items c.in-Err.at (rw c.deref.ensures.value at c.in-Err.ensures.absent) c.requires)
