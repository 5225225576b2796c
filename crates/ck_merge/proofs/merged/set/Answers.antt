use Rattle.std.proofs.Common.{◌≡◌, Some, None, cond, sym, subst}
use Rattle.std.specs.List.{AllByRecursion}
use Rattle.std.specs.Ordering.{eq_by_cmp}
use Rattle.ck_model.specs.Key.{key_cmp}
use Rattle.ck_stream.specs.declared.item.Item.{Item}
use Rattle.ck_stream.specs.Right.{change_of, IsItem}
use Rattle.ck_merge.specs.Merged.{records, change_at}
use Rattle.ck_merge.proofs.ByKey.{held_set, each_set}
use Rattle.ck_merge.proofs.merged.set.Goals as goal

pub returns-in_ok-insert-in-Put-clause-held : goal.returns-in_ok-insert-in-Put-clause-held
returns-in_ok-insert-in-Put-clause-held c q =
    subst (λ (change : Item). change_at c.insert.new.self q ≡ cond (eq_by_cmp key_cmp q (change_of change).0) (Some (change_of change).1) (change_at c.args.items.now q)) (sym c.in-Put.is)
    (held_set c.args.items.now c.insert.new.self c.in-Put.key q (Some c.in-Put.payload) (c.in_ok-insert-in-Put.ensures.updates.0 q))

pub returns-in_ok-insert-in-Put-clause-each : goal.returns-in_ok-insert-in-Put-clause-each
returns-in_ok-insert-in-Put-clause-each c right each =
    subst (λ es. AllByRecursion IsItem (records es)) (sym c.in_ok-insert-in-Put.ensures.entries)
    (each_set c.in-Put.key (Some c.in-Put.payload) c.args.items.now.entries (subst IsItem c.in-Put.is right) each)

pub returns-in_ok-insert-in-Removed-clause-held : goal.returns-in_ok-insert-in-Removed-clause-held
returns-in_ok-insert-in-Removed-clause-held c q =
    subst (λ (change : Item). change_at c.insert-in-Removed.new.self q ≡ cond (eq_by_cmp key_cmp q (change_of change).0) (Some (change_of change).1) (change_at c.args.items.now q)) (sym c.in-Removed.is)
    (held_set c.args.items.now c.insert-in-Removed.new.self c.in-Removed.key q None (c.in_ok-insert-in-Removed.ensures.updates.0 q))

pub returns-in_ok-insert-in-Removed-clause-each : goal.returns-in_ok-insert-in-Removed-clause-each
returns-in_ok-insert-in-Removed-clause-each c right each =
    subst (λ es. AllByRecursion IsItem (records es)) (sym c.in_ok-insert-in-Removed.ensures.entries)
    (each_set c.in-Removed.key None c.args.items.now.entries (subst IsItem c.in-Removed.is right) each)
