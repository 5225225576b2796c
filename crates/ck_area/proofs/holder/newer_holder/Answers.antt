use Rattle.std.proofs.Common.{sym, subst, ◌∙◌}
use Rattle.std.specs.BTreeMap as tree
use Rattle.ck_area.specs.Known.{column_order, IsFirstBehind}
use Rattle.ck_area.proofs.HolderLemmas.{none_behind, found_here, found_elsewhere, same_keys, other_keys}
use Rattle.ck_area.proofs.holder.newer_holder.Goals as goal

pub returns-then-eq : goal.returns-then-eq
returns-then-eq c =
    found_here (tree.get column_order c.args.entries.now) c.args.key.now c.args.fileset c.in-Some.place.0 c.in-Some.place.1 c.in-Some.held c.in-Some.ensures (same_keys c.in-Some.place.0 c.args.key.now (sym c.eq.ensures ∙ c.if-eq.true))

pub returns-else-eq : goal.returns-else-eq
returns-else-eq c =
    found_elsewhere (tree.get column_order c.args.entries.now) c.args.key.now c.args.fileset c.in-Some.place.0 c.in-Some.place.1 c.in-Some.held c.in-Some.ensures (other_keys c.in-Some.place.0 c.args.key.now (sym c.eq.ensures ∙ c.if-eq.false))

pub returns-in-None : goal.returns-in-None
returns-in-None c =
    none_behind (tree.get column_order c.args.entries.now) c.args.key.now c.args.fileset
    (subst (IsFirstBehind (tree.get column_order c.args.entries.now) (c.args.key.now, c.args.fileset)) c.in-None.is c.first_behind.ensures)
