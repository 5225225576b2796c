use Rattle.std.proofs.Common.{sym, ◌∙◌}
use Rattle.std.specs.BTreeMap as tree
use Rattle.ck_area.specs.Known.{column_order}
use Rattle.ck_area.proofs.KnownLemmas.{added, kept, is_none}
use Rattle.ck_area.proofs.known.add.Goals as goal

pub returns-in_ok-insert : goal.returns-in_ok-insert
returns-in_ok-insert c q =
    added (tree.get column_order c.args.known.now) (tree.get column_order c.insert.new.self) c.args.place q c.args.held (c.in_ok-insert.ensures.updates.0 q)
    (is_none _ (sym c.contains_key.ensures ∙ c.if-not-contains_key.true))

pub returns-else-not-contains_key : goal.returns-else-not-contains_key
returns-else-not-contains_key c q =
    kept (tree.get column_order c.args.known.now) c.args.place q c.args.held (sym c.contains_key.ensures ∙ c.if-not-contains_key.false)
