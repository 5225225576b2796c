use Rattle.std.specs.Option.{option_copied}
use Rattle.ck_chain.proofs.OrderLaws.{next_is, next_entry_is}
use Rattle.ck_chain.proofs.order.next_entry.Goals as goal

pub returns-clause-next : goal.returns-clause-next
returns-clause-next g c = next_is (g.M.Meta.table c.args.meta.now) c.args.fs (option_copied c.args.after) c.next.result c.next.ensures

pub returns-clause-entry : goal.returns-clause-entry
returns-clause-entry g c = next_entry_is (g.M.Meta.table c.args.meta.now) c.args.fs (option_copied c.args.after) c.next.result c.next.ensures
