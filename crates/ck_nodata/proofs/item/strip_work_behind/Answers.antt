use Rattle.std.proofs.Common.{sym, ◌∙◌}
use Rattle.ck_nodata.proofs.PlaceLemmas.{where_none, where_some}
use Rattle.ck_nodata.proofs.item.strip_work_behind.Goals as goal

pub returns-then-is_some : goal.returns-then-is_some
returns-then-is_some g c =
    where_some (g.M.Meta.table c.args.meta.now) c.args.last c.strip_in-item.result (g.met.M.Meta.lawful c.args.meta.now) c.requires c.strip_in-item.ensures (sym c.is_some.ensures ∙ c.if-is_some.true)

pub returns : goal.returns
returns g c =
    c.first_strip.ensures
    ∙ where_none (g.M.Meta.table c.args.meta.now) c.args.last c.strip_in-item.result c.requires c.strip_in-item.ensures (sym c.is_some.ensures ∙ c.if-is_some.false)
