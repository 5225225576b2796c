use Rattle.std.proofs.Common.{ap, find, ◌∙◌}
use Rattle.ck_table.specs.Names.{is_named}
use Rattle.ck_table.proofs.NameLemmas.{unnamed}
use Rattle.ck_table.proofs.lookup.find.Goals as goal

pub returns-clause-none : goal.returns-clause-none
returns-clause-none g c =
    let t = g.M.Meta.table c.args.meta.now in
    unnamed t c.args.name.now (g.met.M.Meta.lawful c.args.meta.now) (c.loop-id.invariant ∙ ap (find (is_named t c.args.name.now)) c.in_default.ensures.next)
