use Rattle.std.proofs.Common.{sym, subst, ◌∙◌}
use Rattle.ck_restore.specs.Older.{LeavesTidied}
use Rattle.ck_restore.proofs.TidiedLemmas.{tidied_one}
use Rattle.ck_restore.proofs.older.tidy_live.Goals as goal

pub returns-then-is_live-clause-tidied : goal.returns-then-is_live-clause-tidied
returns-then-is_live-clause-tidied g c =
    let t = g.M.Meta.table c.args.meta.now in
    subst (LeavesTidied c.args.id t) (sym c.tidy.ensures.tidied)
    (tidied_one t c.args.id c.args.fs c.args.key.now (g.met.M.Meta.lawful c.args.meta.now) c.requires.orderly (sym c.is_live.ensures ∙ c.if-is_live.true) c.requires.older)
