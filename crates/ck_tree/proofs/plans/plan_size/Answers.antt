use Rattle.std.proofs.Common.{sym, ap, subst, ◌∙◌}
use Rattle.ck_model.specs.declared.call.Call.TheVariants.{Trunc}
use Rattle.ck_model.specs.Walk.{file_at}
use Rattle.ck_tree.specs.Plan.{IsPlan}
use Rattle.ck_tree.proofs.PlanLemmas.{some_left, resizing}
use Rattle.ck_tree.proofs.plans.plan_size.Goals as goal

pub returns-clause-plan : goal.returns-clause-plan
returns-clause-plan g c =
    let t = g.M.Meta.table c.args.meta.now in
    let path = c.args.path.now in
    subst (IsPlan t (Trunc path c.args.size)) (sym c.in_ok-resize.ensures) (resizing t (g.met.M.Meta.lawful c.args.meta.now) c.requires.orderly (some_left _ _ _ _ c.in_ok-check_stamp.ensures) path c.args.size c.requires.limit (g.met.M.Meta.sized c.args.meta.now) c.in_ok-node.node c.size_at-old.result
    (λ cells stands. c.in_ok-node.ensures.value cells stands ∙ ap (file_at cells) c.items.ensures.names)
    c.size_at-old.ensures)
