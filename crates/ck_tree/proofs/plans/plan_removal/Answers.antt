use Rattle.std.proofs.Common.{sym, ap, subst, ◌∙◌}
use Rattle.ck_model.specs.declared.call.Call.TheVariants.{Rm}
use Rattle.ck_model.specs.declared.reply.Reply.TheVariants as reply
use Rattle.ck_model.specs.Walk.{file_at, name_at}
use Rattle.ck_tree.specs.Plan.{IsPlan}
use Rattle.ck_tree.proofs.PlanLemmas.{some_left, removal}
use Rattle.ck_tree.proofs.plans.plan_removal.Goals as goal

pub returns-clause-plan : goal.returns-clause-plan
returns-clause-plan g c =
    let t = g.M.Meta.table c.args.meta.now in
    let path = c.args.path.now in
    subst (IsPlan t (Rm path)) (sym c.in_ok-delete_file.ensures) (removal t (g.met.M.Meta.lawful c.args.meta.now) c.requires (some_left _ _ _ _ c.in_ok-check_stamp.ensures) path (g.met.M.Meta.sized c.args.meta.now) c.in_ok-name.name c.in_ok-node.node
    (λ cells stands. c.in_ok-node.ensures.value cells stands ∙ ap (file_at cells) c.items.ensures.names)
    (λ cells stands. c.in_ok-name.ensures cells stands ∙ ap (name_at cells reply.IsDir) c.items-2.ensures.names))
