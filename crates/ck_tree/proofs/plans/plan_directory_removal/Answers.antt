use Rattle.std.proofs.Common.{sym, ap, subst, ◌∙◌}
use Rattle.ck_model.specs.declared.call.Call.TheVariants.{Rmdir}
use Rattle.ck_model.specs.declared.reply.Reply.TheVariants as reply
use Rattle.ck_model.specs.Walk.{directory_at, name_at}
use Rattle.ck_tree.specs.Plan.{IsPlan}
use Rattle.ck_tree.proofs.PlanLemmas.{some_left, directory_removal}
use Rattle.ck_tree.proofs.plans.plan_directory_removal.Goals as goal

pub returns-clause-plan : goal.returns-clause-plan
returns-clause-plan g c =
    let t = g.M.Meta.table c.args.meta.now in
    let path = c.args.path.now in
    subst (IsPlan t (Rmdir path)) (sym c.in_ok-from_slice.ensures.items) (directory_removal t (g.met.M.Meta.lawful c.args.meta.now) c.requires (some_left _ _ _ _ c.in_ok-check_stamp.ensures) path c.in_ok-name.name c.in_ok-node.node
    (λ cells stands. c.in_ok-name.ensures cells stands ∙ ap (name_at cells reply.Root) c.items.ensures.names)
    (λ cells stands. c.in_ok-node.ensures.value cells stands ∙ ap (directory_at cells) c.items-2.ensures.names)
    (λ cells stands. sym c.if-has_names.false ∙ c.has_names.ensures cells stands))
