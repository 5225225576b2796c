use Rattle.std.proofs.Common.{sym, ap, subst, ◌∙◌}
use Rattle.ck_model.specs.declared.call.Call.TheVariants.{Mv}
use Rattle.ck_model.specs.declared.reply.Reply.TheVariants as reply
use Rattle.ck_model.specs.Walk.{file_at, new_name_at, name_at}
use Rattle.ck_tree.specs.Plan.{IsPlan}
use Rattle.ck_tree.proofs.PlanLemmas.{some_left, move}
use Rattle.ck_tree.proofs.plans.plan_move.Goals as goal

pub returns-clause-plan : goal.returns-clause-plan
returns-clause-plan g c =
    let t = g.M.Meta.table c.args.meta.now in
    let path = c.args.path.now in
    let new_path = c.args.new_path.now in
    subst (IsPlan t (Mv path new_path)) (sym c.in_ok-from_slice.ensures.items) (move t (g.met.M.Meta.lawful c.args.meta.now) c.requires (some_left _ _ _ _ c.in_ok-check_stamp.ensures) path new_path c.items-2.ensures.path c.in_ok-node.node c.in_ok-from.from c.in_ok-to.to
    (λ cells stands. c.in_ok-node.ensures.value cells stands ∙ ap (file_at cells) c.items.ensures.names)
    (λ cells stands. c.in_ok-to.ensures.value cells stands ∙ ap (new_name_at cells) c.items-2.ensures.names)
    (λ cells stands. c.in_ok-from.ensures cells stands ∙ ap (name_at cells reply.IsDir) c.items-3.ensures.names))
