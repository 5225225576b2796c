use Rattle.std.proofs.Common.{◌∷◌, [], nat_eq, sym, ap, subst, ◌∙◌}
use Rattle.ck_model.specs.declared.key.Key.TheVariants.{Node}
use Rattle.ck_model.specs.declared.change.Change.TheVariants.{Put}
use Rattle.ck_model.specs.declared.held.Small.TheVariants.{To}
use Rattle.ck_model.specs.Walk.{new_name_at}
use Rattle.ck_tree.specs.Plan.{IsPlan, making}
use Rattle.ck_tree.proofs.PlanLemmas.{some_left, drawn_is, new_node}
use Rattle.ck_tree.proofs.plans.plan_new.Goals as goal

pub returns-clause-plan : goal.returns-clause-plan
returns-clause-plan g c =
    let t = g.M.Meta.table c.args.meta.now in
    let path = c.args.path.now in
    let kind = c.args.kind in
    let name = c.in_ok-name.name in
    let drawn = drawn_is (nat_eq t.counters.number 4294967295) c.in_ok-number.number t.counters.number (sym c.in_ok-number.ensures.ok_part ∙ c.draw.ensures) in
    subst (IsPlan t (making kind path)) (sym c.in_ok-from_slice.ensures.items)
    (subst (λ number. IsPlan t (making kind path) (Put (Node number) kind ∷ Put name (To number) ∷ [])) (sym drawn.1)
    (new_node t (g.met.M.Meta.lawful c.args.meta.now) c.requires.orderly (some_left _ _ _ _ c.in_ok-check_stamp.ensures) path c.items.ensures.path kind c.requires.kind name
    (λ cells stands. c.in_ok-name.ensures.value cells stands ∙ ap (new_name_at cells) c.items.ensures.names) drawn.0))
