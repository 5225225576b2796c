use Rattle.std.proofs.Common.{IfOk, IfErr, replicate, sym, subst, ◌∙◌}
use Rattle.std.proofs.lemmas.List.{length-replicate}
use Rattle.ck_tree.specs.Plan.{IsPlan, IsRefusal}
use Rattle.ck_tree.proofs.PlanLemmas.{filling, if_ok, if_err}
use Rattle.ck_tree.proofs.plans.plan.Goals as goal

pub returns-in-Fill-clause-plan : goal.returns-in-Fill-clause-plan
returns-in-Fill-clause-plan g c =
    let t = g.M.Meta.table c.args.meta.now in
    let path = c.in-Fill.path in
    let at = c.in-Fill.at in
    let len = c.in-Fill.len in
    let byte = c.in-Fill.field-3 in
    subst (λ call. IfOk c.plan_write-in-Fill.result (λ changes. IsPlan t call changes.items)) (sym c.in-Fill.is)
    (if_ok _ _ (λ changes all. filling t path at len byte changes.items (all (replicate len byte) (length-replicate len byte ∙ sym c.from.ensures))) c.plan_write-in-Fill.result c.plan_write-in-Fill.ensures.plan)

pub returns-in-Fill-clause-refusal : goal.returns-in-Fill-clause-refusal
returns-in-Fill-clause-refusal g c =
    let t = g.M.Meta.table c.args.meta.now in
    let len = c.in-Fill.len in
    let byte = c.in-Fill.field-3 in
    subst (λ call. IfErr c.plan_write-in-Fill.result (IsRefusal t call)) (sym c.in-Fill.is)
    (if_err _ _ (λ fault all. all (replicate len byte) (length-replicate len byte ∙ sym c.from.ensures)) c.plan_write-in-Fill.result c.plan_write-in-Fill.ensures.refusal)
