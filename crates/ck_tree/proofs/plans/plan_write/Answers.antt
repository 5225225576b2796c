use Rattle.std.proofs.Common.{◌≢◌, ◌+◌, ◌≤◌, ◌<◌, length, sym, ap, subst, ◌∙◌, arith}
use Rattle.ck_model.specs.declared.call.Call.TheVariants.{Write}
use Rattle.ck_model.specs.Limits.{file_limit}
use Rattle.ck_model.specs.Walk.{file_at}
use Rattle.ck_tree.specs.Plan.{IsPlan}
use Rattle.ck_tree.specs.Writes.{write_changes}
use Rattle.ck_tree.proofs.PlanLemmas.{some_left, writing}
use Rattle.ck_tree.proofs.plans.plan_write.Goals.{else-len-gt0-via-then-len-gt0+else-at-len-gt-FILE_LIMIT, else-len-gt0-via-else-len-gt0}
use Rattle.ck_tree.proofs.plans.plan_write.Goals as goal

pub returns-clause-plan : goal.returns-clause-plan
returns-clause-plan g c = λ bytes same.
    let t = g.M.Meta.table c.args.meta.now in
    let path = c.args.path.now in
    let at = c.args.at in
    let within : at + c.args.len ≤ file_limit = elim c.else-len-gt0.branch [
      | else-len-gt0-via-then-len-gt0+else-at-len-gt-FILE_LIMIT w ↦ w.if-at-len-gt-FILE_LIMIT.false
      | else-len-gt0-via-else-len-gt0 w ↦ absurd (c.if-len-eq0.false (omega (arith, w.if-len-gt0.false)))
    ] in
    let limit : at + length bytes ≤ file_limit = omega (arith, within, same) in
    let bytes_come : c.args.len ≢ 0 = c.if-len-eq0.false in
    let some : 0 < length bytes = omega (arith, same, bytes_come) in
    subst (IsPlan t (Write path at bytes)) (sym (c.in_ok-write_bytes.ensures ∙ ap (write_changes c.in_ok-node.node c.size_at-old.result at) (sym same)))
    (writing t (g.met.M.Meta.lawful c.args.meta.now) c.requires.orderly (some_left _ _ _ _ c.in_ok-check_stamp.ensures) path at c.in_ok-node.node c.size_at-old.result
    (λ cells stands. c.in_ok-node.ensures.value cells stands ∙ ap (file_at cells) c.items.ensures.names)
    c.size_at-old.ensures bytes some limit)
