use Rattle.std.proofs.Common.{◌≡◌, ◌&&◌, Some, sym, subst, ◌∙◌}
use Rattle.ck_model.specs.declared.key.Key.{Key}
use Rattle.ck_chain.specs.Order.{is_before}
use Rattle.ck_chain.proofs.KeyOrderLaws.{before-first, before-second}
use Rattle.ck_chain.proofs.order.lesser.Goals as goal

pub returns-then-is_less-clause-before : goal.returns-then-is_less-clause-before
returns-then-is_less-clause-before c =
    subst (λ a. (q : Key) → is_before a q ≡ (is_before a q && is_before c.args.b q)) (sym c.in-Some-Some.is-0)
    (subst (λ b. (q : Key) → is_before (Some c.in-Some-Some.x) q ≡ (is_before (Some c.in-Some-Some.x) q && is_before b q)) (sym c.in-Some-Some.is-1)
    (before-first c.in-Some-Some.x c.in-Some-Some.y (sym c.is_less.ensures ∙ c.if-is_less.true)))

pub returns-else-is_less-clause-before : goal.returns-else-is_less-clause-before
returns-else-is_less-clause-before c =
    subst (λ a. (q : Key) → is_before c.args.b q ≡ (is_before a q && is_before c.args.b q)) (sym c.in-Some-Some.is-0)
    (subst (λ b. (q : Key) → is_before b q ≡ (is_before (Some c.in-Some-Some.x) q && is_before b q)) (sym c.in-Some-Some.is-1)
    (before-second c.in-Some-Some.x c.in-Some-Some.y (sym c.is_less.ensures ∙ c.if-is_less.false)))
