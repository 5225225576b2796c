use Rattle.std.proofs.Common.{◌≡◌, true, false, IfSome, sym, subst, ◌∙◌}
use Rattle.std.specs.Option.{option_copied}
use Rattle.ck_model.specs.declared.key.Key.{Key}
use Rattle.ck_chain.specs.Order.{is_after, is_before}
use Rattle.ck_chain.proofs.OrderLaws.{further, between_more}
use Rattle.ck_chain.proofs.KeysLeftLaws.{left_smaller}
use Rattle.ck_changed.specs.Difference.{differs_at, values_differ}
use Rattle.ck_changed.proofs.difference.next_difference.Goals as goal

pub loop-here-smaller : goal.loop-here-smaller
loop-here-smaller g c =
    left_smaller (g.M.Meta.table c.args.meta.now) c.loop-here.here c.in-Some.key c.next_candidate-here-in-Some.result c.in-Some.is c.next_candidate-here-in-Some.ensures.behind c.next_candidate-here-in-Some.ensures.held

pub loop-here-preserved : goal.loop-here-preserved
loop-here-preserved g c =
    let t = g.M.Meta.table c.args.meta.now in
    let after = option_copied c.args.after in
    let key = c.in-Some.key in
    let passes = differs_at t c.args.from c.args.to in
    let next = c.next_candidate-here-in-Some.result in
    let at = subst (λ o. IfSome o (λ k. is_after after k ≡ true)) c.in-Some.is c.loop-here.invariant.behind in
    let alike : differs_at t c.args.from c.args.to key ≡ false =
    (λ i. values_differ (sym c.value_from.ensures i) (sym c.value-new.ensures i)) ∙ sym c.values_differ.ensures ∙ c.if-values_differ.false in
    let old = subst (λ o. (q : Key) → is_after after q ≡ true → is_before o q ≡ true → differs_at t c.args.from c.args.to q ≡ false) c.in-Some.is c.loop-here.invariant.between in
    record {
      behind = further t passes after key next at c.next_candidate-here-in-Some.ensures;
      between = between_more t passes after key next alike old c.next_candidate-here-in-Some.ensures;
    }
