use Rattle.std.proofs.Common.{rules, ◌≡◌, ◌≢◌, ◌↔◌, Some, IfSome, true, sym, ap, subst, ◌∙◌}
use Rattle.ck_model.specs.Held.{IsEntry}
use Rattle.ck_model.specs.Table.{column}
use Rattle.ck_model.specs.Chain.{is_live}
use Rattle.ck_model.specs.Rules.{IsOrderly}
use Rattle.ck_chain.specs.Named.{IsNamed}
use Rattle.ck_chain.specs.Changes.{key_of, value_after}
use Rattle.ck_push.specs.Changed.{changed, push_into, push_of, replaced}
use Rattle.ck_push.specs.Changes.{IsChange}
use Rattle.ck_push.specs.Released.{released}
use Rattle.ck_push.proofs.ChangeLemmas.{may_set, new_block, newest_live}
use Rattle.ck_push.proofs.PushLemmas.{orderly_replaced, push_apart, push_entry}
use Rattle.ck_push.proofs.ReleaseLemmas.{gone_released, released_gone}
use Rattle.ck_push.proofs.ChangeLaws.{is_change}
use Rattle.ck_push.proofs.copy_on_write.change.Goals as goal

pub replace-requires-clause-checkpoint : goal.replace-requires-clause-checkpoint
replace-requires-clause-checkpoint g c =
    let t = g.M.Meta.table c.args.meta.now in
    let same : c.push_into-push.result ≡ push_of t (key_of c.args.item.now) = c.push_into-push.ensures ∙ (λ i. push_into t (c.key_of-key.ensures i) (c.newest_live-newest.ensures i)) in
    subst (λ push. IfSome push (λ entry. entry.0 ≢ 0)) (sym same) (push_apart t (key_of c.args.item.now) (g.met.M.Meta.lawful c.args.meta.now))

pub replace-requires-clause-pushed : goal.replace-requires-clause-pushed
replace-requires-clause-pushed g c =
    let t = g.M.Meta.table c.args.meta.now in
    let lawful = g.met.M.Meta.lawful c.args.meta.now in
    let same : c.push_into-push.result ≡ push_of t (key_of c.args.item.now) = c.push_into-push.ensures ∙ (λ i. push_into t (c.key_of-key.ensures i) (c.newest_live-newest.ensures i)) in
    let at_key = subst (λ push. IfSome push (λ entry. IsEntry (key_of c.args.item.now) entry.1)) (sym same) (push_entry t (key_of c.args.item.now) lawful c.requires.may.key) in
    subst (λ key. IfSome c.push_into-push.result (λ entry. IsEntry key entry.1)) (sym c.key_of-key.ensures) at_key

pub tidy_newest-requires-clause-live : goal.tidy_newest-requires-clause-live
tidy_newest-requires-clause-live g c =
    let t = g.M.Meta.table c.args.meta.now in
    let after = subst (λ o. IfSome o (λ n. is_live t n ≡ true)) (sym c.newest_live-newest.ensures) (newest_live t) in
    subst (λ u. IfSome c.newest_live-newest.result (λ n. is_live u n ≡ true)) (sym c.replace.ensures) after

pub tidy_newest-requires-clause-orderly : goal.tidy_newest-requires-clause-orderly
tidy_newest-requires-clause-orderly g c =
    let t = g.M.Meta.table c.args.meta.now in
    let item = c.args.item.now in
    let is = c.requires.sound.orderly in
    let same : g.M.Meta.table c.replace.new.meta ≡ replaced t (key_of item) (push_of t (key_of item)) (value_after item c.args.stamp) =
    c.replace.ensures ∙ (λ i. replaced t (c.key_of-key.ensures i) ((c.push_into-push.ensures ∙ (λ j. push_into t (c.key_of-key.ensures j) (c.newest_live-newest.ensures j))) i) (c.value_after-new.ensures i)) in
    subst IsOrderly (sym same) (orderly_replaced t (key_of item) (value_after item c.args.stamp) (g.met.M.Meta.lawful c.args.meta.now) is
    c.requires.may.below
    (may_set t item c.args.stamp c.requires.stamp c.requires.may.version c.requires.may.numbers c.requires.may.block))

pub returns-clause-changed : goal.returns-clause-changed
returns-clause-changed g c =
    let t = g.M.Meta.table c.args.meta.now in
    let item = c.args.item.now in
    let same : g.M.Meta.table c.tidy_newest.new.meta ≡ changed t (key_of item) (value_after item c.args.stamp) = search rules in
    subst (IsChange t item c.args.stamp) (sym same) (is_change t item c.args.stamp (g.met.M.Meta.lawful c.args.meta.now) c.requires.sound c.requires.stamp c.requires.may)

pub returns-clause-freed : goal.returns-clause-freed
returns-clause-freed g c block =
    let t = g.M.Meta.table c.args.meta.now in
    let item = c.args.item.now in
    let key = key_of item in
    let new = value_after item c.args.stamp in
    let lawful = g.met.M.Meta.lawful c.args.meta.now in
    let same : g.M.Meta.table c.tidy_newest.new.meta ≡ changed t key new = search rules in
    let freed : c.released.result.block ≡ released (column t key 0) (push_of t key) =
    c.released.ensures ∙ (λ i. released ((c.get-old.ensures ∙ ap (λ k. column t k 0) c.key_of-key.ensures) i) ((c.push_into-push.ensures ∙ (λ j. push_into t (c.key_of-key.ensures j) (c.newest_live-newest.ensures j))) i)) in
    subst (λ u. (c.released.result.block ≡ Some block) ↔ (IsNamed t block × (IsNamed u block → ⊥))) (sym same) (
      (λ h. released_gone t key new block lawful c.requires.sound.orderly (new_block t item c.args.stamp c.requires.may.block) (sym freed ∙ h)),
      (λ h. freed ∙ gone_released t key new block lawful h.0 h.1),
    )
