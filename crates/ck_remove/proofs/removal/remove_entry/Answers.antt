use Rattle.std.proofs.Common.{rules, ◌≡◌, ◌↔◌, ◌+◌, Some, None, sym, ap, subst, ◌∙◌}
use Rattle.ck_model.specs.Table.{column, with_entry}
use Rattle.ck_model.specs.Rules.{IsOrderly, IsSound}
use Rattle.ck_chain.specs.Named.{IsNamed}
use Rattle.ck_model.proofs.CaseLaws.{some_is}
use Rattle.ck_remove.specs.Gone.{left_of}
use Rattle.ck_remove.specs.Removal.{moved, released, taken_of, with_taken, without}
use Rattle.ck_remove.specs.Unseen.{IsUnseen}
use Rattle.ck_remove.proofs.OldestLemmas.{oldest_is}
use Rattle.ck_remove.proofs.MoveLemmas.{orderly_moved}
use Rattle.ck_remove.proofs.SoundLemmas.{sound_without}
use Rattle.ck_remove.proofs.FreedLemmas.{without_freed}
use Rattle.ck_remove.proofs.LeftLemmas.{left_without}
use Rattle.ck_remove.proofs.UnseenLemmas.{unseen_without}
use Rattle.ck_remove.proofs.removal.remove_entry.Goals as goal

pub tidy_between-requires : goal.tidy_between-requires
tidy_between-requires g c =
    let t = g.M.Meta.table c.args.meta.now in
    let key = c.args.key.now in
    let lawful = g.met.M.Meta.lawful c.args.meta.now in
    let found = some_is (column t key c.args.fs) c.requires.held in
    let same : g.M.Meta.table c.move_entry.new.meta ≡ moved t c.args.fs key = c.move_entry.ensures ∙ ap (with_taken (with_entry t c.args.fs key None) key) c.taken_of-taken.ensures in
    record { orderly = subst IsOrderly (sym same) (orderly_moved t c.args.fs key found.0 lawful c.requires.sound.orderly found.1) }

pub returns-clause-unseen : goal.returns-clause-unseen
returns-clause-unseen g c =
    let t = g.M.Meta.table c.args.meta.now in
    let key = c.args.key.now in
    let lawful = g.met.M.Meta.lawful c.args.meta.now in
    let found = some_is (column t key c.args.fs) c.requires.held in
    let oldest = oldest_is t c.args.fs lawful c.requires.gone in
    let same : g.M.Meta.table c.tidy_between.new.meta ≡ without t c.args.fs (Some key) = search rules in
    subst (IsUnseen t) (sym same) (unseen_without t c.args.fs key found.0 lawful oldest found.1)

pub returns-clause-sound : goal.returns-clause-sound
returns-clause-sound g c =
    let t = g.M.Meta.table c.args.meta.now in
    let key = c.args.key.now in
    let lawful = g.met.M.Meta.lawful c.args.meta.now in
    let found = some_is (column t key c.args.fs) c.requires.held in
    let oldest = oldest_is t c.args.fs lawful c.requires.gone in
    let same : g.M.Meta.table c.tidy_between.new.meta ≡ without t c.args.fs (Some key) = search rules in
    subst IsSound (sym same) (sound_without t c.args.fs key found.0 lawful c.requires.sound oldest found.1)

pub returns-clause-freed : goal.returns-clause-freed
returns-clause-freed g c block =
    let t = g.M.Meta.table c.args.meta.now in
    let key = c.args.key.now in
    let lawful = g.met.M.Meta.lawful c.args.meta.now in
    let found = some_is (column t key c.args.fs) c.requires.held in
    let same : g.M.Meta.table c.tidy_between.new.meta ≡ without t c.args.fs (Some key) = search rules in
    let freed : c.released.result.block ≡ released (column t key c.args.fs) (taken_of t c.args.fs key) = c.released.ensures ∙ (λ i. released (c.get-old.ensures i) (c.taken_of-taken.ensures i)) in
    let law = without_freed t c.args.fs key found.0 block lawful c.requires.sound.orderly found.1 in
    subst (λ u. (c.released.result.block ≡ Some block) ↔ (IsNamed t block × (IsNamed u block → ⊥))) (sym same) (
      (λ h. law.0 (sym freed ∙ h)),
      (λ h. freed ∙ law.1 h),
    )

pub returns-clause-left : goal.returns-clause-left
returns-clause-left g c =
    let t = g.M.Meta.table c.args.meta.now in
    let key = c.args.key.now in
    let lawful = g.met.M.Meta.lawful c.args.meta.now in
    let found = some_is (column t key c.args.fs) c.requires.held in
    let oldest = oldest_is t c.args.fs lawful c.requires.gone in
    let same : g.M.Meta.table c.tidy_between.new.meta ≡ without t c.args.fs (Some key) = search rules in
    ap (λ u. left_of u + 1) same ∙ left_without t c.args.fs key found.0 lawful oldest found.1
