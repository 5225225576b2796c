use Rattle.std.proofs.Common.{ap, ◌∙◌, not, rules, map as list_map}
use Rattle.std.proofs.lemmas.Fn.{filter_same}
use Rattle.ck_model.specs.World.{has_id}
use Rattle.ck_plain.specs.declared.world.PlainCheckpoint.{PlainCheckpoint}
use Rattle.ck_plain.specs.Plain.{checkpoint_of}
use Rattle.ck_plain.proofs.Lists.{map_filter}
use Rattle.ck_plain.proofs.space.drop_id.Goals as goal

pub returns-clause-others : goal.returns-clause-others
returns-clause-others c =
    let id = c.args.id in
    let kept = filter_same _ (λ (x : PlainCheckpoint). not (has_id id (checkpoint_of x))) _ (λ x b f' k. search rules) _ _ c.retain.ensures.filtered in
    ap (list_map checkpoint_of) kept ∙ map_filter checkpoint_of (λ y. not (has_id id y)) c.args.checkpoints.now.items
