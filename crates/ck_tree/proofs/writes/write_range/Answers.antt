use Rattle.std.proofs.Common.{◌++◌, ◌∷◌, [], ap, ◌∙◌}
use Rattle.ck_model.specs.declared.change.Change.TheVariants.{Write}
use Rattle.ck_tree.specs.Writes.{grown_put}
use Rattle.ck_tree.proofs.WriteLemmas.{writes_more}
use Rattle.ck_tree.proofs.writes.write_range.Goals as goal

pub loop-index-preserved : goal.loop-index-preserved
loop-index-preserved c =
    let index = c.loop-index.index in
    c.in_ok-push-2.ensures.items
    ∙ ap (λ xs. xs ++ Write c.args.node index 0 ∷ []) c.loop-index.invariant
    ∙ writes_more c.args.node c.args.from index c.loop-index.auto.index (c.args.changes.now.items ++ grown_put c.args.node c.args.old c.args.end)
