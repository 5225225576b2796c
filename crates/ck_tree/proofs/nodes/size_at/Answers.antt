use Rattle.std.proofs.Common.{ap, ◌∙◌}
use Rattle.std.specs.Option.{option_map}
use Rattle.ck_model.specs.declared.key.Key.TheVariants.{Node}
use Rattle.ck_model.specs.Cells.{size_in}
use Rattle.ck_model.specs.Values.{payload_of}
use Rattle.ck_tree.proofs.Questions.{asked, size-alike}
use Rattle.ck_tree.proofs.nodes.size_at.Goals as goal

pub returns : goal.returns
returns g c =
    λ cells stands. c.size_in.ensures ∙ ap (λ small. size_in (option_map payload_of small)) c.small_at.ensures ∙ asked size_in size-alike (g.M.Meta.table c.args.meta.now) c.args.fs cells stands (Node c.args.node)
