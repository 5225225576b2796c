use Rattle.std.proofs.Common.{ap, ◌∙◌}
use Rattle.std.specs.Option.{option_map}
use Rattle.ck_model.specs.declared.key.Key.TheVariants.{Node}
use Rattle.ck_model.specs.Cells.{is_directory}
use Rattle.ck_model.specs.Values.{payload_of}
use Rattle.ck_tree.proofs.Questions.{asked, directory-alike}
use Rattle.ck_tree.proofs.nodes.is_directory_at.Goals as goal

pub returns : goal.returns
returns g c =
    λ cells stands. c.is_directory.ensures ∙ ap (λ small. is_directory (option_map payload_of small)) c.small_at.ensures ∙ asked is_directory directory-alike (g.M.Meta.table c.args.meta.now) c.args.fs cells stands (Node c.args.node)
