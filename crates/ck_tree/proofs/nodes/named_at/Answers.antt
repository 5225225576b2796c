use Rattle.std.proofs.Common.{ap, ◌∙◌}
use Rattle.std.specs.Option.{option_map}
use Rattle.ck_model.specs.Cells.{named_node}
use Rattle.ck_model.specs.Values.{payload_of}
use Rattle.ck_tree.proofs.Questions.{asked, named-alike}
use Rattle.ck_tree.proofs.nodes.named_at.Goals as goal

pub returns : goal.returns
returns g c =
    λ cells stands. c.named.ensures ∙ ap (λ small. named_node (option_map payload_of small)) c.small_at.ensures ∙ asked named_node named-alike (g.M.Meta.table c.args.meta.now) c.args.fs cells stands c.args.key.now
