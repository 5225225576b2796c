use Rattle.std.proofs.Common.{is_some, ap, sym, ◌∙◌}
use Rattle.ck_tree.proofs.nodes.stands_at.Goals as goal

pub returns : goal.returns
returns g c = λ cells stands. c.is_some.ensures ∙ ap is_some c.held_at.ensures ∙ sym (stands.present c.args.key.now)
