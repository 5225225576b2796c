use Rattle.std.proofs.Common.{rules, ap, ◌∙◌}
use Rattle.ck_turn.proofs.Rests.{rests_outside}
use Rattle.ck_turn.proofs.Passes.{joins}
use Rattle.ck_turn.proofs.turnstile.Turnstile.join.Goals as goal

pub join_seat-requires : goal.join_seat-requires
join_seat-requires g c =
    let first = rests_outside c.pass.inside.token.me c.pass.invariant (ap (λ p. p.inside) c.pass.view_is ∙ c.requires.outside.0) in
    let other = rests_outside c.other.inside.token.me c.other.invariant (ap (λ p. p.inside) c.other.view_is ∙ c.requires.outside.1) in (
      search rules,
      search rules,
      other.1,
      search rules,
      joins g.T.Stands.entries g.T.Stands.origin _ _ _ _ _ (ap (λ p. p.first) c.pass.view_is ∙ c.requires.first) first.0 (ap (λ p. p.first) c.other.view_is ∙ c.requires.second) other.0,
    )
