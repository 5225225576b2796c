use Rattle.std.proofs.Common.{◌≡◌, refl, sym, ◌∙◌, ap, subst, IsSome}
use Rattle.ck_turn.proofs.Lists.{head_is}
use Rattle.ck_turn.proofs.Passes.{ends}
use Rattle.ck_turn.proofs.turnstile.Turnstile.close.Goals as goal

pub unwrap-value-requires : goal.unwrap-value-requires
unwrap-value-requires g c =
    let view = c.pass.view_is in
    let even : c.pass.inside.token.me.0.joins ≡ c.pass.inside.token.me.0.splits = ap (λ p. p.joins) view ∙ c.requires.joined ∙ sym (ap (λ p. p.splits) view) in
    let end = ends g.T.Stands.entries g.T.Stands.origin _ _ _ _ _ _ c.pass.invariant (ap (λ p. p.inside) view ∙ c.requires.outside) (ap (λ p. p.first) view ∙ c.requires.first) even
    c.close_with-closed.ensures.values.2 c.take.ensures.value in
    subst IsSome (sym end.1) refl

pub returns : goal.returns
returns g c =
    let view = c.pass.view_is in
    let even : c.pass.inside.token.me.0.joins ≡ c.pass.inside.token.me.0.splits = ap (λ p. p.joins) view ∙ c.requires.joined ∙ sym (ap (λ p. p.splits) view) in
    let end = ends g.T.Stands.entries g.T.Stands.origin _ _ _ _ _ _ c.pass.invariant (ap (λ p. p.inside) view ∙ c.requires.outside) (ap (λ p. p.first) view ∙ c.requires.first) even
    c.close_with-closed.ensures.values.2 c.take.ensures.value in
    let same : end.0 ≡ c.unwrap-value.result = cc (end.1, c.unwrap-value.ensures) in
    record {
      origin = ap g.T.Stands.origin (sym same) ∙ head_is _ _ (end.2 ∙ ap (λ p. p.turnstile.origins) view ∙ ap (λ m. m.origins) c.requires.turnstile);
      entries = ap g.T.Stands.entries (sym same) ∙ end.3 ∙ ap (λ p. p.seen) view;
    }
