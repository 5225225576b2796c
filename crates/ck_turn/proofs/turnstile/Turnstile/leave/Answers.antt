use Rattle.std.proofs.Common.{rules, refl, sym, ap, ◌∙◌, [], ◌∷◌, Some}
use mathlib.Core.List.{IsPrefix}
use Rattle.atomic_table.specs.Table.{rest}
use Rattle.ck_turn.specs.Steps.{held}
use Rattle.ck_turn.proofs.Rests.{rests_inside}
use Rattle.ck_turn.proofs.Turns.{grows, gives_back, raises}
use Rattle.ck_turn.proofs.turnstile.Turnstile.leave.Goals as goal

pub swap-requires : goal.swap-requires
swap-requires g c =
    let inside = rests_inside c.pass.inside.token.me c.pass.invariant (ap (λ p. p.inside) c.pass.view_is ∙ c.requires.inside) in
    let begins : IsPrefix c.pass.inside.token.me.0.seen (g.T.Stands.entries c.args.value) = rw (ap (λ p. p.seen) c.pass.view_is) c.requires.begins in (
      search rules,
      search rules,
      rw c.exchange.ensures.3 (grows g.T.Stands.entries g.T.Stands.origin _ _ _ _ _ inside.0 (c.from-length.ensures ∙ c.length.ensures) begins),
    )

pub load-requires : goal.load-requires
load-requires g c =
    let inside = rests_inside c.pass.inside.token.me c.pass.invariant (ap (λ p. p.inside) c.pass.view_is ∙ c.requires.inside) in
    let now = c.exchange.ensures.3 in
    let grew = c.swap.ensures.2 in (
      search rules,
      search rules,
      gives_back g.T.Stands.entries g.T.Stands.origin _ _ _ _ c.args.value
          (ap (λ v. v.phase) grew.1)
          (grew.0 ∙ ap (λ m. m.1) now ∙ ap (λ l. (0, Some c.args.value) ∷ rest l) inside.1)
          (sym (ap (λ v. v.seen) grew.1 ∙ ap (λ m. held g.T.Stands.entries m.1) now))
          (ap (λ o. o ∷ []) c.requires.origin
          ∙ sym (ap (λ v. v.origin) grew.1 ∙ ap (λ m. m.0.origin) now ∙ ap (λ p. p.turnstile.origins) c.pass.view_is ∙ ap (λ m. m.origins) c.requires.turnstile)),
    )

pub fetch_add-requires : goal.fetch_add-requires
fetch_add-requires g c = (search rules, search rules, raises g.T.Stands.entries g.T.Stands.origin _ _ _ _ _ refl (ap (λ v. v.phase) c.load.ensures.2.1))
