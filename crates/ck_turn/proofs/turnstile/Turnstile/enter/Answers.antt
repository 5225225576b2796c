use Rattle.std.proofs.Common.{rules, refl, sym, ap, ◌∙◌, ◌∷◌, Some}
use Rattle.atomic_table.specs.Table.{rest}
use Rattle.ck_turn.proofs.Rests.{rests_outside}
use Rattle.ck_turn.proofs.Turns.{draws, takes_it}
use Rattle.ck_turn.proofs.turnstile.Turnstile.enter.Goals as goal

pub fetch_add-ticket-requires : goal.fetch_add-ticket-requires
fetch_add-ticket-requires g c = (
  search rules,
  search rules,
  draws g.T.Stands.entries g.T.Stands.origin _ _ _ _ _ refl (rests_outside c.pass.inside.token.me c.pass.invariant (ap (λ p. p.inside) c.pass.view_is ∙ c.requires.outside)).0,
)

pub load-requires : goal.load-requires
load-requires g c = (search rules, search rules, takes_it g.T.Stands.entries g.T.Stands.origin _ _ _ _ (ap (λ m. m.0.phase) c.wait.ensures.called))

pub exchange-requires : goal.exchange-requires
exchange-requires g c = let took = c.load.ensures.2 in (search rules, (Some took.0, took.1 ∙ (λ i. (0, Some took.0) ∷ sym (ap rest took.1) i)))
