use Rattle.std.proofs.Common.{rules, refl, sym, ap, ◌∙◌, [], ◌∷◌, Some, None}
use Rattle.atomic_table.specs.Table.{rest}
use Rattle.ck_turn.proofs.Turns.{vacates, gives_back, raises}
use Rattle.ck_turn.proofs.turnstile.Turnstile.first.Goals as goal

pub load-requires : goal.load-requires
load-requires g c = (search rules, search rules, vacates g.T.Stands.entries g.T.Stands.origin _ _ _ _ (ap (λ m. m.0.phase) c.requires.fresh))

pub load-requires-2 : goal.load-requires-2
load-requires-2 g c =
    let now = c.exchange.ensures.3 in
    let left = c.load.ensures.2 in
    let v = ap (λ m. m.0) now ∙ left.1 in (
      search rules,
      search rules,
      gives_back g.T.Stands.entries g.T.Stands.origin _ _ _ _ c.args.value
          (ap (λ v. v.phase) v)
          (ap (λ m. m.1) now ∙ ap (λ l. (0, Some c.args.value) ∷ rest l) (left.0 ∙ ap (λ m. (0, None) ∷ m.1) c.requires.fresh))
          (c.requires.empty ∙ sym (ap (λ v. v.seen) v ∙ ap (λ m. m.0.seen) c.requires.fresh))
          (sym (ap (λ v. v.origin) v ∙ ap (λ m. m.0.origin) c.requires.fresh)),
    )

pub fetch_add-requires : goal.fetch_add-requires
fetch_add-requires g c = (search rules, search rules, raises g.T.Stands.entries g.T.Stands.origin _ _ _ _ _ refl (ap (λ v. v.phase) c.load-2.ensures.2.1))
