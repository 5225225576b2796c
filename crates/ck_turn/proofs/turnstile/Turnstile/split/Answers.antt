use Rattle.std.proofs.Common.{rules, ap, ◌∙◌, ◌<◌}
use Rattle.ck_turn.proofs.Rests.{rests_outside}
use Rattle.ck_turn.proofs.Passes.{splits}
use Rattle.ck_turn.proofs.turnstile.Turnstile.split.Goals as goal

pub split_seat-requires : goal.split_seat-requires
split_seat-requires g c =
    let v = c.pass.inside.token.me.0 in
    let room : v.splits < c.self.inside.table.shared.key.callers = rw (ap (λ p. p.splits) c.pass.view_is, ap (λ t. t.callers) c.self.view_is) c.requires.room in (
      search rules,
      search rules,
      splits g.T.Stands.entries g.T.Stands.origin _ _ _
          (ap (λ p. p.first) c.pass.view_is ∙ c.requires.first)
          (rests_outside c.pass.inside.token.me c.pass.invariant (ap (λ p. p.inside) c.pass.view_is ∙ c.requires.outside)).0
          room,
    )
