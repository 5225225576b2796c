use Rattle.std.proofs.Common.{rules, ap, ◌∙◌}
use Rattle.ck_turn.proofs.Turns.{looks}
use Rattle.ck_turn.proofs.turnstile.Turnstile.wait.Goals as goal

pub load-serving-requires : goal.load-serving-requires
load-serving-requires g c = (search rules, search rules, looks g.T.Stands.entries g.T.Stands.origin _ _ _ _ (ap (λ m. m.0.phase) c.loop.invariant.2 ∙ c.requires.waits.0))
