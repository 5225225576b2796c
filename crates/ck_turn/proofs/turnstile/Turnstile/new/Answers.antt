use Rattle.std.proofs.Common.{rules}
use Rattle.ck_turn.proofs.Passes.{opens}
use Rattle.ck_turn.proofs.turnstile.Turnstile.new.Goals as goal

pub vacant-requires : goal.vacant-requires
vacant-requires g c = opens g.T.Stands.entries g.T.Stands.origin c.args.value _ (search rules)
