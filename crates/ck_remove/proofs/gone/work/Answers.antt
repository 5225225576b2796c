use Rattle.std.proofs.Common.{true, ◌≡◌, IfSome, sym, subst, ◌∙◌}
use Rattle.ck_model.specs.Chain.{is_gone}
use Rattle.ck_remove.proofs.OldestLemmas.{none_gone, oldest_is_gone}
use Rattle.ck_remove.proofs.gone.work.Goals as goal

pub returns-in_err-id-clause-none : goal.returns-in_err-id-clause-none
returns-in_err-id-clause-none g c =
    rw c.from_residual.ensures (none_gone (g.M.Meta.table c.args.meta.now) (g.met.M.Meta.lawful c.args.meta.now) (sym c.oldest_gone.ensures ∙ c.in_err-id.was))

pub returns-clause-some : goal.returns-clause-some
returns-clause-some g c =
    let t = g.M.Meta.table c.args.meta.now in
    subst (λ o. IfSome o (λ id. is_gone t id ≡ true)) (sym c.oldest_gone.ensures ∙ c.in_ok-id.was) (oldest_is_gone t)
