use Rattle.std.proofs.Common.{◌≡◌, ℕ, IfNone, IfSome, true, false, sym, subst, arith}
use Rattle.ck_reclaim.specs.Removable.{is_removable, pick_of}
use Rattle.ck_reclaim.proofs.PickLaws.{pick_removable, none_if, none_removable}
use Rattle.ck_reclaim.proofs.removable.pick.Goals as goal

pub returns-clause-some : goal.returns-clause-some
returns-clause-some g c =
    let t = g.M.Meta.table c.args.meta.now in
    let is : c.or.result ≡ pick_of t = grind arith in
    subst (λ o. IfSome o (λ id. is_removable t id ≡ true)) (sym is) (pick_removable t)

pub returns-clause-none : goal.returns-clause-none
returns-clause-none g c =
    let t = g.M.Meta.table c.args.meta.now in
    let is : c.or.result ≡ pick_of t = grind arith in
    subst (λ o. IfNone o ((id : ℕ) → is_removable t id ≡ false)) (sym is)
    (none_if (pick_of t) (λ none. none_removable t (g.met.M.Meta.lawful c.args.meta.now) none))
