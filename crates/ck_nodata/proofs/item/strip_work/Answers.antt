use Rattle.std.proofs.Common.{◌≡◌, ℕ, true, false, IfSome, IfNone, sym, subst}
use Rattle.ck_model.specs.declared.key.Key.{Key}
use Rattle.ck_model.specs.Placed.{AllStripped, NoneGone}
use Rattle.ck_model.specs.Rules.{IsOrderly}
use Rattle.ck_nodata.specs.StripItem.{is_unstripped}
use Rattle.ck_nodata.proofs.WorkLemmas.{no_work, no_work_stripped, work_is}
use Rattle.ck_nodata.proofs.item.strip_work.Goals as goal

pub returns-clause-some : goal.returns-clause-some
returns-clause-some g c =
    let t = g.M.Meta.table c.args.meta.now in
    subst (λ o. IfSome o (λ item. is_unstripped t item.id item.key ≡ true)) (sym c.first_strip.ensures) (work_is t)

pub returns-clause-none : goal.returns-clause-none
returns-clause-none g c =
    let t = g.M.Meta.table c.args.meta.now in
    subst (λ o. IfNone o ((fs : ℕ) (key : Key) → is_unstripped t fs key ≡ false)) (sym c.first_strip.ensures) (no_work t (g.met.M.Meta.lawful c.args.meta.now))

pub returns-clause-stripped : goal.returns-clause-stripped
returns-clause-stripped g c =
    let t = g.M.Meta.table c.args.meta.now in
    subst (λ o. IfNone o (IsOrderly t → NoneGone t → AllStripped t)) (sym c.first_strip.ensures) (no_work_stripped t (g.met.M.Meta.lawful c.args.meta.now))
