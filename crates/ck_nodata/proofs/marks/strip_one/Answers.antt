use Rattle.std.proofs.Common.{◌≡◌, true, None, IfSome, is_some, sym, ap, subst, ◌∙◌}
use Rattle.std.proofs.lemmas.Bool.{true≢false}
use Rattle.ck_model.proofs.CaseLaws.{none_some}
use Rattle.ck_nodata.specs.StripItem.{is_unstripped, strip_in}
use Rattle.ck_nodata.proofs.WorkLemmas.{none_where_through, strip_in_is, through_where_none}
use Rattle.ck_nodata.proofs.marks.strip_one.Goals as goal

pub returns-in_err-item-clause-none : goal.returns-in_err-item-clause-none
returns-in_err-item-clause-none g c =
    let t = g.M.Meta.table c.args.meta.now in
    let none : strip_in t c.args.id None ≡ None = sym c.strip_in.ensures ∙ c.in_err-item.was in
    ((λ _. through_where_none t c.args.id c.requires.live none), (λ _. ap is_some c.from_residual.ensures))

pub strip-requires-clause-unstripped : goal.strip-requires-clause-unstripped
strip-requires-clause-unstripped g c =
    let t = g.M.Meta.table c.args.meta.now in
    subst (λ o. IfSome o (λ item. is_unstripped t item.id item.key ≡ true)) (sym c.strip_in.ensures ∙ c.in_ok-item.was) (strip_in_is t c.args.id None)

pub returns-clause-none : goal.returns-clause-none
returns-clause-none g c =
    let t = g.M.Meta.table c.args.meta.now in (
      (λ wrong. absurd (true≢false wrong)),
      (λ through. absurd (none_some c.in_ok-item.item (sym (none_where_through t c.args.id through) ∙ sym c.strip_in.ensures ∙ c.in_ok-item.was))),
    )
