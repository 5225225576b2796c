use Rattle.std.proofs.Common.{is_some, sym, ap, subst, ◌≡◌, false, ◌∙◌}
use Rattle.ck_nodata.specs.StripItem.{strip_in}
use Rattle.ck_nodata.proofs.WorkLaws.{over_bare, over_before, over_behind, some_found}
use Rattle.ck_files.proofs.strip.is_left.Goals.{then-id-stripped-2, else-id-stripped-2}
use Rattle.ck_files.proofs.strip.is_left.Goals as goal

pub returns-then-id-stripped-clause-over : goal.returns-then-id-stripped-clause-over
returns-then-id-stripped-clause-over g c _ = over_before (g.M.Meta.table c.args.meta.now) c.args.id c.args.stripped c.requires c.if-id-stripped.true

pub returns-clause-left : goal.returns-clause-left
returns-clause-left g c found =
    some_found (g.M.Meta.table c.args.meta.now) c.args.id c.if-id-stripped-2.after (ap is_some (sym c.strip_in.ensures) ∙ sym c.is_some.ensures ∙ found)

pub returns-clause-over : goal.returns-clause-over
returns-clause-over g c none =
    let t = g.M.Meta.table c.args.meta.now in
    let id = c.args.id in
    let bare : is_some (strip_in t id c.if-id-stripped-2.after) ≡ false = ap is_some (sym c.strip_in.ensures) ∙ sym c.is_some.ensures ∙ none in
    elim c.if-id-stripped-2.branch [
      | then-id-stripped-2 w ↦ over_behind t id c.args.stripped c.requires w.if-id-stripped-2.true (subst (λ o. is_some (strip_in t id o) ≡ false) w.after-is bare)
      | else-id-stripped-2 w ↦ over_bare t id (subst (λ o. is_some (strip_in t id o) ≡ false) w.after-is bare)
    ]
