use Rattle.std.proofs.Common.{◌≡◌, Some, sym, ap, subst, ◌∙◌}
use Rattle.ck_model.specs.declared.held.Held.{Held}
use Rattle.ck_model.specs.Table.{IsTable, column, with_entry}
use Rattle.ck_model.specs.Chain.{as_mark}
use Rattle.ck_nodata.specs.Stripped.{IsStrip}
use Rattle.ck_nodata.proofs.StripLemmas.{strip_is}
use Rattle.ck_nodata.proofs.marks.strip.Goals as goal

pub returns : goal.returns
returns g c =
    let t = g.M.Meta.table c.args.meta.now in
    let item = c.args.item in
    let held = c.unwrap-held.result in
    let at : column t item.key item.id ≡ Some held = sym c.get.ensures ∙ c.unwrap-held.ensures in
    let new : g.M.Meta.table c.put.new.self ≡ with_entry t item.id item.key (Some (as_mark held)) = c.put.ensures ∙ ap (λ (h : Held). with_entry t item.id item.key (Some h)) c.as_mark.ensures in
    subst (λ u. IsStrip t u item (record { block = c.block_in.result })) (sym new)
    (subst (λ o. IsStrip t (with_entry t item.id item.key (Some (as_mark held))) item (record { block = o })) (sym c.block_in.ensures)
    (strip_is t item held (g.met.M.Meta.lawful c.args.meta.now) (subst IsTable new (g.met.M.Meta.lawful c.put.new.self)) c.requires.sound c.requires.unstripped at))
