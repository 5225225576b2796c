use Rattle.std.proofs.Common.{◌≡◌, ℕ, ◌*◌, ◌≤◌, length, get_or, sym, ap, ◌∙◌, arith, below_more}
use Rattle.std.proofs.lemmas.List.{get_or_default}
use Rattle.ck_record.specs.declared.records.Record.TheVariants.{Free}
use Rattle.ck_record.specs.Record.{spelling}
use Rattle.ck_area.proofs.TextLemmas.{slot_written, slot_kept}
use Rattle.ck_area.proofs.text.spell_block.Goals as goal

pub loop-place-preserved : goal.loop-place-preserved
loop-place-preserved c =
    let start : ℕ = 128 * c.loop-place.place in
    let within : start ≤ length c.loop-place.into = omega (arith, c.requires.count, c.told-into) in
    let value = c.index-records-place.result in
    let read : get_or c.args.records.now c.loop-place.place Free ≡ value = get_or_default c.args.records.now c.loop-place.place Free value (omega arith) ∙ sym c.index-records-place.is in
    below_more _ _
    (λ k below. slot_kept start (128 * k) c.loop-place.into c.copy_from_slice.new.self within (omega arith) ∙ c.loop-place.invariant k below)
    (slot_written start c.loop-place.into c.copy_from_slice.new.self within (omega arith) ∙ c.copy_from_slice.ensures.after ∙ c.encode.ensures ∙ ap spelling (sym read))
