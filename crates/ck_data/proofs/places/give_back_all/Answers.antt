use Rattle.std.proofs.Common.{◌≡◌, ◌+◌, suc, ◌∷◌, drop, drop-cons, sym, ap, subst, ◌∙◌, arith}
use Rattle.ck_model.specs.declared.change.Change.TheVariants.{Write}
use Rattle.ck_data.proofs.PlaceLemmas.{IsGivingBack, giving-write}
use Rattle.ck_data.proofs.places.give_back_all.Goals as goal

pub loop-change-preserved : goal.loop-change-preserved
loop-change-preserved c =
    let i = c.loop-change.change-index in
    let items = c.args.changes.now in
    let next : suc i ≡ i + 1 = omega arith in
    let item = Write c.in-Write.field-0 c.in-Write.field-1 c.in-Write.place in
    let split : drop i items ≡ item ∷ drop (i + 1) items =
    drop-cons items i c.change-item.result (omega arith) ∙ ap (λ x. x ∷ drop (suc i) items) (sym c.change-item.is ∙ c.in-Write.is) ∙ ap (λ n. item ∷ drop n items) next in
    record {
      within = omega arith;
      giving = giving-write c.args.blocks.now items c.in-Write.field-0 c.in-Write.field-1 c.in-Write.place (drop (i + 1) items) c.loop-change.blocks c.give_back.new.self c.give_back.ensures.free c.give_back.ensures.partition
          (subst (λ rest. IsGivingBack c.args.blocks.now items rest c.loop-change.blocks) split c.loop-change.invariant.giving);
    }
