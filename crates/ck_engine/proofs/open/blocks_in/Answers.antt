use Rattle.std.proofs.Common.{◌≡◌, ◌<◌, ℕ, List, length, slice_index_or, sym, subst, ◌∙◌}
use Rattle.ck_model.specs.TableWorld.{extents_of}
use Rattle.ck_slots.specs.Slots.{table_in}
use Rattle.ck_engine.proofs.OpenLemmas.{extents_below, extents_allocated, if_ok_both}
use Rattle.ck_engine.proofs.open.blocks_in.Goals as goal

pub rebuild-requires : goal.rebuild-requires
rebuild-requires c =
    let t = table_in c.args.slots.now in
    let is : c.deref.result.now ≡ extents_of t = c.deref.ensures.value ∙ c.in_ok-used.ensures in
    λ k d low.
    subst (λ (n : ℕ). slice_index_or c.deref.result.now k d < n) (sym c.blocks-2.ensures)
    (subst (λ (xs : List ℕ). slice_index_or xs k d < t.blocks) (sym is) (extents_below t c.requires.sound k d (subst (λ (xs : List ℕ). k < length xs) is low)))

pub returns : goal.returns
returns c =
    let t = table_in c.args.slots.now in
    if_ok_both _ _ _ c.rebuild.result
    (λ blocks value partition. extents_allocated t blocks c.blocks-2.result c.deref.result.now c.blocks-2.ensures (c.deref.ensures.value ∙ c.in_ok-used.ensures) value partition)
    c.rebuild.ensures.value c.rebuild.ensures.partition
