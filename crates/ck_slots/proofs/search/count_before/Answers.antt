use Rattle.std.proofs.Common.{◌≡◌, ◌<◌, ◌+◌, ◌-◌, ◌/◌, true, false, length, get_or, T, sym, ap, subst, ◌∙◌, arith}
use Rattle.ck_model.specs.Key.{entry_cmp}
use Rattle.ck_slots.specs.Arranged.{arranged, entry_of, no_slot}
use Rattle.ck_slots.specs.Cut.{stands_before}
use Rattle.ck_slots.proofs.ArrangedLemmas.{length-arranged, get_or-arranged}
use Rattle.ck_slots.proofs.Cuts.{front_above, front_below, front_le, cut_falls}
use Rattle.ck_slots.proofs.search.count_before.Goals as goal

pub loop-low-init : goal.loop-low-init
loop-low-init c =
    let es = arranged c.args.slots.now c.args.order.now in
    let few = front_le (stands_before c.args.cut.now) es in
    let long = length-arranged c.args.slots.now c.args.order.now in
    record { above = omega arith; below = omega (arith, few, long); within = omega arith }

pub loop-low-preserved-then-is_before : goal.loop-low-preserved-then-is_before
loop-low-preserved-then-is_before c =
    let slots = c.args.slots.now in
    let order = c.args.order.now in
    let middle = c.loop-low.low + (c.loop-low.high - c.loop-low.low) / 2 in
    let within : middle < length order = omega arith in
    let is = get_or-arranged slots order middle (entry_of no_slot) c.index-slots-order.result within (c.requires.within middle within) c.index-slots-order.is in
    let passes : stands_before c.args.cut.now (get_or (arranged slots order) middle (entry_of no_slot)).0 ≡ true =
    ap (λ e. stands_before c.args.cut.now e.0) is ∙ sym c.is_before.ensures ∙ c.if-is_before.true in
    let inside : middle < length (arranged slots order) = omega (arith, length-arranged slots order) in
    let above = front_above entry_cmp (stands_before c.args.cut.now) (cut_falls c.args.cut.now) (arranged slots order) middle (entry_of no_slot) (subst T (sym c.requires.sorted) tt) inside passes in
    record { above = omega (arith, above); below = c.loop-low.invariant.below; within = c.loop-low.invariant.within }

pub loop-low-preserved : goal.loop-low-preserved
loop-low-preserved c =
    let slots = c.args.slots.now in
    let order = c.args.order.now in
    let middle = c.loop-low.low + (c.loop-low.high - c.loop-low.low) / 2 in
    let within : middle < length order = omega arith in
    let is = get_or-arranged slots order middle (entry_of no_slot) c.index-slots-order.result within (c.requires.within middle within) c.index-slots-order.is in
    let fails : stands_before c.args.cut.now (get_or (arranged slots order) middle (entry_of no_slot)).0 ≡ false =
    ap (λ e. stands_before c.args.cut.now e.0) is ∙ sym c.is_before.ensures ∙ c.if-is_before.false in
    let inside : middle < length (arranged slots order) = omega (arith, length-arranged slots order) in
    let below = front_below (stands_before c.args.cut.now) (arranged slots order) middle (entry_of no_slot) inside fails in
    record { above = c.loop-low.invariant.above; below = below; within = omega arith }
