use Rattle.std.proofs.Common.{◌≡◌, ◌<◌, length, get_or, T, sym, ap, subst, ◌∙◌, arith}
use mathlib.Core.Bool.{false≢true}
use Rattle.ck_model.specs.Key.{entry_cmp_total, entry_cmp_exact}
use Rattle.ck_model.proofs.PlaceLaws.{find_gap}
use Rattle.ck_slots.specs.declared.search.Cut.TheVariants.{Before}
use Rattle.ck_slots.specs.Arranged.{arranged, entry_of, no_slot}
use Rattle.ck_slots.specs.Cut.{stands_before}
use Rattle.ck_slots.specs.Order.{numbers_in, index_in}
use Rattle.ck_slots.proofs.ArrangedLemmas.{length-arranged, get_or-arranged}
use Rattle.ck_slots.proofs.Cuts.{front_le}
use Rattle.ck_slots.proofs.PieceLemmas.{index_inside}
use Rattle.ck_slots.proofs.search.search.Goals.{else-has-via-then-has+else-is_entry, else-has-via-else-has}
use Rattle.ck_slots.proofs.search.search.Goals as goal

pub bounds-slots-number : goal.bounds-slots-number
bounds-slots-number c =
    let o = c.args.order.now in
    let at = index_in o c.place-at.result in
    omega (arith, c.number.ensures, c.requires.within at (index_inside o.pieces.items c.place-at.result (c.has.ensures.taken c.if-has.true)))

pub returns-then-is_entry-clause-found : goal.returns-then-is_entry-clause-found
returns-then-is_entry-clause-found c =
    let slots = c.args.slots.now in
    let o = c.args.order.now in
    let order = numbers_in o in
    let at = index_in o c.place-at.result in
    let slot = c.index-slots-number.result in
    let inside : at < length order = index_inside o.pieces.items c.place-at.result (c.has.ensures.taken c.if-has.true) in
    let key = c.is_entry.ensures.0 c.if-is_entry.true in
    record {
      place = c.place-at.ensures.front;
      within = omega (arith, inside, length-arranged slots order);
      same = λ d. ap (λ e. e.0) (get_or-arranged slots order at d slot inside (c.requires.within at inside) (subst (λ n. slot ≡ get_or slots n slot) c.number.ensures c.index-slots-number.is)) ∙ (λ i. (key.0 i, key.1 i));
    }

pub returns-else-has-clause-absent : goal.returns-else-has-clause-absent
returns-else-has-clause-absent c =
    let slots = c.args.slots.now in
    let o = c.args.order.now in
    let order = numbers_in o in
    let es = arranged slots order in
    let at = index_in o c.place-at.result in
    let long = length-arranged slots order in
    record {
      place = c.place-at.ensures.front;
      within = omega (arith, c.place-at.ensures.front, front_le (stands_before (Before c.args.fileset c.args.key.now)) es);
      none = find_gap entry_cmp_total entry_cmp_exact (c.args.fileset, c.args.key.now) es (entry_of no_slot) (subst T (sym c.requires.sorted) tt) (subst (λ n. n < length es → (get_or es n (entry_of no_slot)).0 ≡ (c.args.fileset, c.args.key.now) → ⊥) c.place-at.ensures.front (λ within same.
          elim c.else-has.branch [
            | else-has-via-then-has+else-is_entry w ↦
                let inside : at < length order = index_inside o.pieces.items c.place-at.result (c.has.ensures.taken w.if-has.true) in
                let slot = w.index-slots-number.result in
                let is = get_or-arranged slots order at (entry_of no_slot) slot inside (c.requires.within at inside) (subst (λ n. slot ≡ get_or slots n slot) w.number.ensures w.index-slots-number.is) in
                let key = ap (λ e. e.0) (sym is) ∙ same in
                false≢true (sym w.if-is_entry.false ∙ w.is_entry.ensures.1 (ap (λ k. k.0) key, ap (λ k. k.1) key))
            | else-has-via-else-has w ↦ absurd (omega (arith, c.place-at.ensures.end (c.has.ensures.end w.if-has.false), within, long))
          ]));
    }
