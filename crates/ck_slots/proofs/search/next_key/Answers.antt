use Rattle.std.proofs.Common.{◌≡◌, ◌<◌, ℕ, length, get_or, T, sym, ap, subst, ◌∙◌, arith}
use Rattle.std.specs.Option.{option_copied}
use Rattle.ck_model.specs.declared.key.Key.{Key}
use Rattle.ck_model.specs.declared.held.Held.{Held}
use Rattle.ck_slots.specs.Arranged.{arranged, entry_of, no_slot}
use Rattle.ck_slots.specs.Cut.{front, stands_before, cut_behind}
use Rattle.ck_slots.specs.Order.{numbers_in, index_in}
use Rattle.ck_slots.proofs.ArrangedLemmas.{length-arranged, get_or-arranged}
use Rattle.ck_slots.proofs.NextKeyLemmas.{next_at_cut, none_at_cut}
use Rattle.ck_slots.proofs.PieceLemmas.{index_inside}
use Rattle.ck_slots.proofs.search.next_key.Goals as goal

pub returns-then-not-has : goal.returns-then-not-has
returns-then-not-has c =
    let slots = c.args.slots.now in
    let order = numbers_in c.args.order.now in
    let es = arranged slots order in
    let after = option_copied c.args.after in
    let front_is : front (stands_before (cut_behind c.args.fileset after)) es ≡ index_in c.args.order.now c.place-at.result =
    ap (λ cut. front (stands_before cut) es) (sym c.behind.ensures) ∙ sym c.place-at.ensures.front in
    let end = c.place-at.ensures.end (c.has.ensures.end c.if-not-has.true) in
    none_at_cut c.args.fileset after es (entry_of no_slot) (subst T (sym c.requires.sorted) tt) (λ within. absurd (omega (arith, within, front_is, length-arranged slots order, end)))

pub bounds-slots-number : goal.bounds-slots-number
bounds-slots-number c =
    let o = c.args.order.now in
    let at = index_in o c.place-at.result in
    let taken = c.has.ensures.taken c.if-not-has.false in
    omega (arith, c.number.ensures, c.requires.within at (index_inside o.pieces.items c.place-at.result taken))

pub returns-else-slot-fileset : goal.returns-else-slot-fileset
returns-else-slot-fileset c =
    let slots = c.args.slots.now in
    let o = c.args.order.now in
    let order = numbers_in o in
    let es = arranged slots order in
    let after = option_copied c.args.after in
    let at = index_in o c.place-at.result in
    let front_is : front (stands_before (cut_behind c.args.fileset after)) es ≡ at =
    ap (λ cut. front (stands_before cut) es) (sym c.behind.ensures) ∙ sym c.place-at.ensures.front in
    let taken = c.has.ensures.taken c.if-not-has.false in
    let inside : at < length order = index_inside o.pieces.items c.place-at.result taken in
    let is = get_or-arranged slots order at (entry_of no_slot) c.index-slots-number.result inside (c.requires.within at inside) (subst (λ n. c.index-slots-number.result ≡ get_or slots n c.index-slots-number.result) c.number.ensures c.index-slots-number.is) in
    none_at_cut c.args.fileset after es (entry_of no_slot) (subst T (sym c.requires.sorted) tt) (λ within same. c.if-slot-fileset.false (ap (λ (e : (ℕ × Key) × Held). e.0.0) (sym is ∙ ap (λ n. get_or es n (entry_of no_slot)) (sym front_is)) ∙ same))

pub returns-then-slot-fileset : goal.returns-then-slot-fileset
returns-then-slot-fileset c =
    let slots = c.args.slots.now in
    let o = c.args.order.now in
    let order = numbers_in o in
    let es = arranged slots order in
    let after = option_copied c.args.after in
    let at = index_in o c.place-at.result in
    let slot = c.index-slots-number.result in
    let front_is : front (stands_before (cut_behind c.args.fileset after)) es ≡ at =
    ap (λ cut. front (stands_before cut) es) (sym c.behind.ensures) ∙ sym c.place-at.ensures.front in
    let taken = c.has.ensures.taken c.if-not-has.false in
    let inside : at < length order = index_inside o.pieces.items c.place-at.result taken in
    let is = get_or-arranged slots order at (entry_of slot) slot inside (c.requires.within at inside) (subst (λ n. slot ≡ get_or slots n slot) c.number.ensures c.index-slots-number.is) in
    next_at_cut c.args.fileset after es (entry_of slot) (subst T (sym c.requires.sorted) tt) (omega (arith, front_is, inside, length-arranged slots order)) (ap (λ n. get_or es n (entry_of slot)) front_is ∙ is) c.if-slot-fileset.true
