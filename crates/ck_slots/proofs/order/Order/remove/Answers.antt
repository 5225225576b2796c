use Rattle.std.proofs.Common.{[], set, get_or, refl, sym, ap, ◌∙◌}
use Rattle.std.specs.List.{concat, remove}
use Rattle.std.proofs.lemmas.List.{get_or_default}
use Rattle.ck_slots.specs.Order.{index_in}
use Rattle.ck_slots.proofs.PieceLemmas.{number_at, removed_in}
use Rattle.ck_slots.proofs.order.Order.remove.Goals as goal

pub returns-clause-number : goal.returns-clause-number
returns-clause-number c =
    let ps = c.args.self.now.pieces.items in
    let place = c.args.place in
    c.remove.ensures.number
    ∙ ap (λ p. get_or p place.within 0) (c.index_mut.ensures.value ∙ get_or_default ps place.piece c.index_mut.result.now [] c.requires.piece)
    ∙ sym (number_at ps place.piece place.within (index_in c.args.self.now place) 0 refl c.requires.piece c.requires.within)

pub returns-clause-numbers : goal.returns-clause-numbers
returns-clause-numbers c =
    let ps = c.args.self.now.pieces.items in
    let place = c.args.place in
    ap (λ p. concat (set ps place.piece p)) (c.remove.ensures.rest ∙ ap (λ p. remove p place.within) (c.index_mut.ensures.value ∙ get_or_default ps place.piece c.index_mut.result.now [] c.requires.piece))
    ∙ removed_in ps place.piece place.within (index_in c.args.self.now place) refl c.requires.piece c.requires.within
