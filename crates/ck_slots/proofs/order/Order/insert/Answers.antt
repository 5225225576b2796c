use Rattle.std.proofs.Common.{[], set, refl, ap, ◌∙◌}
use Rattle.std.specs.List.{concat, insert}
use Rattle.std.proofs.lemmas.List.{get_or_default}
use Rattle.ck_slots.specs.Order.{numbers_in, index_in}
use Rattle.ck_slots.proofs.PieceLemmas.{inserted_in}
use Rattle.ck_slots.proofs.order.Order.insert.Goals as goal

pub returns-clause-numbers : goal.returns-clause-numbers
returns-clause-numbers c =
    let o = c.with_room-place.new.self in
    let place = c.with_room-place.result in
    let there = c.with_room-place.ensures.place in
    ap (λ p. concat (set o.pieces.items place.piece p)) (c.insert.ensures ∙ ap (λ p. insert p place.within c.args.number) (c.index_mut.ensures.value ∙ get_or_default o.pieces.items place.piece c.index_mut.result.now [] there.piece))
    ∙ inserted_in o.pieces.items place.piece place.within (index_in o place) c.args.number refl there.piece there.within
    ∙ ap (λ k. insert (numbers_in o) k c.args.number) c.with_room-place.ensures.index
    ∙ ap (λ ns. insert ns (index_in c.args.self.now c.args.place) c.args.number) c.with_room-place.ensures.numbers
