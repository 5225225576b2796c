use Rattle.std.proofs.Common.{[], get_or, refl, sym, ap, ◌∙◌}
use Rattle.std.proofs.lemmas.List.{get_or_default}
use Rattle.ck_slots.specs.Order.{index_in}
use Rattle.ck_slots.proofs.PieceLemmas.{number_at}
use Rattle.ck_slots.proofs.order.Order.number.Goals as goal

pub returns : goal.returns
returns c =
    let o = c.args.self.now in
    let place = c.args.place in
    ap (λ ns. get_or ns place.within 0) (c.as_slice.ensures ∙ c.index-piece.ensures ∙ get_or_default o.pieces.items place.piece c.index-piece.result.now [] c.requires.piece)
    ∙ sym (number_at o.pieces.items place.piece place.within (index_in o place) 0 refl c.requires.piece c.requires.within)
