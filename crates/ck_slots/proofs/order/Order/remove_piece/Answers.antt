use Rattle.std.proofs.Common.{◌<◌, [], length, get_or, sym, ap, ◌∙◌, arith}
use Rattle.std.specs.List.{concat}
use Rattle.std.proofs.lemmas.List.{get_or_default}
use Rattle.ck_slots.specs.Pieces.{offset}
use Rattle.ck_slots.proofs.PieceLemmas.{number_at, removed_with}
use Rattle.ck_slots.proofs.order.Order.remove_piece.Goals as goal

pub returns-clause-number : goal.returns-clause-number
returns-clause-number c =
    let ps = c.args.self.now.pieces.items in
    let at = c.args.at in
    let within : at < length ps = omega (arith, c.requires.within) in
    c.remove-number.ensures.number
    ∙ ap (λ p. get_or p 0 0) (c.remove-piece.ensures.value ∙ get_or_default ps at c.remove-piece.result [] within)
    ∙ sym (number_at ps at 0 (offset ps at) 0 (omega arith) within (omega (arith, c.requires.one)))

pub returns-clause-numbers : goal.returns-clause-numbers
returns-clause-numbers c =
    let ps = c.args.self.now.pieces.items in
    ap concat c.remove-piece.ensures.items ∙ removed_with ps c.args.at (omega (arith, c.requires.within)) c.requires.one
