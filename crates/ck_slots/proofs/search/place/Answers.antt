use Rattle.std.proofs.Common.{◌≡◌, ℕ, ◌<◌, ◌+◌, [], true, length, get_or, sym, ap, subst, ◌∙◌}
use Rattle.std.proofs.lemmas.List.{get_or_default}
use Rattle.std.specs.FinMap.{is_sorted}
use Rattle.ck_model.specs.Key.{entry_cmp}
use Rattle.ck_slots.specs.Arranged.{arranged}
use Rattle.ck_slots.specs.Cut.{front, stands_before}
use Rattle.ck_slots.specs.Pieces.{offset}
use Rattle.ck_slots.proofs.CutLemmas.{front_pieces, front_end, all_behind, sorted_piece, inside_piece}
use Rattle.ck_slots.proofs.search.place.Goals as goal

pub count_before-within-requires-clause-sorted : goal.count_before-within-requires-clause-sorted
count_before-within-requires-clause-sorted c =
    let ps = c.args.order.now.pieces.items in
    let piece = c.piece_of-piece.result in
    let read = c.as_slice.ensures ∙ c.index.ensures ∙ get_or_default ps piece c.index.result.now [] c.piece_of-piece.ensures.there in
    subst (λ p. is_sorted entry_cmp (arranged c.args.slots.now p) ≡ true) (sym read) (sorted_piece c.args.slots.now ps piece c.piece_of-piece.ensures.there c.requires.sorted)

pub count_before-within-requires-clause-within : goal.count_before-within-requires-clause-within
count_before-within-requires-clause-within c =
    let ps = c.args.order.now.pieces.items in
    let piece = c.piece_of-piece.result in
    let read = c.as_slice.ensures ∙ c.index.ensures ∙ get_or_default ps piece c.index.result.now [] c.piece_of-piece.ensures.there in
    subst (λ p. (k : ℕ) → k < length p → get_or p k 0 < length c.args.slots.now) (sym read) (inside_piece c.args.slots.now ps c.requires.within piece c.piece_of-piece.ensures.there)

pub returns-clause-front : goal.returns-clause-front
returns-clause-front c =
    let slots = c.args.slots.now in
    let ps = c.args.order.now.pieces.items in
    let piece = c.piece_of-piece.result in
    let test = stands_before c.args.cut.now in
    let read = c.as_slice.ensures ∙ c.index.ensures ∙ get_or_default ps piece c.index.result.now [] c.piece_of-piece.ensures.there in
    ap (λ n. offset ps piece + n) (c.count_before-within.ensures.front ∙ ap (λ p. front test (arranged slots p)) read)
    ∙ front_pieces slots test ps piece c.piece_of-piece.ensures.there c.piece_of-piece.ensures.behind (front_end slots test ps piece c.piece_of-piece.ensures.there c.piece_of-piece.ensures.before)

pub returns-clause-end : goal.returns-clause-end
returns-clause-end c end =
    let slots = c.args.slots.now in
    let ps = c.args.order.now.pieces.items in
    let piece = c.piece_of-piece.result in
    let test = stands_before c.args.cut.now in
    let read = c.as_slice.ensures ∙ c.index.ensures ∙ get_or_default ps piece c.index.result.now [] c.piece_of-piece.ensures.there in
    let is = front_pieces slots test ps piece c.piece_of-piece.ensures.there c.piece_of-piece.ensures.behind (front_end slots test ps piece c.piece_of-piece.ensures.there c.piece_of-piece.ensures.before) in
    let here = c.count_before-within.ensures.front ∙ ap (λ p. front test (arranged slots p)) read in
    all_behind slots test ps piece c.piece_of-piece.ensures.there c.piece_of-piece.ensures.before c.count_before-within.result end (ap (λ n. offset ps piece + n) here ∙ is)
