use Rattle.std.proofs.Common.{◌≡◌, ◌<◌, ◌+◌, [], ◌++◌, length, length-append, set, is_ok, cond, true, vec_len, vec_capacity, sym, ap, subst, ◌∙◌, arith}
use Rattle.std.specs.List.{concat, insert}
use Rattle.std.proofs.lemmas.List.{get_or_default}
use Rattle.ck_slots.specs.Pieces.{piece_at, AreFilled}
use Rattle.ck_slots.proofs.PieceLemmas.{concat-split, filled-split}
use Rattle.ck_slots.proofs.order.Order.split.Goals as goal

pub invariant_of-self-clause-filled : goal.invariant_of-self-clause-filled
invariant_of-self-clause-filled c =
    let o = c.args.self.now in
    let at = c.args.at in
    let ps = o.pieces.items in
    let lower = c.halve.new.self in
    let upper = c.halve.new.upper in
    let parts : piece_at ps at ≡ lower ++ upper = sym (c.index_mut.ensures.value ∙ get_or_default ps at c.index_mut.result.now [] c.requires.within) ∙ c.halve.ensures.parts in
    let long : length (piece_at ps at) ≡ length lower + length upper = ap length parts ∙ length-append lower upper in
    let room : vec_len o.pieces < vec_capacity o.pieces = omega (arith, o.pieces_room, c.requires.spare) in
    let ok : is_ok c.insert.result ≡ true = c.insert.ensures.succeeds room in
    let is = c.insert.ensures.items ∙ ap (λ b. cond b (insert (set ps at lower) (at + 1) upper) (set ps at lower)) ok in
    subst (λ qs. AreFilled qs) (sym is)
    (filled-split ps at (at + 1) lower upper (omega arith) c.requires.within (omega (arith, c.halve.ensures.half)) (omega (arith, long, c.requires.full, c.halve.ensures.half)) o.filled)

pub returns-clause-numbers : goal.returns-clause-numbers
returns-clause-numbers c =
    let at = c.args.at in
    let ps = c.args.self.now.pieces.items in
    let lower = c.halve.new.self in
    let upper = c.halve.new.upper in
    let parts : piece_at ps at ≡ lower ++ upper = sym (c.index_mut.ensures.value ∙ get_or_default ps at c.index_mut.result.now [] c.requires.within) ∙ c.halve.ensures.parts in
    let is = c.insert.ensures.items ∙ ap (λ r. cond (is_ok r) (insert (set ps at lower) (at + 1) upper) (set ps at lower)) c.unwrap.ensures in
    ap concat is ∙ concat-split ps at (at + 1) lower upper (omega arith) c.requires.within parts
