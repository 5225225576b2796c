use Rattle.std.proofs.Common.{◌≡◌, ◌<◌, ◌≤◌, suc, ◌+◌, ◌-◌, ◌/◌, [], length, get_or, sym, ap, subst, ◌∙◌, arith}
use Rattle.std.proofs.lemmas.List.{get_or_default}
use Rattle.ck_slots.specs.Arranged.{arranged}
use Rattle.ck_slots.specs.Cut.{front, stands_before}
use Rattle.ck_slots.specs.Order.{numbers_in}
use Rattle.ck_slots.specs.Pieces.{offset}
use Rattle.ck_slots.proofs.CutLemmas.{last_inside, last_before, last_behind}
use Rattle.ck_slots.proofs.search.piece_of.Goals as goal

pub bounds-slots-last : goal.bounds-slots-last
bounds-slots-last c =
    let ps = c.args.order.now.pieces.items in
    let middle = c.loop-low.low + (c.loop-low.high - c.loop-low.low) / 2 in
    let there : middle < length ps = omega (arith, c.loop-low.invariant.there, c.loop-low-test.true) in
    let some = c.args.order.now.filled middle (omega (arith, c.loop-low.invariant.there, c.loop-low-test.true)) in
    let number_is = c.last.ensures ∙ ap (λ p. get_or p (length p - 1) 0) (c.index.ensures ∙ get_or_default ps middle c.index.result.now [] there) in
    last_inside c.args.slots.now ps c.requires.within middle there some c.last.result number_is

pub loop-low-preserved-then-is_before : goal.loop-low-preserved-then-is_before
loop-low-preserved-then-is_before c =
    let ps = c.args.order.now.pieces.items in
    let middle = c.loop-low.low + (c.loop-low.high - c.loop-low.low) / 2 in
    let there : middle < length ps = omega (arith, c.loop-low.invariant.there, c.loop-low-test.true) in
    let some = c.args.order.now.filled middle (omega (arith, c.loop-low.invariant.there, c.loop-low-test.true)) in
    let number_is = c.last.ensures ∙ ap (λ p. get_or p (length p - 1) 0) (c.index.ensures ∙ get_or_default ps middle c.index.result.now [] there) in
    let behind = last_before c.args.slots.now ps c.requires.within middle there some c.last.result number_is c.index-slots-last.result c.index-slots-last.is c.args.cut.now c.requires.sorted (sym c.is_before.ensures ∙ c.if-is_before.true) in
    let next : suc middle ≡ middle + 1 = omega arith in
    record {
      there = c.loop-low.invariant.there;
      order = omega (arith, c.loop-low-test.true);
      behind = subst (λ n. offset ps n ≤ front (stands_before c.args.cut.now) (arranged c.args.slots.now (numbers_in c.args.order.now))) next behind;
      before = c.loop-low.invariant.before;
    }

pub loop-low-preserved : goal.loop-low-preserved
loop-low-preserved c =
    let ps = c.args.order.now.pieces.items in
    let middle = c.loop-low.low + (c.loop-low.high - c.loop-low.low) / 2 in
    let there : middle < length ps = omega (arith, c.loop-low.invariant.there, c.loop-low-test.true) in
    let some = c.args.order.now.filled middle (omega (arith, c.loop-low.invariant.there, c.loop-low-test.true)) in
    let number_is = c.last.ensures ∙ ap (λ p. get_or p (length p - 1) 0) (c.index.ensures ∙ get_or_default ps middle c.index.result.now [] there) in
    let before = last_behind c.args.slots.now ps c.requires.within middle there some c.last.result number_is c.index-slots-last.result c.index-slots-last.is c.args.cut.now (sym c.is_before.ensures ∙ c.if-is_before.false) in
    record {
      there = there;
      order = omega arith;
      behind = c.loop-low.invariant.behind;
      before = λ _. before;
    }
