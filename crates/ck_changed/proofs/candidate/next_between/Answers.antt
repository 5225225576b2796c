use Rattle.std.proofs.Common.{◌≡◌, ◌≤◌, true, sym, ap, ◌∙◌, arith}
use Rattle.std.specs.Option.{option_copied}
use Rattle.ck_model.specs.Table.{column, newer}
use Rattle.ck_model.specs.Chain.{first_entry}
use Rattle.ck_chain.specs.Order.{is_after, is_before, IsHeld}
use Rattle.ck_chain.proofs.OrderLaws.{first_without, first_with, of_either}
use Rattle.ck_changed.specs.Difference.{EntryBetween}
use Rattle.ck_changed.proofs.DifferenceLemmas.{first_from, some_newer, alike_from, entry_between}
use Rattle.ck_changed.proofs.candidate.next_between.Goals as goal

pub loop-id-init : goal.loop-id-init
loop-id-init g c =
    let t = g.M.Meta.table c.args.meta.now in
    record {
      below = c.requires.order;
      from = omega arith;
      behind = c.next_entry-found.ensures.next.behind;
      held = c.next_entry-found.ensures.next.held;
      entry = entry_between t c.args.older c.args.newer c.args.older c.next_entry-found.result (omega arith) c.requires.order c.next_entry-found.ensures.entry;
      between = λ q behind before. first_without (column t q c.args.older) (first_entry (column t q) (newer t c.args.older)) (c.next_entry-found.ensures.next.between q behind before);
    }

pub loop-id-preserved : goal.loop-id-preserved
loop-id-preserved g c =
    let t = g.M.Meta.table c.args.meta.now in
    let after = option_copied c.args.after in
    let a = c.loop-id.found in
    let b = c.next_entry.result in
    let low : c.args.older ≤ c.in-Some.id = omega (arith, c.loop-id.invariant.from, c.in-Some.ensures.above) in
    record {
      below = c.if-id-newer.false;
      from = low;
      behind = of_either (λ k. is_after after k ≡ true) a b c.lesser-found.result c.lesser-found.ensures.one c.loop-id.invariant.behind c.next_entry.ensures.next.behind;
      held = of_either (IsHeld t) a b c.lesser-found.result c.lesser-found.ensures.one c.loop-id.invariant.held c.next_entry.ensures.next.held;
      entry = of_either (EntryBetween t c.args.older c.args.newer) a b c.lesser-found.result c.lesser-found.ensures.one c.loop-id.invariant.entry
          (entry_between t c.args.older c.args.newer c.in-Some.id b low c.if-id-newer.false c.next_entry.ensures.entry);
      between = λ q behind before.
          let both = first_with (is_before a q) (is_before b q) (sym (c.lesser-found.ensures.before q) ∙ before) in
          c.loop-id.invariant.between q behind both.0
          ∙ ap (first_entry (column t q)) c.in-Some.ensures.next
          ∙ first_without (column t q c.in-Some.id) (first_entry (column t q) (newer t c.in-Some.id)) (c.next_entry.ensures.next.between q behind both.1);
    }

pub returns-then-id-newer-clause-next : goal.returns-then-id-newer-clause-next
returns-then-id-newer-clause-next g c =
    let t = g.M.Meta.table c.args.meta.now in
    let first = first_from t c.loop-id.at c.args.newer c.in-Some.id c.loop-id.invariant.below c.requires.stands c.in-Some.ensures.next c.if-id-newer.true in
    record {
      behind = c.loop-id.invariant.behind;
      held = c.loop-id.invariant.held;
      between = λ q behind before. alike_from t c.args.older c.loop-id.at c.args.newer q first (c.loop-id.invariant.between q behind before);
    }

pub returns-clause-next : goal.returns-clause-next
returns-clause-next g c =
    let t = g.M.Meta.table c.args.meta.now in
    absurd (some_newer t c.loop-id.at c.args.newer c.loop-id.invariant.below c.requires.stands c.in_default.ensures.next)
