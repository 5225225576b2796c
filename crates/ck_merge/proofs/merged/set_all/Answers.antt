use Rattle.std.proofs.Common.{◌≡◌, ◌∷◌, [], List, length, sym, ap, subst, ◌∙◌, arith}
use Rattle.std.specs.Option.{option_or}
use Rattle.std.specs.FinMap.{find}
use Rattle.std.specs.Vec.Iter.{into_iter_items}
use Rattle.ck_model.specs.Key.{key_cmp}
use Rattle.ck_stream.specs.declared.item.Item.{Item}
use Rattle.ck_stream.specs.Right.{AreItems, changes}
use Rattle.ck_stream.proofs.ByKeyLaws.{right_rest, nothing_left}
use Rattle.ck_merge.specs.Merged.{records, change_at}
use Rattle.ck_merge.proofs.MergedLaws.{merged_is}
use Rattle.ck_merge.proofs.ByKey.{one_change, sorted_records}
use Rattle.ck_merge.proofs.merged.set_all.Goals as goal

pub loop-change-preserved : goal.loop-change-preserved
loop-change-preserved c =
    let at = c.loop-change in
    let change = c.in-Some.change in
    let steps : into_iter_items at.change-iterator ≡ change ∷ into_iter_items c.next.new.self = c.in-Some.ensures.steps.0 in
    let right : AreItems (change ∷ into_iter_items c.next.new.self) = subst AreItems steps at.invariant.right in
    record {
      held = λ key.
          one_change (change_at at.items key) (change_at c.set.new.items key) key change (into_iter_items c.next.new.self) right (c.in_ok-set.ensures.held key)
          ∙ ap (λ (l : List Item). option_or (find key_cmp key (changes l)) (change_at at.items key)) (sym steps)
          ∙ at.invariant.held key;
      right = right_rest change (into_iter_items c.next.new.self) right;
      each = λ each. c.in_ok-set.ensures.each right.each.0 (at.invariant.each each);
      len = let was = at.invariant.len in let gone = c.in-Some.ensures.steps.1 in let short = ap length steps in omega arith;
    }

pub returns-clause-made : goal.returns-clause-made
returns-clause-made c =
    let at = c.loop-change in
    let none = c.in-None.ensures.steps in
    let empty : into_iter_items at.change-iterator ≡ [] = nothing_left _ (sym at.invariant.len ∙ none.0) in
    merged_is (changes (records c.args.items.now.entries)) (changes c.args.list.items) (changes (records at.items.entries)) (sorted_records at.items.entries c.len.ensures.ordered) (λ key.
    ap (λ (l : List Item). option_or (find key_cmp key (changes l)) (change_at at.items key)) (sym empty)
    ∙ at.invariant.held key
    ∙ ap (λ (l : List Item). option_or (find key_cmp key (changes l)) (change_at c.args.items.now key)) c.into_iter-change-iterator.ensures.into_iter_gives.0)

pub returns-clause-right : goal.returns-clause-right
returns-clause-right c each = record { each = c.loop-change.invariant.each each; ascend = sorted_records c.loop-change.items.entries c.len.ensures.ordered }
