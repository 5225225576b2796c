use Rattle.std.proofs.Common.{length, arith, ap, sym, subst, ◌∙◌}
use Rattle.std.specs.FinMap.{is_sorted}
use Rattle.ck_model.specs.Key.{entry_cmp}
use Rattle.ck_slots.specs.Arranged.{arranged, entries_of, StandOnce}
use Rattle.ck_slots.specs.Order.{numbers_in, index_in}
use Rattle.ck_slots.proofs.OnceLemmas.{free_in_range}
use Rattle.ck_slots.proofs.EntryLemmas.{put_new, once_put}
use Rattle.ck_slots.proofs.entries.Entries.add.Goals as goal

pub store-number-requires-clause-within : goal.store-number-requires-clause-within
store-number-requires-clause-within c = let s = c.args.self.now in free_in_range _ (numbers_in s.order) s.free.items s.once

pub store-number-requires-clause-few : goal.store-number-requires-clause-few
store-number-requires-clause-few c =
    let s = c.args.self.now in
    omega arith

pub invariant_of-self-clause-sorted : goal.invariant_of-self-clause-sorted
invariant_of-self-clause-sorted c =
    let s = c.args.self.now in
    let slots = c.store-number.new.slots.items in
    let edits = put_new s.slots.items (numbers_in s.order) s.free.items s.sorted s.once slots c.store-number.new.free.items c.store-number.result (index_in s.order c.args.place) c.args.slot c.store-number.ensures.stored c.requires.gap in
    ap (λ ns. is_sorted entry_cmp (arranged slots ns)) c.insert.ensures.numbers ∙ edits.sorted

pub invariant_of-self-clause-once : goal.invariant_of-self-clause-once
invariant_of-self-clause-once c =
    let s = c.args.self.now in
    let once = once_put s.slots.items (numbers_in s.order) s.free.items s.sorted s.once c.store-number.new.slots.items c.store-number.new.free.items c.store-number.result (index_in s.order c.args.place) c.args.slot c.store-number.ensures.stored in
    subst (λ ns. StandOnce (length c.store-number.new.slots.items) ns c.store-number.new.free.items) (sym c.insert.ensures.numbers) once

pub returns-clause-entries : goal.returns-clause-entries
returns-clause-entries c =
    let s = c.args.self.now in
    let slots = c.store-number.new.slots.items in
    let edits = put_new s.slots.items (numbers_in s.order) s.free.items s.sorted s.once slots c.store-number.new.free.items c.store-number.result (index_in s.order c.args.place) c.args.slot c.store-number.ensures.stored c.requires.gap in
    ap (entries_of slots) c.insert.ensures.numbers ∙ edits.means
