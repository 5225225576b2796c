use Rattle.std.proofs.Common.{arith, sym, subst, inl, inr, IsSome}
use mathlib.Core.Bool.{false≢true}
use Rattle.std.proofs.lemmas.List.{length-set}
use Rattle.ck_model.specs.Key.{entry_cmp_total, entry_cmp_exact}
use Rattle.ck_model.proofs.PlaceLaws.{get_gap}
use Rattle.ck_slots.specs.Arranged.{arranged, StandOnce}
use Rattle.ck_slots.specs.Order.{numbers_in, index_in}
use Rattle.ck_slots.proofs.ArrangedLemmas.{len-entries_of}
use Rattle.ck_slots.proofs.EntryLemmas.{number_in_range, put_in_place}
use Rattle.ck_slots.proofs.entries.Entries.put_reserved.Goals as goal

pub index_mut-requires : goal.index_mut-requires
index_mut-requires c =
    let s = c.args.self.now in
    let inside = number_in_range s.slots.items (numbers_in s.order) s.free.items s.sorted s.once (c.args.fileset, c.args.key.now) (index_in s.order c.in-Ok.place) c.number.result c.in-Ok.ensures.found c.number.ensures in
    omega arith

pub add-requires-clause-room : goal.add-requires-clause-room
add-requires-clause-room c =
    let s = c.args.self.now in
    elim c.requires.room [
      | inl stands ↦ absurd (false≢true (subst IsSome (sym (get_gap entry_cmp_total entry_cmp_exact (c.args.fileset, c.args.key.now) (arranged s.slots.items (numbers_in s.order)) (index_in s.order c.in-Err.place) c.in-Err.ensures.absent s.sorted)) stands))
      | inr room ↦ omega (arith, room, len-entries_of s.slots.items (numbers_in s.order) s.sorted)
    ]

pub invariant_of-self-clause-sorted : goal.invariant_of-self-clause-sorted
invariant_of-self-clause-sorted c =
    let s = c.args.self.now in
    (put_in_place s.slots.items (numbers_in s.order) s.free.items s.sorted s.once (c.args.fileset, c.args.key.now) (index_in s.order c.in-Ok.place) c.number.result c.in-Ok.ensures.found c.number.ensures c.index_mut.result.now c.index_mut.ensures.value c.args.held).sorted

pub invariant_of-self-clause-once : goal.invariant_of-self-clause-once
invariant_of-self-clause-once c =
    let s = c.args.self.now in
    subst (λ n. StandOnce n (numbers_in s.order) s.free.items) (sym (length-set s.slots.items c.number.result (record { fileset = c.index_mut.result.now.fileset; key = c.index_mut.result.now.key; held = c.args.held }))) s.once

pub returns-in-Ok-clause-entries : goal.returns-in-Ok-clause-entries
returns-in-Ok-clause-entries c =
    let s = c.args.self.now in
    (put_in_place s.slots.items (numbers_in s.order) s.free.items s.sorted s.once (c.args.fileset, c.args.key.now) (index_in s.order c.in-Ok.place) c.number.result c.in-Ok.ensures.found c.number.ensures c.index_mut.result.now c.index_mut.ensures.value c.args.held).means
