use Rattle.std.proofs.Common.{length, sym, subst}
use Rattle.std.specs.List.{remove}
use Rattle.ck_model.specs.Key.{entry_cmp_total, entry_cmp_exact}
use Rattle.ck_model.proofs.PlaceLaws.{unset_gap}
use Rattle.ck_slots.specs.Arranged.{arranged, StandOnce}
use Rattle.ck_slots.specs.Order.{numbers_in, index_in}
use Rattle.ck_slots.proofs.EntryLemmas.{taken_out, once_taken_out}
use Rattle.ck_slots.proofs.entries.Entries.remove.Goals as goal

pub invariant_of-self-clause-sorted : goal.invariant_of-self-clause-sorted
invariant_of-self-clause-sorted c =
    let s = c.args.self.now in
    rw c.remove-number.ensures.numbers (taken_out s.slots.items (numbers_in s.order) s.free.items s.sorted s.once (c.args.fileset, c.args.key.now) (index_in s.order c.in-Ok.place) c.in-Ok.ensures.found).sorted

pub invariant_of-self-clause-once : goal.invariant_of-self-clause-once
invariant_of-self-clause-once c =
    let s = c.args.self.now in
    let once = once_taken_out s.slots.items (numbers_in s.order) s.free.items s.sorted s.once (c.args.fileset, c.args.key.now) (index_in s.order c.in-Ok.place) c.remove-number.result c.in-Ok.ensures.found c.remove-number.ensures.number in
    subst (λ ns. StandOnce (length s.slots.items) ns c.push_reserved.new.self.items) (sym c.remove-number.ensures.numbers)
    (subst (λ ns. StandOnce (length s.slots.items) (remove (numbers_in s.order) (index_in s.order c.in-Ok.place)) ns) (sym c.push_reserved.ensures.items) once)

pub returns-in-Ok-clause-entries : goal.returns-in-Ok-clause-entries
returns-in-Ok-clause-entries c =
    let s = c.args.self.now in
    rw c.remove-number.ensures.numbers (taken_out s.slots.items (numbers_in s.order) s.free.items s.sorted s.once (c.args.fileset, c.args.key.now) (index_in s.order c.in-Ok.place) c.in-Ok.ensures.found).means

pub returns-in_default-clause-entries : goal.returns-in_default-clause-entries
returns-in_default-clause-entries c =
    let s = c.args.self.now in
    (unset_gap entry_cmp_total entry_cmp_exact (c.args.fileset, c.args.key.now) (arranged s.slots.items (numbers_in s.order)) (index_in s.order c.in_default.field-0) c.in_default.ensures.absent s.sorted).means
