use Rattle.std.proofs.Common.{length, arith, ap, sym, subst, ◌∙◌}
use Rattle.std.specs.FinMap.{is_sorted}
use Rattle.ck_model.specs.Key.{entry_cmp}
use Rattle.ck_slots.specs.Arranged.{arranged, entries_of, StandOnce}
use Rattle.ck_slots.proofs.entries.Entries.reserve.Goals as goal

pub reserve-requires : goal.reserve-requires
reserve-requires c = let s = c.args.self.now in omega (arith, s.whole, s.fits, s.order_limit)

pub invariant_of-self-clause-sorted : goal.invariant_of-self-clause-sorted
invariant_of-self-clause-sorted c =
    let s = c.args.self.now in
    ap (λ ns. is_sorted entry_cmp (arranged s.slots.items ns)) c.reserve.ensures.numbers ∙ s.sorted

pub invariant_of-self-clause-once : goal.invariant_of-self-clause-once
invariant_of-self-clause-once c =
    let s = c.args.self.now in
    subst (λ ns. StandOnce (length s.slots.items) ns s.free.items) (sym c.reserve.ensures.numbers) s.once

pub returns-clause-entries : goal.returns-clause-entries
returns-clause-entries c = ap (entries_of c.args.self.now.slots.items) c.reserve.ensures.numbers
