use Rattle.std.proofs.Common.{Some, inl, inr, arith, sym, subst}
use Rattle.ck_model.specs.Held.{IsEntry}
use Rattle.ck_model.specs.Table.{IsTable, IsSized}
use Rattle.ck_slots.specs.Slots.{table_in}
use Rattle.ck_slots.specs.Arranged.{entries_of}
use Rattle.ck_slots.specs.Order.{numbers_in}
use Rattle.ck_slots.proofs.TableLemmas.{IsTable-with_entry, IsSized-with_entry, entered, as_given}
use Rattle.ck_slots.proofs.table.SlotsMeta.put.Goals as goal

pub put-requires : goal.put-requires
put-requires c =
    let e = c.args.self.now.entries in
    elim c.requires.room [
      | inl stands ↦ inl stands
      | inr room ↦ inr (omega (arith, room))
    ]

pub invariant_of-self-clause-within_limits : goal.invariant_of-self-clause-within_limits
invariant_of-self-clause-within_limits c =
    let t = table_in c.args.self.now in
    let e = c.put.new.self in
    let is = entered t (entries_of e.slots.items (numbers_in e.order)) e.limit c.args.fs c.args.key.now (Some c.args.held) c.put.ensures.entries c.put.ensures.limit in
    subst (λ u. IsTable u) (sym is) (IsTable-with_entry t c.args.fs c.args.key.now (Some c.args.held) c.args.self.now.within_limits c.ranges.fs.fits (as_given (IsEntry c.args.key.now) c.args.held c.requires.entry))

pub invariant_of-self-clause-fits : goal.invariant_of-self-clause-fits
invariant_of-self-clause-fits c =
    let t = table_in c.args.self.now in
    let e = c.put.new.self in
    let is = entered t (entries_of e.slots.items (numbers_in e.order)) e.limit c.args.fs c.args.key.now (Some c.args.held) c.put.ensures.entries c.put.ensures.limit in
    subst (λ u. IsSized u) (sym is) (IsSized-with_entry t c.args.fs c.args.key.now (Some c.args.held) c.args.self.now.fits (λ given. c.requires.room))
