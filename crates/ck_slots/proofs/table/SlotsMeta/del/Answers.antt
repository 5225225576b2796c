use Rattle.std.proofs.Common.{None, sym, subst}
use mathlib.Core.Bool.{false≢true}
use Rattle.ck_model.specs.Held.{IsEntry}
use Rattle.ck_model.specs.Table.{IsTable, IsSized}
use Rattle.ck_slots.specs.Slots.{table_in}
use Rattle.ck_slots.specs.Arranged.{entries_of}
use Rattle.ck_slots.specs.Order.{numbers_in}
use Rattle.ck_slots.proofs.TableLemmas.{IsTable-with_entry, IsSized-with_entry, entered, nothing_given}
use Rattle.ck_slots.proofs.table.SlotsMeta.del.Goals as goal

pub invariant_of-self-clause-within_limits : goal.invariant_of-self-clause-within_limits
invariant_of-self-clause-within_limits c =
    let t = table_in c.args.self.now in
    let e = c.remove.new.self in
    let is = entered t (entries_of e.slots.items (numbers_in e.order)) e.limit c.args.fs c.args.key.now None c.remove.ensures.entries c.remove.ensures.limit in
    subst (λ u. IsTable u) (sym is) (IsTable-with_entry t c.args.fs c.args.key.now None c.args.self.now.within_limits c.ranges.fs.fits (nothing_given (IsEntry c.args.key.now)))

pub invariant_of-self-clause-fits : goal.invariant_of-self-clause-fits
invariant_of-self-clause-fits c =
    let t = table_in c.args.self.now in
    let e = c.remove.new.self in
    let is = entered t (entries_of e.slots.items (numbers_in e.order)) e.limit c.args.fs c.args.key.now None c.remove.ensures.entries c.remove.ensures.limit in
    subst (λ u. IsSized u) (sym is) (IsSized-with_entry t c.args.fs c.args.key.now None c.args.self.now.fits (λ given. absurd (false≢true given)))
