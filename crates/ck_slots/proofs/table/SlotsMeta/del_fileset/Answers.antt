use Rattle.std.proofs.Common.{None, sym, subst}
use mathlib.Core.Bool.{false≢true}
use Rattle.ck_model.specs.Held.{IsFileset}
use Rattle.ck_model.specs.Table.{IsTable, IsSized}
use Rattle.ck_slots.specs.Slots.{table_in}
use Rattle.ck_slots.specs.Recorded.{filesets_of}
use Rattle.ck_slots.proofs.TableLemmas.{IsTable-with_fileset, IsSized-with_fileset, recorded_in, nothing_given}
use Rattle.ck_slots.proofs.table.SlotsMeta.del_fileset.Goals as goal

pub invariant_of-self-clause-sorted : goal.invariant_of-self-clause-sorted
invariant_of-self-clause-sorted c = c.unset.ensures.unset.sorted

pub invariant_of-self-clause-within_limits : goal.invariant_of-self-clause-within_limits
invariant_of-self-clause-within_limits c =
    let t = table_in c.args.self.now in
    let is = recorded_in t (filesets_of c.unset.new.filesets.items) c.args.id None c.unset.ensures.unset.means in
    subst (λ u. IsTable u) (sym is) (IsTable-with_fileset t c.args.id None c.args.self.now.within_limits (nothing_given (IsFileset c.args.id)))

pub invariant_of-self-clause-fits : goal.invariant_of-self-clause-fits
invariant_of-self-clause-fits c =
    let t = table_in c.args.self.now in
    let is = recorded_in t (filesets_of c.unset.new.filesets.items) c.args.id None c.unset.ensures.unset.means in
    subst (λ u. IsSized u) (sym is) (IsSized-with_fileset t c.args.id None c.args.self.now.fits (λ given. absurd (false≢true given)))
