use Rattle.std.proofs.Common.{Some, inl, inr, arith, sym, subst}
use Rattle.std.specs.Cmp.{nat_cmp_total}
use Rattle.std.specs.FinMap.{nat_cmp-IsAntisymmetric}
use Rattle.ck_model.specs.Held.{IsFileset}
use Rattle.ck_model.specs.Table.{IsTable, IsSized}
use Rattle.ck_model.proofs.PlaceLaws.{len_of}
use Rattle.ck_slots.specs.Slots.{table_in}
use Rattle.ck_slots.specs.Recorded.{filesets_of}
use Rattle.ck_slots.proofs.TableLemmas.{IsTable-with_fileset, IsSized-with_fileset, recorded_in, as_given}
use Rattle.ck_slots.proofs.table.SlotsMeta.put_fileset.Goals as goal

pub set-requires-clause-room : goal.set-requires-clause-room
set-requires-clause-room c =
    let s = c.args.self.now in
    elim c.requires.room [
      | inl stands ↦ inl stands
      | inr room ↦ inr (omega (arith, room, s.room, len_of nat_cmp_total nat_cmp-IsAntisymmetric s.filesets.items s.sorted))
    ]

pub invariant_of-self-clause-sorted : goal.invariant_of-self-clause-sorted
invariant_of-self-clause-sorted c = c.set.ensures.set.sorted

pub invariant_of-self-clause-within_limits : goal.invariant_of-self-clause-within_limits
invariant_of-self-clause-within_limits c =
    let t = table_in c.args.self.now in
    let is = recorded_in t (filesets_of c.set.new.filesets.items) c.args.id (Some c.args.fileset) c.set.ensures.set.means in
    subst (λ u. IsTable u) (sym is) (IsTable-with_fileset t c.args.id (Some c.args.fileset) c.args.self.now.within_limits (as_given (IsFileset c.args.id) c.args.fileset c.requires.fileset))

pub invariant_of-self-clause-fits : goal.invariant_of-self-clause-fits
invariant_of-self-clause-fits c =
    let t = table_in c.args.self.now in
    let is = recorded_in t (filesets_of c.set.new.filesets.items) c.args.id (Some c.args.fileset) c.set.ensures.set.means in
    subst (λ u. IsSized u) (sym is) (IsSized-with_fileset t c.args.id (Some c.args.fileset) c.args.self.now.fits (λ given. c.requires.room))
