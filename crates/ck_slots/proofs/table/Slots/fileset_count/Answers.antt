use Rattle.std.proofs.Common.{arith}
use Rattle.std.specs.Cmp.{nat_cmp_total}
use Rattle.std.specs.FinMap.{nat_cmp-IsAntisymmetric}
use Rattle.ck_model.proofs.PlaceLaws.{len_of}
use Rattle.ck_slots.proofs.table.Slots.fileset_count.Goals as goal

pub overflow_cast-result : goal.overflow_cast-result
overflow_cast-result c =
    let s = c.args.self.now in
    omega (arith, s.fits.fits, s.fits.records, len_of nat_cmp_total nat_cmp-IsAntisymmetric s.filesets.items s.sorted)

pub returns : goal.returns
returns c =
    let s = c.args.self.now in
    omega (arith, len_of nat_cmp_total nat_cmp-IsAntisymmetric s.filesets.items s.sorted)
