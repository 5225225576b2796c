use Rattle.std.proofs.Common.{slice_index, sym, ap, ◌∙◌, arith}
use Rattle.ck_data.specs.Device.{store_on}
use Rattle.ck_data.specs.Reads.{bytes_of}
use Rattle.ck_data.proofs.ReadLemmas.{zeros}
use Rattle.ck_data.proofs.range.load.Goals as goal

pub overflow_add-area : goal.overflow_add-area
overflow_add-area g c = omega (arith, c.requires.named c.in-Some.block c.in-Some.is, c.requires.area, (g.met.D.Disk.lawful c.args.disk.now).fits)

pub read-requires : goal.read-requires
read-requires g c = omega (arith, c.requires.named c.in-Some.block c.in-Some.is, c.requires.area)

pub returns-in-None-clause-bytes : goal.returns-in-None-clause-bytes
returns-in-None-clause-bytes g c =
    λ told place.
    zeros 4096 place
    ∙ sym (ap (λ named. slice_index (bytes_of (store_on (g.D.Disk.means c.args.disk.now).shows c.args.area.base) named) place) c.in-None.is)
