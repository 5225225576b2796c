use Rattle.std.proofs.Common.{slice_index, sym, ap, ◌∙◌}
use Rattle.ck_read.specs.Block.{bytes_of, store_on}
use Rattle.ck_read.proofs.PartLemmas.{zeros}
use Rattle.ck_read.proofs.block.load.Goals as goal

pub returns-in-None-clause-bytes : goal.returns-in-None-clause-bytes
returns-in-None-clause-bytes g c =
    λ told place.
    zeros 4096 place
    ∙ sym (ap (λ named. slice_index (bytes_of (store_on (g.D.Disk.means c.args.disk.now).shows c.args.base) named) place) c.in-None.is)
