use Rattle.std.proofs.Common.{◌++◌, ap, ◌∙◌, arith}
use Rattle.ck_data.specs.Device.{store_on}
use Rattle.ck_data.proofs.ReadLemmas.{part_is}
use Rattle.ck_data.proofs.range.append_part.Goals as goal

pub returns-clause-bytes : goal.returns-clause-bytes
returns-clause-bytes g c =
    λ told.
    c.in_ok-extend_from_slice.ensures.items
    ∙ ap (λ ys. c.args.bytes.now.items ++ ys)
    (part_is (store_on (g.D.Disk.means c.args.disk.now).shows c.args.area.base) c.args.named c.load.new.into c.args.from c.args.count _ (omega arith) (omega arith) (c.in_ok-load.ensures.bytes told))
