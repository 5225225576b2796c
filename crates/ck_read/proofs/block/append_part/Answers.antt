use Rattle.std.proofs.Common.{◌++◌, ap, ◌∙◌, arith}
use Rattle.ck_read.specs.Block.{store_on}
use Rattle.ck_read.proofs.PartLemmas.{part_is}
use Rattle.ck_read.proofs.block.append_part.Goals as goal

pub returns-clause-bytes : goal.returns-clause-bytes
returns-clause-bytes g c =
    λ told.
    c.in_ok-append.ensures.ok
    ∙ ap (λ ys. c.args.bytes.now ++ ys)
    (part_is (store_on (g.D.Disk.means c.args.disk.now).shows c.args.base) c.args.named c.load.new.into c.args.from c.args.count _ (omega arith) (omega arith) (c.in_ok-load.ensures.bytes told))
