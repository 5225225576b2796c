use Rattle.std.proofs.Common.{◌≡◌, ◌+◌, ◌≤◌, true, ◌&&◌, nat_le, arith}
use Rattle.std.proofs.lemmas.Bool.Decides.{nat_tests}
use Rattle.ck_model.specs.Table.{record_count}
use Rattle.ck_model.specs.TableWorld.{extent_count}
use Rattle.ck_files.proofs.AllocatedLaws.{used_count}
use Rattle.ck_files.proofs.room.fits.Goals as goal

pub returns-then-cost-free : goal.returns-then-cost-free
returns-then-cost-free g c = λ spare.
    let t = g.M.Meta.table c.args.meta.now in
    let cost = c.args.cost.now in
    let count = used_count t c.requires.ours.sound c.args.blocks.now c.requires.allocated in
    let blocks : extent_count t + cost.blocks ≤ t.blocks = omega (arith, count, c.requires.allocated.total, c.requires.allocated.partition.counted, c.free.ensures.count, c.if-cost-free.true) in
    let low : cost.records ≤ c.spare.result = grind (arith, nat_tests) in
    let records : record_count t + cost.records ≤ t.records = omega (arith, low, c.spare.ensures, c.requires.ours.sized.fits) in
    let one : nat_le (extent_count t + cost.blocks) t.blocks ≡ true = grind (arith, nat_tests) in
    let two : nat_le (record_count t + cost.records) t.records ≡ true = grind (arith, nat_tests) in
    λ i. one i && two i
