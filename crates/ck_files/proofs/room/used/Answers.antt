use Rattle.std.proofs.Common.{arith}
use Rattle.ck_files.proofs.AllocatedLaws.{used_count}
use Rattle.ck_files.proofs.room.used.Goals as goal

pub returns-clause-count : goal.returns-clause-count
returns-clause-count g c =
    let files = c.requires in
    let count = used_count (g.M.Meta.table c.args.meta.now) files.ours.sound c.args.blocks.now files.allocated in
    omega (arith, count, files.limit, files.allocated.total, files.allocated.partition.counted, c.free.ensures.count, c.pending.ensures.count)
