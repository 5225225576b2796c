use Rattle.std.proofs.Common.{arith}
use Rattle.ck_files.proofs.room.lack.Goals as goal

pub overflow_add-used : goal.overflow_add-used
overflow_add-used g c = omega (arith, c.requires.few_blocks, c.used-used.ensures.within, c.requires.files.ours.sized.blocks, c.requires.files.limit)
