use Rattle.std.proofs.Common.{take}
use Rattle.ck_disk.specs.MemRecord.{mem_means}
use Rattle.ck_disk.specs.MemDisk.{IsTornBy}
use Rattle.ck_disk.proofs.mem_disk.MemDisk.crash.Given as goal

abbrev pub invariant-loop-one : goal.invariant-loop-one
invariant-loop-one l = IsTornBy (take l.one-index l.one-items) (mem_means l.steps.items l.initial.blocks.items 0 0) l.blocks.items
