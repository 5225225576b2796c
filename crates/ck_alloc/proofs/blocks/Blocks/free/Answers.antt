use Rattle.std.proofs.Common.{sym, ◌∙◌}
use Rattle.ck_alloc.specs.Bits.{has}
use Rattle.ck_alloc.proofs.AllocationLemmas.{free_count-allocation_of, IsPartition-allocation_of}
use Rattle.ck_alloc.proofs.blocks.Blocks.free.Goals as goal

pub returns-clause-count : goal.returns-clause-count
returns-clause-count c =
    let b = c.self.inside in
    rw (← c.self.view_is)
    (c.count.ensures ∙ sym (free_count-allocation_of b.free.limit (has b.free.words.items) (has b.pending.words.items) c.self.invariant.1))

pub returns-clause-partition : goal.returns-clause-partition
returns-clause-partition c =
    let b = c.self.inside in
    rw (← c.self.view_is) (IsPartition-allocation_of b.free.limit (has b.free.words.items) (has b.pending.words.items) c.self.invariant.1)
