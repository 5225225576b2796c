use Rattle.std.proofs.Common.{sym, ap, ◌∙◌}
use Rattle.ck_alloc.specs.Bits.{has, count_below}
use Rattle.ck_alloc.proofs.AllocationLemmas.{len-pending, IsPartition-allocation_of}
use Rattle.ck_alloc.proofs.blocks.Blocks.pending.Goals as goal

pub returns-clause-count : goal.returns-clause-count
returns-clause-count c =
    let b = c.self.inside in
    rw (← c.self.view_is)
    (c.count.ensures ∙ ap (count_below (has b.pending.words.items)) c.self.invariant.0
    ∙ sym (len-pending b.free.limit (has b.free.words.items) (has b.pending.words.items)))

pub returns-clause-partition : goal.returns-clause-partition
returns-clause-partition c =
    let b = c.self.inside in
    rw (← c.self.view_is) (IsPartition-allocation_of b.free.limit (has b.free.words.items) (has b.pending.words.items) c.self.invariant.1)
