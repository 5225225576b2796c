use Rattle.ck_alloc.specs.Bits.{has}
use Rattle.ck_alloc.proofs.AllocationLemmas.{allocation_of-settled, IsPartition-allocation_of}
use Rattle.ck_alloc.proofs.blocks.Blocks.settle.Goals as goal

pub returns-clause-free : goal.returns-clause-free
returns-clause-free c =
    let b = c.self.inside in
    rw (c.absorb.ensures.limit, ← c.self.view_is)
    (allocation_of-settled b.free.limit (has b.free.words.items) (has b.pending.words.items) (has c.absorb.new.self.words.items) (has c.absorb.new.other.words.items) c.absorb.ensures.members c.absorb.ensures.emptied)

pub returns-clause-partition : goal.returns-clause-partition
returns-clause-partition c =
    IsPartition-allocation_of c.absorb.new.self.limit (has c.absorb.new.self.words.items) (has c.absorb.new.other.words.items) (λ at _. c.absorb.ensures.emptied at)
