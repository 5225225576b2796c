use Rattle.std.proofs.Common.{◌∙◌}
use Rattle.ck_alloc.specs.Bits.{has}
use Rattle.ck_alloc.proofs.AllocationLemmas.{used_parts, IsPartition-allocation_of, AreApart-more_pending, allocation_of-released}
use Rattle.ck_alloc.proofs.blocks.Blocks.release.Goals as goal

pub insert-requires-clause-within : goal.insert-requires-clause-within
insert-requires-clause-within c =
    let b = c.self.inside in
    rw c.self.invariant.0 (used_parts b.free.limit (has b.free.words.items) (has b.pending.words.items) c.args.at (rw c.self.view_is c.requires)).within

pub insert-requires-clause-absent : goal.insert-requires-clause-absent
insert-requires-clause-absent c =
    let b = c.self.inside in
    (used_parts b.free.limit (has b.free.words.items) (has b.pending.words.items) c.args.at (rw c.self.view_is c.requires)).kept

pub invariant_of-self : goal.invariant_of-self
invariant_of-self c =
    let b = c.self.inside in
    let parts = used_parts b.free.limit (has b.free.words.items) (has b.pending.words.items) c.args.at (rw c.self.view_is c.requires) in (
      c.insert.ensures.limit ∙ c.self.invariant.0,
      AreApart-more_pending (has b.free.words.items) (has b.pending.words.items) (has c.insert.new.self.words.items) c.args.at c.self.invariant.1 parts.taken c.insert.ensures.members,
    )

pub returns-clause-pending : goal.returns-clause-pending
returns-clause-pending c =
    let b = c.self.inside in
    let parts = used_parts b.free.limit (has b.free.words.items) (has b.pending.words.items) c.args.at (rw c.self.view_is c.requires) in
    rw (← c.self.view_is)
    (allocation_of-released b.free.limit (has b.free.words.items) (has b.pending.words.items) (has c.insert.new.self.words.items) c.args.at parts.within c.insert.ensures.members)

pub returns-clause-partition : goal.returns-clause-partition
returns-clause-partition c =
    let b = c.self.inside in
    let parts = used_parts b.free.limit (has b.free.words.items) (has b.pending.words.items) c.args.at (rw c.self.view_is c.requires) in
    IsPartition-allocation_of b.free.limit (has b.free.words.items) (has c.insert.new.self.words.items)
    (AreApart-more_pending (has b.free.words.items) (has b.pending.words.items) (has c.insert.new.self.words.items) c.args.at c.self.invariant.1 parts.taken c.insert.ensures.members)
