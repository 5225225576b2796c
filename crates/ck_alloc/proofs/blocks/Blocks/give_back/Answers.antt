use Rattle.std.proofs.Common.{◌∙◌, sym}
use Rattle.ck_alloc.specs.Bits.{has}
use Rattle.ck_alloc.proofs.AllocationLemmas.{used_parts, IsPartition-allocation_of, AreApart-more_free, allocation_of-given_back}
use Rattle.ck_alloc.proofs.blocks.Blocks.give_back.Goals as goal

pub insert-requires-clause-within : goal.insert-requires-clause-within
insert-requires-clause-within c =
    let b = c.self.inside in
    (used_parts b.free.limit (has b.free.words.items) (has b.pending.words.items) c.args.at (rw c.self.view_is c.requires)).within

pub insert-requires-clause-absent : goal.insert-requires-clause-absent
insert-requires-clause-absent c =
    let b = c.self.inside in
    (used_parts b.free.limit (has b.free.words.items) (has b.pending.words.items) c.args.at (rw c.self.view_is c.requires)).taken

pub invariant_of-self : goal.invariant_of-self
invariant_of-self c =
    let b = c.self.inside in
    let parts = used_parts b.free.limit (has b.free.words.items) (has b.pending.words.items) c.args.at (rw c.self.view_is c.requires) in (
      c.self.invariant.0 ∙ sym c.insert.ensures.limit,
      AreApart-more_free (has b.free.words.items) (has b.pending.words.items) (has c.insert.new.self.words.items) c.args.at c.self.invariant.1 parts.kept c.insert.ensures.members,
    )

pub returns-clause-free : goal.returns-clause-free
returns-clause-free c =
    let b = c.self.inside in
    rw (c.insert.ensures.limit, ← c.self.view_is)
    (allocation_of-given_back b.free.limit (has b.free.words.items) (has b.pending.words.items) (has c.insert.new.self.words.items) c.args.at c.insert.ensures.members)

pub returns-clause-partition : goal.returns-clause-partition
returns-clause-partition c =
    let b = c.self.inside in
    let parts = used_parts b.free.limit (has b.free.words.items) (has b.pending.words.items) c.args.at (rw c.self.view_is c.requires) in
    IsPartition-allocation_of c.insert.new.self.limit (has c.insert.new.self.words.items) (has b.pending.words.items)
    (AreApart-more_free (has b.free.words.items) (has b.pending.words.items) (has c.insert.new.self.words.items) c.args.at c.self.invariant.1 parts.kept c.insert.ensures.members)
