use Rattle.std.proofs.Common.{◌∙◌, sym, arith, refl}
use Rattle.std.proofs.lemmas.Bool.{false≢true, and_parts}
use Rattle.ck_alloc.specs.Bits.{has}
use Rattle.ck_alloc.proofs.Counts.{count_below-none, count_below-some}
use Rattle.ck_alloc.proofs.AllocationLemmas.{IsFree-from, free_from_IsFree, free_count-allocation_of, allocation_of-taken, IsPartition-allocation_of}
use Rattle.ck_alloc.proofs.blocks.Blocks.take.Goals as goal

pub returns-in_err-at-clause-some : goal.returns-in_err-at-clause-some
returns-in_err-at-clause-some c =
    let b = c.self.inside in
    let all = free_count-allocation_of b.free.limit (has b.free.words.items) (has b.pending.words.items) c.self.invariant.1 in
    let none = all ∙ count_below-none (has b.free.words.items) b.free.limit (λ k _. c.in_err-at.ensures.none k) in
    rw (c.from_residual.ensures, ← c.self.view_is) (λ h. absurd (false≢true h), λ h. absurd (omega (arith, none, h)))

pub returns-in_err-at-clause-none_free : goal.returns-in_err-at-clause-none_free
returns-in_err-at-clause-none_free c =
    let b = c.self.inside in
    rw (c.from_residual.ensures, ← c.self.view_is)
    (λ at is_free. false≢true (sym (c.in_err-at.ensures.none at) ∙ free_from_IsFree b.free.limit (has b.free.words.items) (has b.pending.words.items) at is_free))

pub returns-clause-free : goal.returns-clause-free
returns-clause-free c =
    let b = c.self.inside in
    let at = c.in_ok-at.at in
    rw (← c.self.view_is)
    (IsFree-from b.free.limit (has b.free.words.items) (has b.pending.words.items) at (b.free.indexed.within at c.in_ok-at.ensures.found) c.in_ok-at.ensures.found (c.self.invariant.1 at c.in_ok-at.ensures.found))

pub returns-clause-lowest : goal.returns-clause-lowest
returns-clause-lowest c =
    let b = c.self.inside in
    rw (← c.self.view_is)
    (λ other is_free. c.in_ok-at.ensures.lowest other (free_from_IsFree b.free.limit (has b.free.words.items) (has b.pending.words.items) other is_free))

pub returns-clause-used : goal.returns-clause-used
returns-clause-used c =
    let b = c.self.inside in
    let at = c.in_ok-at.at in
    rw (c.remove.ensures.limit, ← c.self.view_is)
    (allocation_of-taken b.free.limit (has b.free.words.items) (has b.pending.words.items) (has c.remove.new.self.words.items) at (b.free.indexed.within at c.in_ok-at.ensures.found) c.in_ok-at.ensures.found (c.self.invariant.1 at c.in_ok-at.ensures.found) c.remove.ensures.members)

pub returns-clause-some : goal.returns-clause-some
returns-clause-some c =
    let b = c.self.inside in
    let at = c.in_ok-at.at in
    let all = free_count-allocation_of b.free.limit (has b.free.words.items) (has b.pending.words.items) c.self.invariant.1 in
    let some = count_below-some (has b.free.words.items) at b.free.limit (b.free.indexed.within at c.in_ok-at.ensures.found) c.in_ok-at.ensures.found in
    rw (← c.self.view_is) (λ _. omega (arith, all, some), λ _. refl)

pub returns-in_err-at-clause-partition : goal.returns-in_err-at-clause-partition
returns-in_err-at-clause-partition c =
    let b = c.self.inside in
    rw (← c.self.view_is) (IsPartition-allocation_of b.free.limit (has b.free.words.items) (has b.pending.words.items) c.self.invariant.1)

pub returns-clause-partition : goal.returns-clause-partition
returns-clause-partition c =
    let b = c.self.inside in
    IsPartition-allocation_of c.remove.new.self.limit (has c.remove.new.self.words.items) (has b.pending.words.items)
    (λ at member. c.self.invariant.1 at (and_parts _ _ (sym (c.remove.ensures.members at) ∙ member)).1)
