use Rattle.std.proofs.Common.{◌∙◌, ◌&&◌, ◌==◌, ℕ, ap, not}
use Rattle.std.specs.List.{list_any}
use Rattle.ck_alloc.specs.Bits.{has}
use Rattle.ck_alloc.proofs.AllocationLemmas.{allocation_of-rebuilt, IsPartition-allocation_of}
use Rattle.ck_alloc.proofs.blocks.Blocks.rebuild.Goals as goal

pub returns-clause-value : goal.returns-clause-value
returns-clause-value c =
    let listed = λ (k : ℕ). list_any (λ m. m == k) c.args.used.now in
    rw (c.remove_all.ensures.limit, c.in_ok-free.ensures.limit)
    (allocation_of-rebuilt c.args.total (has c.remove_all.new.self.words.items) (has c.in_ok-new.field-0.words.items) c.args.used.now c.requires
    (λ k. c.remove_all.ensures.members k ∙ ap (λ b. b && not (listed k)) (c.in_ok-free.ensures.members k)) c.in_ok-new.ensures.empty)

pub returns-clause-partition : goal.returns-clause-partition
returns-clause-partition c =
    IsPartition-allocation_of c.remove_all.new.self.limit (has c.remove_all.new.self.words.items) (has c.in_ok-new.field-0.words.items) (λ at _. c.in_ok-new.ensures.empty at)
