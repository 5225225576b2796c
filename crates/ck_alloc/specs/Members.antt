-- The blocks' states from two tests: which are free, and which are pending.
use Rattle.std.specs.Prelude.{ℕ, zero, suc, Bool, not, ◌||◌, if◌then◌else◌}
use Rattle.std.specs.Ordering.{nat_cmp}
use Rattle.std.specs.FinSet as set
use Rattle.ck_alloc.specs.Blocks.{Allocation}

-- the numbers below n that pass a test
unfoldable pub members_below : (ℕ → Bool) → ℕ → set.FinSet nat_cmp
members_below test zero = set.empty
members_below test (suc n) = if test n then set.insert (members_below test n) n else members_below test n

-- the blocks below the total, of which those that aren't free or pending are used
unfoldable pub allocation_of : ℕ → (ℕ → Bool) → (ℕ → Bool) → Allocation
allocation_of total free pending = record {
  total = total;
  used = members_below (λ at. not (free at || pending at)) total;
  pending = members_below pending total;
}
