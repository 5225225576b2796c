-- Laws of the blocks' sets and counts, for callers.
use Rattle.std.proofs.Common.{◌≡◌, ℕ, ◌+◌, ◌-◌, ◌<◌, ◌==◌, ◌||◌, ◌&&◌, true, false, not, cond, inl, inr, sym, ap, ◌∙◌, arith}
use Rattle.std.specs.Ordering.{nat_cmp}
use Rattle.std.specs.Cmp.{nat_cmp_total, unsigned_tied}
use Rattle.std.specs.FinSet as set
use Rattle.std.specs.FinSet.{contains-empty, contains-insert, contains-remove, len-empty, len-insert, len-remove, empty_of_len, same_set, nat_cmp-IsAntisymmetric}
use Rattle.std.proofs.lemmas.Bool.{cases_eq, false≢true}
use Rattle.ck_alloc.specs.Blocks.{Allocation, IsFree, free_count, IsPartition}

-- ---- sets of numbers

pub contains-with : (numbers : set.FinSet nat_cmp) (n k : ℕ) → set.contains (set.insert numbers n) k ≡ ((k == n) || set.contains numbers k)
contains-with numbers n k = contains-insert nat_cmp_total numbers n k ∙ ap (λ b. b || set.contains numbers k) (unsigned_tied k n)

pub contains-without : (numbers : set.FinSet nat_cmp) (n k : ℕ) → set.contains (set.remove numbers n) k ≡ (not (k == n) && set.contains numbers k)
contains-without numbers n k = contains-remove nat_cmp_total numbers n k ∙ ap (λ b. not b && set.contains numbers k) (unsigned_tied k n)

-- two sets of numbers with the same members
pub same_numbers : (a b : set.FinSet nat_cmp) → ((k : ℕ) → set.contains a k ≡ set.contains b k) → a ≡ b
same_numbers a b same = same_set nat_cmp_total nat_cmp-IsAntisymmetric a b same
