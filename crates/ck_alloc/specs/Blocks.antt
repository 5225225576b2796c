-- The data blocks of a device, as contracts see them: each is used, pending or free.
use Rattle.std.specs.Prelude.{◌≡◌, ℕ, ◌-◌, ◌+◌, ◌<◌, true, false, List, refl}
use Rattle.std.specs.Ordering.{nat_cmp}
use Rattle.std.specs.FinSet as set
use Rattle.std.specs.Coded.{Coded, code_by, coded×, coded_ℕ}

-- The blocks from 0 below the total that are used, and those that wait for the next commit. All others are free.
pub record Allocation : Type 0 where
  pub total : ℕ
  pub used : set.FinSet nat_cmp
  pub pending : set.FinSet nat_cmp

-- an allocation is stored as its total and its two sets
abbrev pub allocation_code : Coded Allocation
allocation_code =
    code_by (ℕ × (set.FinSet nat_cmp × set.FinSet nat_cmp)) (coded× coded_ℕ (coded× (set.code coded_ℕ) (set.code coded_ℕ)))
    (λ a. (a.total, (a.used, a.pending))) (λ p. record { total = p.0; used = p.1.0; pending = p.1.1 }) (λ _. refl)

-- these blocks are used, and all others are free
abbrev pub used_alone : ℕ → List ℕ → Allocation
used_alone total used = record { total = total; used = set.from_list used; pending = set.empty }

-- a free block is neither used nor pending
pub record IsFree (blocks : Allocation) (at : ℕ) : Type 0 where
  pub within : at < blocks.total
  pub unused : set.contains blocks.used at ≡ false
  pub settled : set.contains blocks.pending at ≡ false

-- how many blocks are free
abbrev pub free_count : Allocation → ℕ
free_count blocks = blocks.total - (set.len blocks.used + set.len blocks.pending)

-- Used and pending blocks are below the total, none is both, and the three counts add up to the total.
pub record IsPartition (blocks : Allocation) : Type 0 where
  pub used : (at : ℕ) → set.contains blocks.used at ≡ true → at < blocks.total
  pub pending : (at : ℕ) → set.contains blocks.pending at ≡ true → at < blocks.total
  pub apart : (at : ℕ) → set.contains blocks.used at ≡ true → set.contains blocks.pending at ≡ false
  pub counted : free_count blocks + (set.len blocks.used + set.len blocks.pending) ≡ blocks.total
