-- Which data blocks are in use.
use Rattle.std.specs.Prelude.{◌≡◌, ℕ, ◌||◌, Bool, true, false, List, [], Option, Some, None, nat_eq}
use Rattle.ck_model.specs.declared.held.Held.{Held}
use Rattle.std.specs.List.{list_any}
use Rattle.std.specs.FinSet as set
use Rattle.ck_alloc.specs.Blocks.{Allocation, IsPartition}
use Rattle.ck_model.specs.Table.{Table}
use Rattle.ck_model.specs.TableWorld.{extents_of, blocks_in}
use Rattle.ck_model.specs.Values.{Store}

abbrev pub is_named : Table → ℕ → Bool
is_named t block = list_any (nat_eq block) (extents_of t)

-- it is one of these
abbrev pub is_taken : List ℕ → ℕ → Bool
is_taken taken block = list_any (nat_eq block) taken

-- the data blocks that the table names are in use, and these, which were taken and no entry names yet; no others are
pub record IsAllocatedBut (taken : List ℕ) (t : Table) (blocks : Allocation) : Type 0 where
  pub total : blocks.total ≡ t.blocks
  pub used : (block : ℕ) → set.contains blocks.used block ≡ (is_named t block || is_taken taken block)
  pub partition : IsPartition blocks

-- none is taken
abbrev pub IsAllocated : Table → Allocation → Type 0
IsAllocated t blocks = IsAllocatedBut [] t blocks

-- the table names none of these
abbrev pub AreUnnamed : List ℕ → Table → Type 0
AreUnnamed taken t = (block : ℕ) → is_taken taken block ≡ true → is_named t block ≡ false

-- the data block that this names
abbrev pub blocks_held : Option Held → List ℕ
blocks_held None = []
blocks_held (Some held) = blocks_in held

-- the data block is in use, or waits for a commit
abbrev pub is_busy : Allocation → ℕ → Bool
is_busy blocks block = set.contains blocks.used block || set.contains blocks.pending block

-- one that is so stays so
abbrev pub KeepsBusy : Allocation → Allocation → Type 0
KeepsBusy old new = (block : ℕ) → is_busy old block ≡ true → is_busy new block ≡ true

-- the data blocks that a table names hold the same in both
abbrev pub SameNamed : Table → Store → Store → Type 0
SameNamed t old new = (block : ℕ) → is_named t block ≡ true → new block ≡ old block
