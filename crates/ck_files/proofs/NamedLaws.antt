-- The two ways to say that a table names a data block.
use Rattle.std.proofs.Common.{◌≡◌, ℕ, true, Option, Some, None, is_some, ap}
use mathlib.Core.Bool.{false≢true}
use Rattle.ck_model.specs.declared.held.Held.{Held}
use Rattle.ck_model.specs.declared.held.Held.TheVariants.{Absent, Plain, Extent, Mark}
use Rattle.ck_model.specs.Table.{Table, column}
use Rattle.ck_chain.specs.Named.{block_of, IsNamed}
use Rattle.ck_files.specs.Allocated.{is_named}
use Rattle.ck_files.proofs.WorldLaws.{column_named}
use Rattle.ck_files.proofs.AllocatedLaws.{named_entry}

pub extent_is : (o : Option Held) (block : ℕ) → block_of o ≡ Some block → (stamp : ℕ) × (o ≡ Some (Extent stamp block))
extent_is None block h = absurd (false≢true (ap is_some h))
extent_is (Some Absent) block h = absurd (false≢true (ap is_some h))
extent_is (Some (Plain s small)) block h = absurd (false≢true (ap is_some h))
extent_is (Some (Extent s b)) block h = (s, ap (λ o. Some (Extent s (unwrap o))) h)
  where
    unwrap : Option ℕ → ℕ
    unwrap None = 0
    unwrap (Some x) = x
extent_is (Some (Mark s)) block h = absurd (false≢true (ap is_some h))

-- the two ways to say that a data block is named
pub named-is : (t : Table) (block : ℕ) → IsNamed t block → is_named t block ≡ true
named-is t block h = let e = extent_is (column t h.1.0 h.0) block h.1.1 in column_named t h.0 h.1.0 e.0 block e.1

pub is-named : (t : Table) (block : ℕ) → is_named t block ≡ true → IsNamed t block
is-named t block h = let e = named_entry t block h in (e.0.0, (e.0.1, ap block_of e.2))
