-- The data blocks that nothing names any more.
use Rattle.std.specs.Prelude.{◌≡◌, ◌↔◌, ◌⊎◌, ℕ, Bool, true, List, [], ◌∷◌, ◌++◌, Option, Some, None, nat_eq}
use Rattle.std.specs.List.{list_any, IsDistinct}
use Rattle.ck_model.specs.Table.{Table}
use Rattle.ck_chain.specs.Named.{IsNamed}

abbrev pub is_among : List ℕ → ℕ → Bool
is_among blocks block = list_any (nat_eq block) blocks

-- exactly the data blocks that an entry named before and that none names afterwards, each once
pub record AreFreed (old new : Table) (blocks : List ℕ) : Type 0 where
  pub exact : (block : ℕ) → (is_among blocks block ≡ true) ↔ (IsNamed old block × (IsNamed new block → ⊥))
  pub once : IsDistinct nat_eq blocks

-- a list gains them at its end
pub record GainsFreed (before after : List ℕ) (old new : Table) : Type 0 where
  pub gained : List ℕ
  pub behind : after ≡ before ++ gained
  pub freed : AreFreed old new gained

-- ---- one step after another

-- each data block that was named is named still, or is one of these; no other is named
pub record AreReleased (old new : Table) (blocks : List ℕ) : Type 0 where
  pub parted : (block : ℕ) → IsNamed old block → IsNamed new block ⊎ (is_among blocks block ≡ true)
  pub gone : (block : ℕ) → is_among blocks block ≡ true → IsNamed old block × (IsNamed new block → ⊥)
  pub kept : (block : ℕ) → IsNamed new block → IsNamed old block
  pub once : IsDistinct nat_eq blocks

pub record Gains (before after : List ℕ) (old new : Table) : Type 0 where
  pub gained : List ℕ
  pub behind : after ≡ before ++ gained
  pub released : AreReleased old new gained

abbrev pub listed : Option ℕ → List ℕ
listed None = []
listed (Some block) = block ∷ []
