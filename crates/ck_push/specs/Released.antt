-- The data block that a change releases.
use Rattle.std.specs.Prelude.{◌≡◌, ◌↔◌, ℕ, Option, Some, None}
use Rattle.std.specs.Option.{option_map}
use Rattle.ck_model.specs.declared.held.Held.{Held}
use Rattle.ck_model.specs.declared.change.Freed.{Freed}
use Rattle.ck_model.specs.Table.{Table}
use Rattle.ck_chain.specs.Named.{block_of, IsNamed}

-- the block of the primary's entry, unless that is pushed with its block
abbrev pub unless_kept : Option ℕ → Option ℕ → Option ℕ
unless_kept block None = block
unless_kept block (Some kept) = None

abbrev pub released : Option Held → Option (ℕ × Held) → Option ℕ
released old push = unless_kept (block_of old) (block_of (option_map (λ (entry : ℕ × Held). entry.1) push))

-- the one data block that an entry named before, and that none names afterwards
abbrev pub IsFreed : Table → Table → Freed → Type 0
IsFreed old new freed = (block : ℕ) → (freed.block ≡ Some block) ↔ (IsNamed old block × (IsNamed new block → ⊥))
