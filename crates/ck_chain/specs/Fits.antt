-- Which entries may be written into a table.
use Rattle.std.specs.Prelude.{◌≡◌, ℕ, ◌<◌, false, ◌⊎◌, Some, IsSome, IfSome}
use Rattle.std.specs.FinMap as map
use Rattle.ck_model.specs.declared.key.Key.{Key}
use Rattle.ck_model.specs.declared.held.Held.{Held}
use Rattle.ck_model.specs.declared.held.Held.TheVariants.{Mark}
use Rattle.ck_model.specs.Table.{Table, column}
use Rattle.ck_model.specs.Chain.{keeps_data}
use Rattle.ck_model.specs.Rules.{IsOwn, KeyBelow, HeldBelow, stamp_in, block_in}

-- an entry that the rules let stand at this fileset and key, beside the others
pub record Fits (t : Table) (f : ℕ) (k : Key) (held : Held) : Type 0 where
  pub home : (f ≡ 0) ⊎ IsSome (map.get t.filesets f)
  pub stamp : IfSome (stamp_in held) (λ stamp. stamp < t.counters.stamp)
  pub number : KeyBelow t.counters.number k × HeldBelow t.counters.number held
  pub block : IfSome (block_in held) (λ block. block < t.blocks)
  pub primary : f ≡ 0 → IsOwn held
  pub mark : (stamp : ℕ) → held ≡ Mark stamp → keeps_data t f ≡ false
  -- no other entry names its block
  pub unshared : (gs : ℕ) (other : Key) (again : Held) (block : ℕ) → column t other gs ≡ Some again → block_in again ≡ Some block → block_in held ≡ Some block → (gs ≡ f) × (other ≡ k)
  -- no other entry of the key has its stamp
  pub version : (gs : ℕ) (again : Held) (stamp : ℕ) → column t k gs ≡ Some again → stamp_in again ≡ Some stamp → stamp_in held ≡ Some stamp → gs ≡ f
