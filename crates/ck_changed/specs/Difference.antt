-- Where two checkpoints of a table differ.
use Rattle.std.specs.Prelude.{◌≡◌, ◌<◌, ◌≤◌, ℕ, Bool, true, false, not, Option, Some, None, IfSome, IsSome, nat_eq, if◌then◌else◌}
use Rattle.std.specs.Option.{option_map}
use Rattle.ck_model.specs.declared.key.Key.{Key}
use Rattle.ck_model.specs.declared.held.Held.{Held}
use Rattle.ck_model.specs.declared.held.Held.TheVariants.{Absent, Plain, Extent, Mark}
use Rattle.ck_model.specs.Table.{Table, column}
use Rattle.ck_model.specs.Chain.{value_of}
use Rattle.ck_chain.specs.Order.{is_after, is_before}

-- the stamp of a value; an absent is none
abbrev pub version : Held → ℕ
version Absent = 0
version (Plain stamp small) = stamp
version (Extent stamp block) = stamp
version (Mark stamp) = stamp

-- one is there and the other isn't, or their stamps differ
abbrev pub values_differ : Option Held → Option Held → Bool
values_differ None None = false
values_differ None (Some y) = true
values_differ (Some x) None = true
values_differ (Some x) (Some y) = not (nat_eq (version x) (version y))

-- what a checkpoint has at a key; 0 stands for an empty map
abbrev pub value_from : Table → ℕ → Key → Option Held
value_from t from key = if nat_eq from 0 then None else value_of t from key

abbrev pub differs_at : Table → ℕ → ℕ → Key → Bool
differs_at t from to key = values_differ (value_from t from key) (value_of t to key)

-- the next key at which the checkpoints differ, with what the second one has there
pub record IsNextDifference (t : Table) (from to : ℕ) (after : Option Key) (next : Option (Key × Option Held)) : Type 0 where
  pub behind : IfSome next (λ d. is_after after d.0 ≡ true)
  pub differs : IfSome next (λ d. differs_at t from to d.0 ≡ true)
  pub value : IfSome next (λ d. d.1 ≡ value_of t to d.0)
  -- no key before it differs, and no key at all where there is none
  pub between : (q : Key) → is_after after q ≡ true → is_before (option_map (λ d. d.0) next) q ≡ true → differs_at t from to q ≡ false

-- one of the filesets from the older one up to, without, the newer one has an entry at the key
pub record EntryBetween (t : Table) (older newer : ℕ) (key : Key) : Type 0 where
  pub at : ℕ
  pub from : older ≤ at
  pub below : at < newer
  pub entry : IsSome (column t key at)
