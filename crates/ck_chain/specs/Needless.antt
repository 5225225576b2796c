-- Which entries of checkpoints can go, since the newer filesets say the same.
use Rattle.std.specs.Prelude.{◌≡◌, ℕ, Bool, true, false, ◌&&◌, not, Option, Some, None, IfSome, if◌then◌else◌, ◌≢◌, ◌<◌, ◌⊎◌, IsSomeAnd, nat_lt}
use Rattle.ck_model.specs.declared.key.Key.{Key}
use Rattle.ck_model.specs.declared.held.Held.{Held}
use Rattle.ck_model.specs.declared.held.Held.TheVariants.{Absent, Plain, Extent, Mark}
use Rattle.ck_model.specs.Table.{Table, column, newer, written}
use Rattle.ck_model.specs.Chain.{first_entry, is_gone, present}
use Rattle.ck_model.specs.Rules.{first_holder}

abbrev pub is_absent : Option Held → Bool
is_absent None = false
is_absent (Some Absent) = true
is_absent (Some (Plain stamp small)) = false
is_absent (Some (Extent stamp block)) = false
is_absent (Some (Mark stamp)) = false

-- the fileset that has the next newer entry says that there is no cell, and isn't gone; no fileset at all says so too
abbrev pub says_nothing : Table → Option (ℕ × Held) → Bool
says_nothing t None = true
says_nothing t (Some holder) = is_absent (Some holder.1) && not (is_gone t holder.0)

-- A checkpoint's entry says what the next newer one says, which stands in no checkpoint that is gone.
-- Versions of a key are unique, so that only an absent can say what another entry says.
abbrev pub is_needless : Table → ℕ → Key → Bool
is_needless t fs key = is_absent (column t key fs) && says_nothing t (first_holder (column t key) (newer t fs))

-- the entry says what the newer filesets say, of which the first with an entry isn't gone
pub record SaysSame (t : Table) (fs : ℕ) (key : Key) : Type 0 where
  pub value : present (column t key fs) ≡ present (first_entry (column t key) (newer t fs))
  pub stands : IfSome (first_holder (column t key) (newer t fs)) (λ holder. is_gone t holder.0 ≡ false)

-- the table without the entry, where it is needless
abbrev pub tidied : Table → ℕ → Key → Table
tidied t fs key = record t { entries = if is_needless t fs key then written t.entries fs key None else t.entries }

-- the next newer entry says something, or stands in a checkpoint that is gone
abbrev pub Says : Table → Option (ℕ × Held) → Type 0
Says t holder = IsSomeAnd holder (λ h. (is_gone t h.0 ≡ true) ⊎ (h.1 ≢ Absent))

-- the first of the filesets above a number that has an entry
pub record FirstAbove (c : ℕ → Option Held) (fs : ℕ) (holder : Option (ℕ × Held)) : Type 0 where
  pub at : ℕ
  pub held : Held
  pub more : fs < at
  pub has : c at ≡ Some held
  pub is : holder ≡ Some (at, held)

abbrev pub in_between : ℕ → ℕ → ℕ → Bool
in_between low high id = nat_lt low id && nat_lt id high
