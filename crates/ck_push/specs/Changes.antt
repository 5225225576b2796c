-- Changes of the primary, one or several: which may be made, and what they come to.
use Rattle.std.specs.Prelude.{◌≡◌, ◌≢◌, ◌⊎◌, ◌<◌, ◌+◌, ⊤, ℕ, true, List, [], ◌∷◌, Some, None, IsSome, IfSome}
use Rattle.ck_model.specs.declared.key.Key.{Key}
use Rattle.ck_model.specs.declared.held.Held.{Held}
use Rattle.ck_model.specs.declared.held.Held.TheVariants.{Absent}
use Rattle.ck_model.specs.declared.change.Change.{Change}
use Rattle.ck_model.specs.Held.{IsEntry, IsKey}
use Rattle.ck_model.specs.Table.{Table, IsTable, column, record_count}
use Rattle.ck_model.specs.Chain.{is_live, seen}
use Rattle.ck_model.specs.Rules.{IsSound, KeyBelow, HeldBelow, stamp_in}
use Rattle.ck_chain.specs.Named.{block_of, IsNamed}
use Rattle.ck_chain.specs.Changes.{key_of, is_deletion, value_after}
use Rattle.ck_push.specs.Changed.{changed, push_of}
use Rattle.ck_push.specs.Growth.{gain, loss, gains, losses}

-- ---- one change

-- the change may be made, whatever room there is
pub record MayChange (t : Table) (item : Change) (stamp : ℕ) : Type 0 where
  pub key : IsKey (key_of item)
  pub below : KeyBelow t.counters.number (key_of item)
  pub deleted : is_deletion item ≡ true → IsSome (column t (key_of item) 0)
  pub entry : IfSome (value_after item stamp) (IsEntry (key_of item))
  pub version : (fs : ℕ) (held : Held) → column t (key_of item) fs ≡ Some held → stamp_in held ≢ Some stamp
  pub numbers : IfSome (value_after item stamp) (λ held. KeyBelow t.counters.number (key_of item) × HeldBelow t.counters.number held)
  pub block : IfSome (block_of (value_after item stamp)) (λ block. (block < t.blocks) × (IsNamed t block → ⊥))

-- what a change, made by the call with this stamp, makes of a table
pub record IsChange (t : Table) (item : Change) (stamp : ℕ) (u : Table) : Type 0 where
  pub changed : u ≡ changed t (key_of item) (value_after item stamp)
  pub primary : column u (key_of item) 0 ≡ value_after item stamp
  pub pushed : IfSome (push_of t (key_of item)) (λ entry. column u (key_of item) entry.0 ≡ Some entry.1)
  -- A checkpoint's entry isn't overwritten. An absent may go, where it isn't needed any more.
  pub stays : (fs : ℕ) → 0 < fs → IsSome (column t (key_of item) fs)
      → (column u (key_of item) fs ≡ column t (key_of item) fs)
      ⊎ ((column t (key_of item) fs ≡ Some Absent) × (column u (key_of item) fs ≡ None))
  -- No other checkpoint gets an entry.
  pub bare : (fs : ℕ) → 0 < fs → IfSome (push_of t (key_of item)) (λ entry. entry.0 ≢ fs) → column t (key_of item) fs ≡ None → column u (key_of item) fs ≡ None
  pub others : (q : Key) → q ≢ key_of item → column u q ≡ column t q
  pub filesets : u.filesets ≡ t.filesets
  pub counters : u.counters ≡ t.counters
  pub blocks : u.blocks ≡ t.blocks
  pub limit : u.records ≡ t.records
  -- What every reader of a checkpoint that isn't gone sees stays.
  pub kept : (fs : ℕ) (q : Key) → is_live t fs ≡ true → seen u fs q ≡ seen t fs q
  pub lawful : IsTable u
  pub sound : IsSound u
  pub named : (block : ℕ) → IsNamed u block → IsNamed t block ⊎ (block_of (value_after item stamp) ≡ Some block)
  pub records : record_count u + loss t item ≡ record_count t + gain t item

-- ---- several

-- the table after these changes, one after the other, with this stamp
abbrev pub changed_all : Table → List Change → ℕ → Table
changed_all t [] stamp = t
changed_all t (item ∷ items) stamp = changed_all (changed t (key_of item) (value_after item stamp)) items stamp

-- it has another key than this one, and writes another block
pub record IsApart (stamp : ℕ) (item other : Change) : Type 0 where
  pub key : key_of other ≢ key_of item
  pub block : (block : ℕ) → block_of (value_after item stamp) ≡ Some block → block_of (value_after other stamp) ≢ Some block

abbrev pub AllApart : ℕ → Change → List Change → Type 0
AllApart stamp item [] = ⊤
AllApart stamp item (other ∷ others) = IsApart stamp item other × AllApart stamp item others

-- each may be made at this table, and they have different keys and blocks
abbrev pub MayChangeAll : Table → List Change → ℕ → Type 0
MayChangeAll t [] stamp = ⊤
MayChangeAll t (item ∷ items) stamp = MayChange t item stamp × AllApart stamp item items × MayChangeAll t items stamp

-- the table after several changes is lawful and sound, and its records are counted
pub record AreMade (t u : Table) (items : List Change) : Type 0 where
  pub lawful : IsTable u
  pub sound : IsSound u
  pub filesets : u.filesets ≡ t.filesets
  pub counters : u.counters ≡ t.counters
  pub blocks : u.blocks ≡ t.blocks
  pub records : u.records ≡ t.records
  pub counted : record_count u + losses t items ≡ record_count t + gains t items
