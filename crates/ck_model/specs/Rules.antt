-- The rules that every table of a volume obeys.
use Rattle.std.specs.Prelude.{◌≡◌, ◌≢◌, ◌≤◌, ◌<◌, ◌⊎◌, ⊤, ℕ, true, false, List, [], ◌∷◌, Option, Some, None, IsSome, IsSomeAnd, IfSome, length}
use Rattle.std.specs.Option.{option_map, option_or}
use Rattle.std.specs.FinMap as map
use Rattle.ck_model.specs.declared.key.Key.{Key}
use Rattle.ck_model.specs.declared.key.Key.TheVariants.{Name, Node, Block}
use Rattle.ck_model.specs.declared.held.Held.{Held}
use Rattle.ck_model.specs.declared.held.Held.TheVariants.{Absent, Plain, Extent, Mark}
use Rattle.ck_model.specs.declared.held.Small.{Small}
use Rattle.ck_model.specs.declared.held.Small.TheVariants.{To, File, Dir}
use Rattle.ck_model.specs.declared.checkpoint.Fileset.{Fileset}
use Rattle.ck_model.specs.Table.{Table, column, newer}
use Rattle.ck_model.specs.Chain.{is_live, is_gone, live_ids, keeps_data}

-- the version that an entry is of; an absent is of none
abbrev pub stamp_in : Held → Option ℕ
stamp_in Absent = None
stamp_in (Plain stamp small) = Some stamp
stamp_in (Extent stamp block) = Some stamp
stamp_in (Mark stamp) = Some stamp

-- the data block that an entry names
abbrev pub block_in : Held → Option ℕ
block_in Absent = None
block_in (Plain stamp small) = None
block_in (Extent stamp block) = Some block
block_in (Mark stamp) = None

abbrev pub KeyBelow : ℕ → Key → Type 0
KeyBelow limit (Name directory name) = directory < limit
KeyBelow limit (Node number) = number < limit
KeyBelow limit (Block number index) = number < limit

abbrev pub SmallBelow : ℕ → Small → Type 0
SmallBelow limit (To node) = node < limit
SmallBelow limit (File size) = ⊤
SmallBelow limit Dir = ⊤

-- the node that a name names is below this number
abbrev pub HeldBelow : ℕ → Held → Type 0
HeldBelow limit Absent = ⊤
HeldBelow limit (Plain stamp small) = SmallBelow limit small
HeldBelow limit (Extent stamp block) = ⊤
HeldBelow limit (Mark stamp) = ⊤

-- the primary has only entries of these kinds
abbrev pub IsOwn : Held → Type 0
IsOwn Absent = ⊥
IsOwn (Plain stamp small) = ⊤
IsOwn (Extent stamp block) = ⊤
IsOwn (Mark stamp) = ⊥

-- the first fileset of these that has an entry, and else the primary, with the entry
abbrev pub first_holder : (ℕ → Option Held) → List ℕ → Option (ℕ × Held)
first_holder held [] = option_map (λ entry. (0, entry)) (held 0)
first_holder held (fs ∷ filesets) = option_or (option_map (λ entry. (fs, entry)) (held fs)) (first_holder held filesets)

-- an absent is needed where the next newer entry says something else, or stands in a checkpoint that is gone
abbrev pub IsNeeded : Table → Key → ℕ → Type 0
IsNeeded t key fs = IsSomeAnd (first_holder (column t key) (newer t fs)) (λ holder. (is_gone t holder.0 ≡ true) ⊎ (holder.1 ≢ Absent))

-- the rules but the one on needless absents
pub record IsOrderly (t : Table) : Type 0 where
  -- no two checkpoints that aren't gone have one name
  pub names : (a b : ℕ) (f g : Fileset) → map.get t.filesets a ≡ Some f → map.get t.filesets b ≡ Some g → f.gone ≡ false → g.gone ≡ false → f.name ≡ g.name → a ≡ b
  pub ids : (id : ℕ) → IsSome (map.get t.filesets id) → id < t.counters.id
  pub live : length (live_ids t) ≤ 64
  -- each entry is of the primary or of a checkpoint of the table
  pub homes : (fs : ℕ) (key : Key) → IsSome (column t key fs) → (fs ≡ 0) ⊎ IsSome (map.get t.filesets fs)
  pub stamps : (fs : ℕ) (key : Key) (held : Held) → column t key fs ≡ Some held → IfSome (stamp_in held) (λ stamp. stamp < t.counters.stamp)
  pub numbers : (fs : ℕ) (key : Key) (held : Held) → column t key fs ≡ Some held → KeyBelow t.counters.number key × HeldBelow t.counters.number held
  pub blocks : (fs : ℕ) (key : Key) (held : Held) → column t key fs ≡ Some held → IfSome (block_in held) (λ block. block < t.blocks)
  -- no data block is named twice
  pub unshared : (fs gs : ℕ) (key other : Key) (held again : Held) (block : ℕ) → column t key fs ≡ Some held → column t other gs ≡ Some again → block_in held ≡ Some block → block_in again ≡ Some block → (fs ≡ gs) × (key ≡ other)
  pub primary : (key : Key) (held : Held) → column t key 0 ≡ Some held → IsOwn held
  -- marks stand only where no data is kept
  pub marks : (fs : ℕ) (key : Key) (stamp : ℕ) → column t key fs ≡ Some (Mark stamp) → keeps_data t fs ≡ false
  -- no version of a key stands twice
  pub versions : (fs gs : ℕ) (key : Key) (held again : Held) (stamp : ℕ) → column t key fs ≡ Some held → column t key gs ≡ Some again → stamp_in held ≡ Some stamp → stamp_in again ≡ Some stamp → fs ≡ gs

-- all rules: beside those, each absent of a checkpoint that isn't gone is needed
pub record IsSound (t : Table) : Type 0 where
  pub orderly : IsOrderly t
  pub absents : (fs : ℕ) (key : Key) → is_live t fs ≡ true → column t key fs ≡ Some Absent → IsNeeded t key fs
