-- The data blocks that checkpoints hold still, though no data is kept there.
use Rattle.std.specs.Prelude.{◌≡◌, ◌<◌, ◌⊎◌, ℕ, Bool, true, false, ◌&&◌, not, List, [], ◌∷◌, Option, Some, None, if◌then◌else◌, find}
use Rattle.std.specs.Option.{option_map, option_or}
use Rattle.std.specs.FinMap as map
use Rattle.ck_model.specs.declared.key.Key.{Key}
use Rattle.ck_model.specs.declared.held.Held.{Held}
use Rattle.ck_model.specs.declared.held.Held.TheVariants.{Absent, Plain, Extent, Mark}
use Rattle.ck_model.specs.Table.{Table, column, keys_after, newer}
use Rattle.ck_model.specs.Chain.{is_live, keeps_data}
use Rattle.ck_chain.specs.Order.{is_behind}
use Rattle.ck_nodata.specs.declared.item.StripItem.{StripItem}

abbrev pub is_extent : Option Held → Bool
is_extent None = false
is_extent (Some Absent) = false
is_extent (Some (Plain stamp small)) = false
is_extent (Some (Extent stamp block)) = true
is_extent (Some (Mark stamp)) = false

-- a checkpoint that isn't gone and keeps no data
abbrev pub drops_data : Table → ℕ → Bool
drops_data t fs = is_live t fs && not (keeps_data t fs)

-- a data block of such a checkpoint
abbrev pub is_unstripped : Table → ℕ → Key → Bool
is_unstripped t fs key = drops_data t fs && is_extent (column t key fs)

-- how many there are
abbrev pub unstripped_count : Table → ℕ
unstripped_count t = map.len (map.retain_keys t.entries (λ entry. is_unstripped t entry.0 entry.1))

-- ---- the first of them

-- the least key behind this one at which the fileset itself has a data block
abbrev pub first_extent : Table → ℕ → Option Key → Option Key
first_extent t fs after = find (λ key. is_extent (column t key fs)) (keys_after t fs after)

-- the first one behind the key that is stripped of this checkpoint
abbrev pub strip_in : Table → ℕ → Option Key → Option StripItem
strip_in t fs after = if drops_data t fs then option_map (λ key. record { id = fs; key = key }) (first_extent t fs after) else None

-- the first one of these checkpoints
abbrev pub first_strip : Table → List ℕ → Option StripItem
first_strip t [] = None
first_strip t (fs ∷ filesets) = option_or (strip_in t fs None) (first_strip t filesets)

-- the first one of all, that of the oldest checkpoint that has one
abbrev pub strip_work_of : Table → Option StripItem
strip_work_of t = first_strip t (newer t 0)

-- nothing is left to strip up to this one, by the checkpoints' age and then by the keys
abbrev pub IsStrippedTo : Table → StripItem → Type 0
IsStrippedTo t last = (fs : ℕ) (key : Key) → is_unstripped t fs key ≡ true → (last.id < fs) ⊎ ((fs ≡ last.id) × (is_behind last.key key ≡ true))
