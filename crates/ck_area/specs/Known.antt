-- What is known of a whole table: the checkpoints and entries by their keys, and what follows from them.
use Rattle.std.specs.Prelude.{◌≡◌, ◌<◌, ◌⊎◌, ℕ, Bool, false, ◌||◌, List, Option, Some, None, is_some, IsSome, if◌then◌else◌, nat_eq, nat_le}
use Rattle.std.specs.declared.cmp.Ordering.{Ordering}
use Rattle.std.specs.declared.cmp.Ordering.TheVariants.{Less}
use Rattle.std.specs.Ordering.{nat_cmp, ordering_then, is_gt}
use Rattle.std.specs.Option.{option_map_or}
use Rattle.std.specs.FinMap.{find}
use Rattle.std.specs.BTreeMap as tree
use Rattle.ck_model.specs.declared.key.Key.{Key}
use Rattle.ck_model.specs.declared.held.Held.{Held}
use Rattle.ck_model.specs.declared.checkpoint.Fileset.{Fileset}
use Rattle.ck_model.specs.Key.{entry_cmp}
use Rattle.ck_model.specs.contracts.key.KeyOrd.TheImpl.{ghosts}
use Rattle.std.specs.FinMap as map
use Rattle.ck_model.specs.Table.{Table, column}
use Rattle.ck_area.specs.declared.known.Known.{Known}
use Rattle.ck_area.specs.Damage.{data_upto}

-- by keys, and then by filesets
abbrev pub column_order : Key × ℕ → Key × ℕ → Ordering
column_order x y = ordering_then ((ghosts).cmp x.0 y.0) (nat_cmp x.1 y.1)

-- the fileset is the primary or a checkpoint of the table
abbrev pub is_home : (ℕ → Option Fileset) → ℕ → Bool
is_home filesets fs = nat_eq fs 0 || is_some (filesets fs)

-- what the first of these entries holds at a fileset's key, if the fileset is one of the table
abbrev pub found_at_home : (ℕ → Option Fileset) → List ((ℕ × Key) × Held) → ℕ → Key → Option Held
found_at_home filesets entries fs key = if is_home filesets fs then find entry_cmp (fs, key) entries else None

-- a number is at this one or above it, if there is one
abbrev pub is_from : Option ℕ → ℕ → Bool
is_from least n = option_map_or (λ x. nat_le x n) least false

-- the first of the newer filesets that has an entry, and else the primary, with the entry
abbrev pub IsNextHolder : (ℕ → Option Held) → ℕ → Option (ℕ × Held) → Type 0
IsNextHolder held fs None = ((id : ℕ) → fs < id → held id ≡ None) × (held 0 ≡ None)
IsNextHolder held fs (Some holder) =
    (held holder.0 ≡ Some holder.1)
    × (((fs < holder.0) × ((id : ℕ) → fs < id → id < holder.0 → held id ≡ None)) ⊎ ((holder.0 ≡ 0) × ((id : ℕ) → fs < id → held id ≡ None)))

-- the first entry behind a place, in the order by keys
abbrev pub IsFirstBehind : (Key × ℕ → Option Held) → Key × ℕ → Option ((Key × ℕ) × Held) → Type 0
IsFirstBehind held place None = (q : Key × ℕ) → column_order place q ≡ Less → held q ≡ None
IsFirstBehind held place (Some e) =
    (column_order place e.0 ≡ Less) × (held e.0 ≡ Some e.1) × ((q : Key × ℕ) → column_order place q ≡ Less → IsSome (held q) → is_gt (column_order e.0 q) ≡ false)

-- the entry of the first of the newer filesets that has one
abbrev pub IsNewerHolder : (ℕ → Option Held) → ℕ → Option (ℕ × Held) → Type 0
IsNewerHolder held fs None = (id : ℕ) → fs < id → held id ≡ None
IsNewerHolder held fs (Some holder) = (fs < holder.0) × (held holder.0 ≡ Some holder.1) × ((id : ℕ) → fs < id → id < holder.0 → held id ≡ None)

-- ---- what is known stands for a table

-- it has a table's checkpoints and entries, and the least data checkpoint of these
pub record Knows (t : Table) (listed : List (ℕ × Fileset)) (known : Known) : Type 0 where
  pub filesets : (id : ℕ) → tree.get nat_cmp known.filesets id ≡ map.get t.filesets id
  pub entries : (fs : ℕ) (key : Key) → tree.get column_order known.entries (key, fs) ≡ (if is_home (tree.get nat_cmp known.filesets) fs then column t key fs else None)
  pub least : (fs : ℕ) → data_upto listed fs ≡ is_from known.least_data fs
