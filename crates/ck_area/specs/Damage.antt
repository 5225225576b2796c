-- The rules that the slots of a table obey, and the first slot that breaks one.
use Rattle.std.specs.Prelude.{ℕ, suc, zero, Bool, true, false, not, ◌&&◌, ◌||◌, List, Option, Some, None, is_some, length, take, filter, nat_eq, nat_le, nat_lt, if◌then◌else◌}
use Rattle.std.specs.Ordering.{eq_by_cmp}
use Rattle.std.specs.Cmp.Lexicographic.{pointwise}
use Rattle.std.specs.Option.{option_map_or}
use Rattle.std.specs.List.{list_any}
use Rattle.std.specs.FinMap as map
use Rattle.ck_model.specs.declared.key.Key.{Key}
use Rattle.ck_model.specs.declared.key.Key.TheVariants.{Name, Node, Block}
use Rattle.ck_model.specs.declared.held.Held.{Held}
use Rattle.ck_model.specs.declared.held.Held.TheVariants.{Absent, Plain, Extent, Mark}
use Rattle.ck_model.specs.declared.held.Small.TheVariants.{To, File, Dir}
use Rattle.ck_model.specs.declared.checkpoint.Counters.{Counters}
use Rattle.ck_model.specs.declared.checkpoint.Fileset.{Fileset}
use Rattle.ck_model.specs.Key.{key_cmp, entry_cmp}
use Rattle.ck_model.specs.Table.{Table, column, newer}
use Rattle.ck_model.specs.World.{keeps_files}
use Rattle.ck_model.specs.Chain.{is_live, is_gone}
use Rattle.ck_model.specs.Rules.{stamp_in, block_in, first_holder}
use Rattle.ck_record.specs.declared.records.Record.{Record}
use Rattle.ck_record.specs.declared.records.Record.TheVariants.{Free, Counters as CountersRecord, Fileset as FilesetRecord, Entry}
use Rattle.ck_area.specs.Area.{Area, slot_at, entries_in, filesets_in, counters_in, table_of}

-- ---- what lower slots have

abbrev pub is_alike : Option ℕ → Option ℕ → Bool
is_alike None None = false
is_alike None (Some y) = false
is_alike (Some x) None = false
is_alike (Some x) (Some y) = nat_eq x y

-- an entry stands at this place of a fileset
abbrev pub has_place : List ((ℕ × Key) × Held) → ℕ → Key → Bool
has_place entries fs key = list_any (λ e. eq_by_cmp entry_cmp (fs, key) e.0) entries

-- the key has this version, whatever the fileset
abbrev pub has_version : List ((ℕ × Key) × Held) → Key → Option ℕ → Bool
has_version entries key stamp = list_any (λ e. eq_by_cmp key_cmp key e.0.1 && is_alike stamp (stamp_in e.1)) entries

-- the data block is named
abbrev pub has_block : List ((ℕ × Key) × Held) → Option ℕ → Bool
has_block entries block = list_any (λ e. is_alike block (block_in e.1)) entries

-- the id is taken, or the name by one that isn't gone
abbrev pub has_fileset : List (ℕ × Fileset) → ℕ → Fileset → Bool
has_fileset filesets id fileset =
    list_any (λ e. nat_eq id e.0 || (not fileset.gone && not e.1.gone && pointwise nat_eq fileset.name e.1.name)) filesets

-- so many aren't gone
abbrev pub live_count : List (ℕ × Fileset) → ℕ
live_count filesets = length (filter (λ e. not e.1.gone) filesets)

-- ---- numbers, where there are counters

abbrev pub is_id_past : Option Counters → ℕ → Bool
is_id_past counters id = option_map_or (λ c. nat_le c.id id) counters false

abbrev pub is_stamp_past : Option Counters → Option ℕ → Bool
is_stamp_past counters stamp = option_map_or (λ c. option_map_or (λ s. nat_le c.stamp s) stamp false) counters false

abbrev pub number_in : Key → ℕ
number_in (Name directory name) = directory
number_in (Node number) = number
number_in (Block number index) = number

-- the node that a name names
abbrev pub node_in : Held → Option ℕ
node_in Absent = None
node_in (Plain stamp (To node)) = Some node
node_in (Plain stamp (File size)) = None
node_in (Plain stamp Dir) = None
node_in (Extent stamp block) = None
node_in (Mark stamp) = None

abbrev pub is_number_past : Option Counters → Key → Held → Bool
is_number_past counters key held =
    option_map_or (λ c. nat_le c.number (number_in key) || option_map_or (λ node. nat_le c.number node) (node_in held) false) counters false

-- ---- what depends on all filesets

-- a data checkpoint that isn't gone stands at this id or below
abbrev pub data_upto : List (ℕ × Fileset) → ℕ → Bool
data_upto filesets fs = list_any (λ e. nat_le e.0 fs && (not e.1.gone && keeps_files e.1.kind)) filesets

abbrev pub is_absent : Held → Bool
is_absent Absent = true
is_absent (Plain stamp small) = false
is_absent (Extent stamp block) = false
is_absent (Mark stamp) = false

-- the next newer entry stands in a checkpoint that is gone, or isn't an absent
abbrev pub is_needed_by : Table → Option (ℕ × Held) → Bool
is_needed_by t None = false
is_needed_by t (Some holder) = is_gone t holder.0 || not (is_absent holder.1)

-- an absent of a checkpoint that isn't gone, without need
abbrev pub is_needless : Table → ℕ → Key → Bool
is_needless t fs key = is_live t fs && not (is_needed_by t (first_holder (column t key) (newer t fs)))

-- an entry that may not stand in the primary, or not in this checkpoint
abbrev pub is_misplaced : Table → List (ℕ × Fileset) → ℕ → Key → Held → Bool
is_misplaced t filesets fs key Absent = nat_eq fs 0 || is_needless t fs key
is_misplaced t filesets fs key (Plain stamp small) = false
is_misplaced t filesets fs key (Extent stamp block) = false
is_misplaced t filesets fs key (Mark stamp) = nat_eq fs 0 || data_upto filesets fs

-- ---- the rules

-- the fileset breaks a rule, with these in lower slots
abbrev pub breaks_fileset : Option Counters → List (ℕ × Fileset) → ℕ → Fileset → Bool
breaks_fileset counters lower id fileset =
    has_fileset lower id fileset || is_id_past counters id || (not fileset.gone && nat_le 64 (live_count lower))

-- the entry breaks a rule that looks at lower slots alone
abbrev pub breaks_lower : Option Counters → ℕ → List ((ℕ × Key) × Held) → ℕ → Key → Held → Bool
breaks_lower counters blocks lower fs key held =
    has_place lower fs key || is_stamp_past counters (stamp_in held) || is_number_past counters key held
    || option_map_or (λ block. nat_le blocks block) (block_in held) false || has_block lower (block_in held) || has_version lower key (stamp_in held)

-- the entry breaks a rule that looks at the whole table
abbrev pub breaks_whole : Table → List (ℕ × Fileset) → ℕ → Key → Held → Bool
breaks_whole t filesets fs key held =
    (not (nat_eq fs 0) && not (is_some (map.get t.filesets fs))) || is_misplaced t filesets fs key held

-- a record of a slot other than the first, with these slots below it
abbrev pub breaks_record : ℕ → ℕ → Area → Area → Record → Bool
breaks_record blocks records area lower Free = false
breaks_record blocks records area lower (CountersRecord counters) = true
breaks_record blocks records area lower (FilesetRecord id fileset) = breaks_fileset (counters_in area) (filesets_in lower) id fileset
breaks_record blocks records area lower (Entry fs key held) =
    breaks_lower (counters_in area) blocks (entries_in lower) fs key held
    || breaks_whole (table_of blocks records area) (filesets_in area) fs key held

abbrev pub is_free : Record → Bool
is_free Free = true
is_free (CountersRecord counters) = false
is_free (FilesetRecord id fileset) = false
is_free (Entry fs key held) = false

-- the slot of this number breaks a rule
abbrev pub breaks_slot : ℕ → ℕ → Area → ℕ → Option Record → Bool
breaks_slot blocks records area slot None = true
breaks_slot blocks records area zero (Some value) = not (is_some (counters_in area))
breaks_slot blocks records area (suc before) (Some value) =
    (nat_lt records (suc before) && not (is_free value)) || breaks_record blocks records area (take (suc before) area) value

abbrev pub breaks : ℕ → ℕ → Area → ℕ → Bool
breaks blocks records area slot = breaks_slot blocks records area slot (slot_at area slot)

-- the first slot from a number on, of so many, that breaks a rule
abbrev pub damaged_from : ℕ → ℕ → Area → ℕ → ℕ → Option ℕ
damaged_from blocks records area slot zero = None
damaged_from blocks records area slot (suc left) =
    if breaks blocks records area slot then Some slot else damaged_from blocks records area (suc slot) left

-- the lowest slot that breaks a rule
abbrev pub damage : ℕ → ℕ → Area → Option ℕ
damage blocks records area = damaged_from blocks records area 0 (length area)
