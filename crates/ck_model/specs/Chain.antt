-- What each fileset has at a key, through the chain of the newer filesets.
use Rattle.std.specs.Prelude.{ℕ, Bool, false, ◌&&◌, not, List, [], ◌∷◌, Option, Some, None, if◌then◌else◌, nat_le, nat_eq, is_some, filter}
use Rattle.std.specs.List.{list_any}
use Rattle.std.specs.Option.{option_map, option_map_or, option_or}
use Rattle.std.specs.FinMap as map
use Rattle.ck_model.specs.declared.key.Key.{Key}
use Rattle.ck_model.specs.declared.held.Held.{Held}
use Rattle.ck_model.specs.declared.held.Held.TheVariants.{Absent, Plain, Extent, Mark}
use Rattle.ck_model.specs.Table.{Table, column, newer}
use Rattle.ck_model.specs.World.{keeps_files}

-- the first entry of these filesets, and else the primary's
abbrev pub first_entry : (ℕ → Option Held) → List ℕ → Option Held
first_entry held [] = held 0
first_entry held (fs ∷ filesets) = option_or (held fs) (first_entry held filesets)

-- an absent says that there is no cell
abbrev pub present : Option Held → Option Held
present None = None
present (Some Absent) = None
present (Some (Plain stamp small)) = Some (Plain stamp small)
present (Some (Extent stamp block)) = Some (Extent stamp block)
present (Some (Mark stamp)) = Some (Mark stamp)

-- what a checkpoint has at a key: its own entry, else the first of the newer filesets, else the primary's
abbrev pub value_of : Table → ℕ → Key → Option Held
value_of t fs key = present (first_entry (column t key) (fs ∷ newer t fs))

-- what a fileset has at a key, the primary among them
abbrev pub value_at : Table → ℕ → Key → Option Held
value_at t fs key = if nat_eq fs 0 then present (column t key 0) else value_of t fs key

-- the checkpoint is in the table and isn't gone
abbrev pub is_live : Table → ℕ → Bool
is_live t fs = option_map_or (λ fileset. not fileset.gone) (map.get t.filesets fs) false

-- the checkpoint is in the table and is gone
abbrev pub is_gone : Table → ℕ → Bool
is_gone t fs = option_map_or (λ fileset. fileset.gone) (map.get t.filesets fs) false

-- the checkpoint isn't gone and keeps its files
abbrev pub is_live_data : Table → ℕ → Bool
is_live_data t fs = option_map_or (λ fileset. not fileset.gone && keeps_files fileset.kind) (map.get t.filesets fs) false

-- the ids of the checkpoints that aren't gone, oldest first
abbrev pub live_ids : Table → List ℕ
live_ids t = filter (is_live t) (newer t 0)

-- a live data checkpoint with this id or a lower one stands
abbrev pub keeps_data : Table → ℕ → Bool
keeps_data t fs = list_any (λ id. nat_le id fs && is_live_data t id) (newer t 0)

-- a data block as a mark
abbrev pub as_mark : Held → Held
as_mark Absent = Absent
as_mark (Plain stamp small) = Plain stamp small
as_mark (Extent stamp block) = Mark stamp
as_mark (Mark stamp) = Mark stamp

-- what a reader of the checkpoint sees: a data block in one that keeps no data is a mark
abbrev pub seen : Table → ℕ → Key → Option Held
seen t fs key = if keeps_data t fs then value_of t fs key else option_map as_mark (value_of t fs key)

-- the last of these ids that passes
abbrev pub last_of : (ℕ → Bool) → List ℕ → Option ℕ
last_of test [] = None
last_of test (id ∷ ids) = option_or (last_of test ids) (if test id then Some id else None)

-- the newest of the checkpoints that aren't gone
abbrev pub newest_live_of : Table → Option ℕ
newest_live_of t = last_of (is_live t) (newer t 0)

-- the fileset or a newer one has an entry at the key
abbrev pub is_covered : Table → ℕ → Key → Bool
is_covered t fs key = list_any (λ id. is_some (column t key id)) (fs ∷ newer t fs)
