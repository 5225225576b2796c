-- The world that a table stands for over the data blocks of a device.
use Rattle.std.specs.Prelude.{ℕ, not, List, [], ◌∷◌, ◌++◌, Option, Some, None, length, filter, map as list_map, Bool}
use Rattle.std.specs.FinMap as map
use Rattle.std.specs.Ordering.{eq_by_cmp}
use Rattle.std.specs.List.{list_any}
use Rattle.ck_model.specs.declared.key.Key.{Key}
use Rattle.ck_model.specs.declared.held.Held.{Held}
use Rattle.ck_model.specs.declared.held.Held.TheVariants.{Absent, Plain, Extent, Mark}
use Rattle.ck_model.specs.declared.checkpoint.Fileset.{Fileset}
use Rattle.ck_model.specs.World.{World, Checkpoint, Mounts, shown_by}
use Rattle.ck_model.specs.Table.{Table}
use Rattle.ck_model.specs.Chain.{value_at}
use Rattle.ck_model.specs.Values.{Store, Values, cells_on}
use Rattle.ck_model.specs.Key.{key_cmp}
use Rattle.ck_model.specs.Limits.{checkpoint_limit}

-- the keys of all entries, whatever their filesets
abbrev pub keys_of : Table → List Key
keys_of t = list_map (λ e. e.0.1) (map.entries t.entries)

abbrev pub with_value : Key → Option Held → List (Key × Held) → List (Key × Held)
with_value key None rest = rest
with_value key (Some held) rest = (key, held) ∷ rest

-- those of these keys at which a fileset has a value, each with its value
abbrev pub valued : (Key → Option Held) → List Key → List (Key × Held)
valued value [] = []
valued value (key ∷ keys) = with_value key (value key) (valued value keys)

-- what a fileset has at each key, through the chain
abbrev pub values_of : Table → ℕ → Values
values_of t fs = map.from_entries (valued (value_at t fs) (keys_of t))

abbrev pub checkpoint_on : Store → Table → ℕ → Fileset → Checkpoint
checkpoint_on store t id fileset = record {
  id = id;
  name = fileset.name;
  kind = fileset.kind;
  removable = fileset.removable;
  ctime = fileset.ctime;
  cells = shown_by fileset.kind (cells_on store (values_of t id));
}

-- the checkpoints of a table that aren't gone, oldest first
abbrev pub live_filesets : Table → List (ℕ × Fileset)
live_filesets t = filter (λ e. not e.1.gone) (map.entries t.filesets)

abbrev pub checkpoints_on : Store → Table → List Checkpoint
checkpoints_on store t = list_map (λ e. checkpoint_on store t e.0 e.1) (live_filesets t)

abbrev pub world_on : Store → Mounts → Table → World
world_on store mounts t = record {
  limits = record { blocks = t.blocks; records = t.records; checkpoints = checkpoint_limit };
  primary = cells_on store (values_of t 0);
  checkpoints = checkpoints_on store t;
  next = t.counters;
  mounts = mounts;
}

-- ---- the data blocks that a table names

abbrev pub blocks_in : Held → List ℕ
blocks_in Absent = []
blocks_in (Plain stamp small) = []
blocks_in (Extent stamp block) = block ∷ []
blocks_in (Mark stamp) = []

abbrev pub blocks_of : List ((ℕ × Key) × Held) → List ℕ
blocks_of [] = []
blocks_of (e ∷ es) = blocks_in e.1 ++ blocks_of es

abbrev pub extents_of : Table → List ℕ
extents_of t = blocks_of (map.entries t.entries)

abbrev pub extent_count : Table → ℕ
extent_count t = length (extents_of t)

-- the key is one of these
abbrev pub is_among : Key → List Key → Bool
is_among q keys = list_any (λ key. eq_by_cmp key_cmp q key) keys
