-- What a table means: the entries of all filesets, the filesets, the counters and two limits.
use Rattle.std.specs.Prelude.{◌≡◌, ℕ, ◌+◌, ◌-◌, ◌≤◌, List, Option, Some, None, filter, nat_lt, nat_eq, map as list_map}
use Rattle.std.specs.Ordering.{nat_cmp, is_lt}
use Rattle.std.specs.FinMap as map
use Rattle.ck_model.specs.declared.key.Key.{Key}
use Rattle.ck_model.specs.declared.held.Held.{Held}
use Rattle.ck_model.specs.declared.checkpoint.Fileset.{Fileset}
use Rattle.ck_model.specs.declared.checkpoint.Counters.{Counters}
use Rattle.ck_model.specs.Key.{key_cmp, entry_cmp}
use Rattle.ck_model.specs.Held.{IsWord, IsEntry, IsCounters, IsFileset}

-- from a fileset and a key to what is held there; fileset 0 is the primary
abbrev pub Entries : Type 0
Entries = map.FinMap entry_cmp Held

-- from a checkpoint's id to its fileset
abbrev pub Filesets : Type 0
Filesets = map.FinMap nat_cmp Fileset

-- so many data blocks and records the table may name and hold
pub record Table : Type 0 where
  pub entries : Entries
  pub filesets : Filesets
  pub counters : Counters
  pub blocks : ℕ
  pub records : ℕ

-- the entries and filesets that stand
abbrev pub record_count : Table → ℕ
record_count t = map.len t.entries + map.len t.filesets

-- the records that are free
abbrev pub spare_count : Table → ℕ
spare_count t = t.records - record_count t

-- what each fileset holds at one key
abbrev pub column : Table → Key → ℕ → Option Held
column t key fs = map.get t.entries (fs, key)

-- the ids of the checkpoints newer than this one, oldest first, gone ones too; of 0, of all checkpoints
abbrev pub newer : Table → ℕ → List ℕ
newer t fs = filter (λ id. nat_lt fs id) (map.keys t.filesets)

-- the keys of a fileset, in their order
abbrev pub keys_in : Table → ℕ → List Key
keys_in t fs = list_map (λ e. e.0.1) (filter (λ e. nat_eq e.0.0 fs) (map.entries t.entries))

-- those after this one
abbrev pub keys_after : Table → ℕ → Option Key → List Key
keys_after t fs None = keys_in t fs
keys_after t fs (Some key) = filter (λ q. is_lt (key_cmp key q)) (keys_in t fs)

-- ---- changes

-- the entries with this at a fileset's key, or with nothing there
abbrev pub written : Entries → ℕ → Key → Option Held → Entries
written entries fs key None = map.remove entries (fs, key)
written entries fs key (Some held) = map.insert entries (fs, key) held

abbrev pub with_entry : Table → ℕ → Key → Option Held → Table
with_entry t fs key held = record t { entries = written t.entries fs key held }

-- the filesets with this under an id, or with none there
abbrev pub recorded : Filesets → ℕ → Option Fileset → Filesets
recorded filesets id None = map.remove filesets id
recorded filesets id (Some fileset) = map.insert filesets id fileset

abbrev pub with_fileset : Table → ℕ → Option Fileset → Table
with_fileset t id fileset = record t { filesets = recorded t.filesets id fileset }

abbrev pub with_counters : Table → Counters → Table
with_counters t counters = record t { counters = counters }

-- ---- what every table keeps

-- each record is one that a table may have
pub record IsTable (t : Table) : Type 0 where
  pub entries : (fs : ℕ) (key : Key) (held : Held) → column t key fs ≡ Some held → IsWord fs × IsEntry key held
  pub filesets : (id : ℕ) (fileset : Fileset) → map.get t.filesets id ≡ Some fileset → IsFileset id fileset
  pub counters : IsCounters t.counters

-- its records are at most as many as its limit, and the limits within theirs
pub record IsSized (t : Table) : Type 0 where
  pub blocks : t.blocks ≤ 65536
  pub records : t.records ≤ 262144
  pub fits : record_count t ≤ t.records
