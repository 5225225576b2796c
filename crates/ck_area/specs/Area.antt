-- The slots of a table's blocks: which record each has, and the table that they make.
use Rattle.std.specs.Prelude.{◌≡◌, ◌≢◌, ◌<◌, ◌*◌, ◌/◌, ◌%◌, ℕ, List, [], ◌∷◌, ◌++◌, Option, Some, None, length, take, drop, get_or, replicate, map as list_map, ◌-◌, ◌+◌, IfSome}
use Rattle.std.specs.Option.{unwrap_or}
use Rattle.std.specs.FinMap as map
use Rattle.std.specs.List.{AllByRecursion}
use Rattle.ck_model.specs.declared.key.Key.{Key}
use Rattle.ck_model.specs.declared.key.Key.TheVariants.{Node}
use Rattle.ck_model.specs.declared.held.Held.{Held}
use Rattle.ck_model.specs.declared.held.Held.TheVariants.{Plain}
use Rattle.ck_model.specs.declared.held.Small.TheVariants.{Dir}
use Rattle.ck_model.specs.declared.checkpoint.Counters.{Counters}
use Rattle.ck_model.specs.declared.checkpoint.Fileset.{Fileset}
use Rattle.ck_model.specs.Table.{Table}
use Rattle.ck_record.specs.declared.records.Record.{Record}
use Rattle.ck_record.specs.declared.records.Record.TheVariants.{Free, Counters as CountersRecord, Fileset as FilesetRecord, Entry}
use Rattle.ck_record.specs.Record.{IsRecord, spelling}

-- the blocks of a table, as bytes
abbrev pub Blocks : Type 0
Blocks = List (List ℕ)

-- the record of each slot, None where the bytes aren't a spelling
abbrev pub Area : Type 0
Area = List (Option Record)

-- 32 slots of 128 bytes stand in a block
abbrev pub slot_bytes : Blocks → ℕ → List ℕ
slot_bytes blocks slot = take 128 (drop (128 * (slot % 32)) (get_or blocks (slot / 32) []))

-- the bytes are the spelling of this record, or of none
abbrev pub IsReadAs : List ℕ → Option Record → Type 0
IsReadAs bytes None = (value : Record) → IsRecord value → spelling value ≢ bytes
IsReadAs bytes (Some value) = (spelling value ≡ bytes) × IsRecord value

abbrev pub slot_at : Area → ℕ → Option Record
slot_at area slot = get_or area slot None

-- these are the records in the slots of the blocks
pub record AreSlots (blocks : Blocks) (area : Area) : Type 0 where
  pub count : length area ≡ 32 * length blocks
  pub each : (slot : ℕ) → slot < length area → IsReadAs (slot_bytes blocks slot) (slot_at area slot)

-- ---- the table of an area: where several slots have the same place, the lowest counts

abbrev pub entries_by : Option Record → List ((ℕ × Key) × Held)
entries_by None = []
entries_by (Some Free) = []
entries_by (Some (CountersRecord counters)) = []
entries_by (Some (FilesetRecord id fileset)) = []
entries_by (Some (Entry fs key held)) = ((fs, key), held) ∷ []

abbrev pub filesets_by : Option Record → List (ℕ × Fileset)
filesets_by None = []
filesets_by (Some Free) = []
filesets_by (Some (CountersRecord counters)) = []
filesets_by (Some (FilesetRecord id fileset)) = (id, fileset) ∷ []
filesets_by (Some (Entry fs key held)) = []

abbrev pub entries_in : Area → List ((ℕ × Key) × Held)
entries_in [] = []
entries_in (slot ∷ area) = entries_by slot ++ entries_in area

abbrev pub filesets_in : Area → List (ℕ × Fileset)
filesets_in [] = []
filesets_in (slot ∷ area) = filesets_by slot ++ filesets_in area

abbrev pub counters_by : Option Record → Option Counters
counters_by None = None
counters_by (Some Free) = None
counters_by (Some (CountersRecord counters)) = Some counters
counters_by (Some (FilesetRecord id fileset)) = None
counters_by (Some (Entry fs key held)) = None

-- the counters stand in slot 0
abbrev pub counters_in : Area → Option Counters
counters_in area = counters_by (slot_at area 0)

-- what is taken where there are no counters
abbrev pub no_counters : Counters
no_counters = record { stamp = 1; id = 1; number = 1 }

abbrev pub table_of : ℕ → ℕ → Area → Table
table_of blocks records area = record {
  entries = map.from_entries (entries_in area);
  filesets = map.from_entries (filesets_in area);
  counters = unwrap_or (counters_in area) no_counters;
  blocks = blocks;
  records = records;
}

-- ---- the area that a table is written as

-- the records of a table: the checkpoints' own, and then the entries
abbrev pub records_of : Table → List Record
records_of t = list_map (λ e. FilesetRecord e.0 e.1) (map.entries t.filesets) ++ list_map (λ e. Entry e.0.0 e.0.1 e.1) (map.entries t.entries)

-- the counters, the records without a gap, and free slots up to this number
abbrev pub written_as : ℕ → Table → Area
written_as slots t = list_map (λ value. Some value) (CountersRecord t.counters ∷ records_of t) ++ replicate (slots - (1 + length (records_of t))) (Some Free)

-- ---- the first table of a volume

-- the root directory's node alone, with the first numbers
abbrev pub new_table : ℕ → ℕ → Table
new_table blocks records = record {
  entries = map.insert map.empty (0, Node 0) (Plain 0 Dir);
  filesets = map.empty;
  counters = record { stamp = 1; id = 1; number = 1 };
  blocks = blocks;
  records = records;
}

-- each slot that has a record has one within the limits
abbrev pub AreRecords : Area → Type 0
AreRecords = AllByRecursion (λ x. IfSome x IsRecord)

-- ---- the parts of an area

abbrev pub fileset_slots : List (ℕ × Fileset) → Area
fileset_slots filesets = list_map (λ value. Some value) (list_map (λ e. FilesetRecord e.0 e.1) filesets)

abbrev pub entry_slots : List ((ℕ × Key) × Held) → Area
entry_slots entries = list_map (λ value. Some value) (list_map (λ e. Entry e.0.0 e.0.1 e.1) entries)

abbrev pub free_slots : ℕ → Area
free_slots count = replicate count (Some Free)

-- how many slots are left free
abbrev pub left_free : ℕ → Table → ℕ
left_free slots t = slots - (1 + length (records_of t))
