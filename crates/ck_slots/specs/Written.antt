-- A table as it is written into the slots of blocks.
use Rattle.std.specs.Prelude.{◌≡◌, ◌<◌, ◌+◌, ◌*◌, ℕ, List, ◌∷◌, [], length, get_or, take, drop}
use Rattle.ck_model.specs.Table.{Table}
use Rattle.ck_log.specs.Layout.{Layout, table_blocks}
use Rattle.ck_record.specs.declared.records.Record.{Record}
use Rattle.ck_record.specs.declared.records.Record.TheVariants.{Free, Counters as CountersRecord}
use Rattle.ck_record.specs.Record.{spelling}
use Rattle.ck_area.specs.Area.{Area, Blocks, records_of, written_as}

-- the record in the slot with this number
abbrev pub record_in : Table → ℕ → Record
record_in t slot = get_or (CountersRecord t.counters ∷ records_of t) slot Free

-- the 32 slots of a block have the spellings of the table's records from that one on
abbrev pub IsSpelled : Table → ℕ → List ℕ → Type 0
IsSpelled t first block = (place : ℕ) → place < 32 → take 128 (drop (128 * place) block) ≡ spelling (record_in t (first + place))

-- so do all blocks, one behind the other
abbrev pub AreSpelled : Table → Blocks → Type 0
AreSpelled t blocks = (at : ℕ) → at < length blocks → IsSpelled t (32 * at) (get_or blocks at [])

-- the slots of a region's table
abbrev pub slots_of : Layout → Table → Area
slots_of layout t = written_as (32 * table_blocks layout.records) t
