-- Maps from keys to what is held there, and the cells that they stand for over the data blocks of a device.
use Rattle.std.specs.Prelude.{ℕ, List, [], Some, None, map as list_map}
use Rattle.std.specs.FinMap as map
use Rattle.ck_model.specs.declared.key.Key.{Key}
use Rattle.ck_model.specs.declared.cell.Cell.{Cell}
use Rattle.ck_model.specs.declared.cell.Payload.{Payload}
use Rattle.ck_model.specs.declared.cell.Payload.TheVariants as payload
use Rattle.ck_model.specs.declared.held.Held.{Held}
use Rattle.ck_model.specs.declared.held.Held.TheVariants.{Absent, Plain, Extent, Mark}
use Rattle.ck_model.specs.declared.held.Small.{Small}
use Rattle.ck_model.specs.declared.held.Small.TheVariants as small
use Rattle.ck_model.specs.Key.{key_cmp}
use Rattle.ck_model.specs.Cells.{Cells}

-- what the data blocks of a device hold, by their numbers
abbrev pub Store : Type 0
Store = ℕ → List ℕ

-- one without a byte, for what looks at no block's bytes
abbrev pub no_store : Store
no_store = λ block. []

-- no absent stands in such a map
abbrev pub Values : Type 0
Values = map.FinMap key_cmp Held

abbrev pub payload_of : Small → Payload
payload_of (small.To node) = payload.To node
payload_of (small.File size) = payload.File size
payload_of small.Dir = payload.Dir

-- the cell that a value stands for
abbrev pub cell_on : Store → Held → Cell
cell_on store Absent = record { stamp = 0; payload = None }
cell_on store (Plain stamp value) = record { stamp = stamp; payload = Some (payload_of value) }
cell_on store (Extent stamp block) = record { stamp = stamp; payload = Some (payload.Bytes (store block)) }
cell_on store (Mark stamp) = record { stamp = stamp; payload = None }

-- these values over these data blocks
abbrev pub cells_of : Store → List (Key × Held) → List (Key × Cell)
cells_of store values = list_map (λ e. (e.0, cell_on store e.1)) values

abbrev pub cells_on : Store → Values → Cells
cells_on store values = map.from_entries (cells_of store (map.entries values))
