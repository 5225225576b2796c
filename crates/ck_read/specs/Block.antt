-- The data blocks of a device, and what reads of them give.
use Rattle.std.specs.Prelude.{◌≡◌, ℕ, ◌+◌, List, [], Option, get_or, slice_index, map as list_map}
use Rattle.std.specs.List.{range_with_len}
use Rattle.std.specs.Option.{option_map_or}
use Rattle.ck_disk.specs.Disk.{Image}
use Rattle.ck_model.specs.Cells.{Cells}
use Rattle.ck_model.specs.Table.{Table}
use Rattle.ck_model.specs.TableWorld.{values_of}
use Rattle.ck_model.specs.Values.{Store, cells_on}

-- what the data blocks hold where this one is the first of them
abbrev pub store_on : Image → ℕ → Store
store_on shows base = λ block. get_or shows (base + block) []

-- the map of a checkpoint over these data blocks
abbrev pub map_on : Store → Table → ℕ → Cells
map_on store t ckpt = cells_on store (values_of t ckpt)

-- the bytes of a data block, none where none is named
abbrev pub bytes_of : Store → Option ℕ → List ℕ
bytes_of store named = option_map_or store named []

-- so many of them from a place on, with zeros behind their end
abbrev pub part_of : Store → Option ℕ → ℕ → ℕ → List ℕ
part_of store named from count = list_map (slice_index (bytes_of store named)) (range_with_len from count)

-- these bytes, with zeros behind
abbrev pub IsFilled : List ℕ → List ℕ → Type 0
IsFilled bytes block = (place : ℕ) → slice_index block place ≡ slice_index bytes place
