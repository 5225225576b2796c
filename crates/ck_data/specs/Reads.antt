-- What reads of data blocks give and do.
use Rattle.std.specs.Prelude.{◌≡◌, ⊤, ℕ, List, [], Option, slice_index, map as list_map}
use Rattle.std.specs.List.{range_with_len}
use Rattle.std.specs.Option.{option_map_or}
use Rattle.ck_disk.specs.Disk.{Meaning, Rose}
use Rattle.ck_data.specs.declared.fault.Fault.{Fault}
use Rattle.ck_data.specs.declared.fault.Fault.TheVariants.{ReadFault, WriteFault, NoMemory}
use Rattle.ck_model.specs.Values.{Store}

-- the bytes of a data block, none where none is named
abbrev pub bytes_of : Store → Option ℕ → List ℕ
bytes_of store named = option_map_or store named []

-- so many of them from a place on, with zeros behind their end
abbrev pub part_of : Store → Option ℕ → ℕ → ℕ → List ℕ
part_of store named from count = list_map (slice_index (bytes_of store named)) (range_with_len from count)

-- these bytes, with zeros behind
abbrev pub IsFilled : List ℕ → List ℕ → Type 0
IsFilled bytes block = (place : ℕ) → slice_index block place ≡ slice_index bytes place

-- a read failed, or memory was refused
abbrev pub IsReadingFault : Meaning → Meaning → Fault → Type 0
IsReadingFault old new ReadFault = Rose old.read_faults new.read_faults
IsReadingFault old new WriteFault = ⊥
IsReadingFault old new NoMemory = ⊤
