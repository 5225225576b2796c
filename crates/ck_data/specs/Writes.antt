-- What writing into a block puts there, and how it fails.
use Rattle.std.specs.Prelude.{◌≡◌, ◌≢◌, ⊤, ℕ, ◌+◌, ◌-◌, ◌&&◌, List, length, if◌then◌else◌, map as list_map, nat_le, nat_lt, slice_index}
use Rattle.std.specs.List.{range_with_len}
use Rattle.ck_disk.specs.Disk.{Meaning, Rose}
use Rattle.ck_data.specs.declared.fault.Fault.{Fault}
use Rattle.ck_data.specs.declared.fault.Fault.TheVariants.{ReadFault, WriteFault, NoMemory}
use Rattle.ck_model.specs.Values.{Store}

-- a block with these bytes at a place
abbrev pub patched : List ℕ → ℕ → List ℕ → List ℕ
patched old at bytes =
    list_map (λ place. if nat_le at place && nat_lt place (at + length bytes) then slice_index bytes (place - at) else slice_index old place) (range_with_len 0 4096)

-- but for this data block they hold the same
abbrev pub AgreeBut : ℕ → Store → Store → Type 0
AgreeBut block old new = (other : ℕ) → other ≢ block → new other ≡ old other

-- a read or a write failed, or memory was refused
abbrev pub IsWritingFault : Meaning → Meaning → Fault → Type 0
IsWritingFault old new ReadFault = Rose old.read_faults new.read_faults
IsWritingFault old new WriteFault = Rose old.write_faults new.write_faults
IsWritingFault old new NoMemory = ⊤
