-- Block 0 of a device, which says what volume the device has.
use Rattle.std.specs.Prelude.{ℕ, List, ◌++◌, Bool, not, ◌==◌, ◌&&◌, nat_le, bytes_eq, codes, take, replicate, if◌then◌else◌}
use Rattle.std.specs.Int.{w32, from_be_bytes, to_be_bytes}
use Rattle.ck_num.specs.Field.{field}
use Rattle.ck_log.specs.Layout.{Layout, is_sized, size_of}

-- the first eight bytes
abbrev pub magic : List ℕ
magic = codes "CKPTVOL1"

-- the header of a volume: the magic, the format, the number of data blocks, the number of records, and zeros
unfoldable pub header_of : ℕ → ℕ → List ℕ
header_of blocks records =
    magic ++ to_be_bytes w32 0 ++ to_be_bytes w32 blocks ++ to_be_bytes w32 records ++ replicate 4076 0

-- What opening finds: no volume, one of another format, or one of this layout.
pub data Recovered : Type 0 where
  NotVolume : Recovered
  BadFormat : ℕ → Recovered
  Opens : Layout → Recovered

-- the number in the four bytes from a place on
abbrev pub number_at : List ℕ → ℕ → ℕ
number_at header at = from_be_bytes w32 (field header at 4)

-- the volume of these sizes, if they are within the limits and the device is long enough
abbrev pub sized_volume : ℕ → ℕ → Bool → ℕ → Recovered
sized_volume blocks records second size =
    if is_sized blocks records && nat_le (size_of blocks records) size
    then Opens (record { blocks = blocks; records = records; second = second }) else NotVolume

-- what this header says of a device of so many blocks whose gate names that area; bytes from 20 on aren't looked at
abbrev pub recovered_by : List ℕ → Bool → ℕ → Recovered
recovered_by header second size =
    if not (bytes_eq (take 8 header) magic) then NotVolume
    else (if not (number_at header 8 == 0) then BadFormat (number_at header 8)
    else sized_volume (number_at header 12) (number_at header 16) second size)
