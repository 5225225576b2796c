-- Where the blocks of a volume stand on its device: the header, the gate, two areas for its table, and its data blocks.
use Rattle.std.specs.Prelude.{ℕ, ◌≢◌, ◌+◌, ◌*◌, ◌/◌, ◌≤◌, Bool, ◌&&◌, nat_le, if◌then◌else◌, refl}
use Rattle.std.specs.Coded.{Coded, code_by, coded×, coded_ℕ, coded_bool}
use Rattle.ck_disk.specs.Disk.{Outside}

-- A volume on a device: how many data blocks and records it has, and whether its table stands in the second area.
pub record Layout : Type 0 where
  pub blocks : ℕ
  pub records : ℕ
  pub second : Bool

-- a layout is stored as its three parts
abbrev pub layout_code : Coded Layout
layout_code =
    code_by (ℕ × (ℕ × Bool)) (coded× coded_ℕ (coded× coded_ℕ coded_bool))
    (λ l. (l.blocks, (l.records, l.second))) (λ p. record { blocks = p.0; records = p.1.0; second = p.1.1 }) (λ _. refl)

-- how many data blocks and records a volume may have
pub record IsSized (blocks records : ℕ) : Type 0 where
  pub some_blocks : 1 ≤ blocks
  pub few_blocks : blocks ≤ 65536
  pub some_records : 32 ≤ records
  pub few_records : records ≤ 262144

-- the same as a test
abbrev pub is_sized : ℕ → ℕ → Bool
is_sized blocks records = nat_le 1 blocks && nat_le blocks 65536 && (nat_le 32 records && nat_le records 262144)

-- the blocks of a table: 32 records in each, and one record more than the volume has
abbrev pub table_blocks : ℕ → ℕ
table_blocks records = (records + 32) / 32

-- The first block of the first area. It stands behind the header, the gate, and as many unused blocks as hold one number
-- more than a table has blocks, with 1,024 numbers in each.
unfoldable pub first_area : ℕ → ℕ
first_area records = 2 + (table_blocks records + 1024) / 1024

-- the first block of an area
abbrev pub area_at : ℕ → Bool → ℕ
area_at records second = if second then first_area records + table_blocks records else first_area records

-- the first data block, behind both areas
abbrev pub base_of : ℕ → ℕ
base_of records = first_area records + 2 * table_blocks records

-- Neither the gate nor a block of the two areas: no commit writes it.
pub record OutsideGateAndAreas (records place : ℕ) : Type 0 where
  pub gate : place ≢ 1
  pub areas : Outside (first_area records) (2 * table_blocks records) place

-- how many blocks the volume takes of its device
abbrev pub size_of : ℕ → ℕ → ℕ
size_of blocks records = base_of records + blocks
