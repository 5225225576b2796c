-- What opening a table in a region of a device finds.
use Rattle.std.specs.Prelude.{◌≡◌, ◌+◌, ◌/◌, ◌%◌, ⊤, ℕ, length, None, Some, IsTrue}
use Rattle.ck_disk.specs.Disk.{Meaning, Rose}
use Rattle.ck_log.specs.Layout.{Layout, table_blocks, area_at}
use Rattle.ck_log.specs.Images.{area_of}
use Rattle.ck_model.specs.Table.{Table}
use Rattle.ck_area.specs.Area.{Area, Blocks, AreSlots, table_of}
use Rattle.ck_area.specs.Damage.{damage}
use Rattle.ck_slots.specs.declared.opened.OpenSlots.{OpenSlots}
use Rattle.ck_slots.specs.declared.opened.OpenSlots.TheVariants as open_slots

-- The slots were read from as many blocks as a table has: from those of the region's area, where the device tells.
pub record AreReadFrom (layout : Layout) (m : Meaning) (area : Area) : Type 0 where
  pub blocks : Blocks
  pub count : length blocks ≡ table_blocks layout.records
  pub slots : AreSlots blocks area
  pub told : IsTrue m.tells → blocks ≡ area_of layout m.shows

-- the region's area has this table, and no slot that breaks a rule
pub record IsOpened (layout : Layout) (m : Meaning) (t : Table) : Type 0 where
  pub area : Area
  pub slots : AreSlots (area_of layout m.shows) area
  pub undamaged : damage layout.blocks layout.records area ≡ None
  pub table : t ≡ table_of layout.blocks layout.records area

-- what these slots are refused for, if it isn't a fault
abbrev pub IsRefusal : Layout → Area → OpenSlots → Type 0
IsRefusal layout area (open_slots.Damaged block place) =
    (slot : ℕ) × (damage layout.blocks layout.records area ≡ Some slot)
    × (block ≡ area_at layout.records layout.second + slot / 32) × (place ≡ slot % 32)
IsRefusal layout area open_slots.ReadFault = ⊥
IsRefusal layout area open_slots.NoMemory = ⊤

-- a read failed, or memory was refused
abbrev pub IsReadingFault : Meaning → Meaning → OpenSlots → Type 0
IsReadingFault old new (open_slots.Damaged block place) = ⊥
IsReadingFault old new open_slots.ReadFault = Rose old.read_faults new.read_faults
IsReadingFault old new open_slots.NoMemory = ⊤

-- the slots of the region's area are refused for this
abbrev pub IsRefused : Layout → Meaning → OpenSlots → Type 0
IsRefused layout m fault = IsTrue m.tells → (area : Area) × AreSlots (area_of layout m.shows) area × IsRefusal layout area fault

-- the area isn't one that is opened, a read failed, or memory was refused
abbrev pub IsOpenFault : Layout → Meaning → Meaning → OpenSlots → Type 0
IsOpenFault layout old new (open_slots.Damaged block place) = IsRefused layout old (open_slots.Damaged block place)
IsOpenFault layout old new open_slots.ReadFault = Rose old.read_faults new.read_faults
IsOpenFault layout old new open_slots.NoMemory = ⊤
