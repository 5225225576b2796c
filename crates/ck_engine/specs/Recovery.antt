-- What opening finds on a device.
use Rattle.std.specs.Prelude.{◌≡◌, ℕ, ◌+◌, ◌/◌, ◌%◌, Option, Some, None}
use Rattle.std.specs.FinMap as map
use Rattle.ck_disk.specs.Disk.{Image}
use Rattle.ck_log.specs.Layout.{Layout, area_at, base_of}
use Rattle.ck_log.specs.Header.{Recovered, NotVolume as NoVolume, BadFormat as BadHeader, Opens as OpensAt}
use Rattle.ck_log.specs.Images.{recovered_region, table_on}
use Rattle.ck_model.specs.Rules.{IsOrderly}
use Rattle.ck_model.specs.Table.{Table, IsTable}
use Rattle.ck_model.specs.World.{World}
use Rattle.ck_model.specs.TableWorld.{world_on}
use Rattle.ck_area.specs.Area.{Area, AreSlots, table_of}
use Rattle.ck_area.specs.Damage.{damage}
use Rattle.ck_data.specs.Device.{store_on}

-- No volume, one of another format, one with a slot that breaks a rule, or a world without mounts.
pub data Recovery : Type 0 where
  NotVolume : Recovery
  BadFormat : ℕ → Recovery
  Damaged : ℕ → ℕ → Recovery
  Opens : World → Recovery

-- the world of the table in these slots, whose data blocks stand on this image
abbrev pub world_in : Layout → Image → Area → World
world_in layout image area = world_on (store_on image (base_of layout.records)) map.empty (table_of layout.blocks layout.records area)

-- the device's block and the place in it of the slot that is damaged, or the world
abbrev pub unless_damaged : Layout → Image → Area → Option ℕ → Recovery
unless_damaged layout image area None = Opens (world_in layout image area)
unless_damaged layout image area (Some slot) = Damaged (area_at layout.records layout.second + slot / 32) (slot % 32)

-- what these slots say
abbrev pub recovery_of : Layout → Image → Area → Recovery
recovery_of layout image area = unless_damaged layout image area (damage layout.blocks layout.records area)

-- what opening finds where the header says this
abbrev pub FindsBy : Recovered → Image → Recovery → Type 0
FindsBy NoVolume image found = found ≡ NotVolume
FindsBy (BadHeader version) image found = found ≡ BadFormat version
FindsBy (OpensAt layout) image found = (area : Area) × AreSlots (table_on layout image) area × (found ≡ recovery_of layout image area)

-- what opening finds on this image
abbrev pub Finds : Image → Recovery → Type 0
Finds image found = FindsBy (recovered_region image) image found

-- the image opens to this world
abbrev pub Recovers : Image → World → Type 0
Recovers image w = Finds image (Opens w)

-- the header names a layout, and its table obeys the rules and stands for this world, without mounts
pub record HasTable (image : Image) (w : World) : Type 0 where
  pub layout : Layout
  pub table : Table
  pub region : recovered_region image ≡ OpensAt layout
  pub is_table : IsTable table
  pub orderly : IsOrderly table
  pub blocks : table.blocks ≡ layout.blocks
  pub world : world_on (store_on image (base_of layout.records)) map.empty table ≡ w
