-- What a crash leaves of a volume.
use Rattle.std.specs.Prelude.{◌≡◌, ℕ, ◌+◌, true, None}
use Rattle.ck_disk.specs.Disk.{Image, Meaning, Agrees}
use Rattle.ck_log.specs.Layout.{Layout, base_of}
use Rattle.ck_log.specs.Header.{Opens}
use Rattle.ck_log.specs.Images.{recovered_region, table_on}
use Rattle.ck_model.specs.Table.{Table}
use Rattle.ck_area.specs.Area.{AreSlots, Area, table_of}
use Rattle.ck_area.specs.Damage.{damage}
use Rattle.ck_files.specs.Allocated.{is_named}

-- the block is a data block that the table names
pub record IsNamedAt (layout : Layout) (t : Table) (at : ℕ) : Type 0 where
  pub block : ℕ
  pub place : at ≡ base_of layout.records + block
  pub named : is_named t block ≡ true

-- the image has this table: its slots break no rule
pub record HoldsTable (layout : Layout) (t : Table) (image : Image) : Type 0 where
  pub region : recovered_region image ≡ Opens layout
  pub area : Area
  pub slots : AreSlots (table_on layout image) area
  pub undamaged : damage layout.blocks layout.records area ≡ None
  pub table : table_of layout.blocks layout.records area ≡ t

-- each image has the table, and each data block that the table names as reads give it
pub record IsSafe (layout : Layout) (t : Table) (m : Meaning) : Type 0 where
  pub table : (image : Image) → m.may_leave image → HoldsTable layout t image
  pub blocks : (image : Image) → m.may_leave image → Agrees (IsNamedAt layout t) m.shows image
