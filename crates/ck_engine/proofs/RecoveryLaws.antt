-- The table of the world that an image opens to.
use Rattle.std.proofs.Common.{◌≡◌, ℕ, Option, Some, None, refl}
use Rattle.ck_disk.specs.Disk.{Image}
use Rattle.ck_log.specs.Layout.{Layout}
use Rattle.ck_log.specs.Header.{Recovered, NotVolume as NoVolume, BadFormat as BadHeader, Opens as OpensAt}
use Rattle.ck_log.specs.Images.{recovered_region, table_on}
use Rattle.ck_area.specs.Area.{Area, AreSlots, table_of}
use Rattle.ck_area.specs.Damage.{damage}
use Rattle.ck_area.proofs.TableLaws.{records_of_slots, table_within, undamaged_sound}
use Rattle.ck_model.specs.World.{World}
use Rattle.ck_engine.specs.Recovery.{Opens, world_in, unless_damaged, FindsBy, Recovers, HasTable}

module _ (image : Image) (w : World) where
  -- slots without damage
  by_damage : (layout : Layout) (area : Area) → recovered_region image ≡ OpensAt layout → AreSlots (table_on layout image) area
      → (o : Option ℕ) → damage layout.blocks layout.records area ≡ o → Opens w ≡ unless_damaged layout image area o → HasTable image w
  by_damage layout area region slots (Some slot) is found = cc
  by_damage layout area region slots None is found =
      let same : world_in layout image area ≡ w = cc in
      record {
        layout = layout;
        table = table_of layout.blocks layout.records area;
        region = region;
        is_table = table_within layout.blocks layout.records area (records_of_slots (table_on layout image) area slots);
        orderly = (undamaged_sound layout.blocks layout.records area is).orderly;
        blocks = refl;
        world = same;
      }

  by_header : (said : Recovered) → recovered_region image ≡ said → FindsBy said image (Opens w) → HasTable image w
  by_header NoVolume region found = cc
  by_header (BadHeader version) region found = cc
  by_header (OpensAt layout) region found = by_damage layout found.0 region found.1 (damage layout.blocks layout.records found.0) refl found.2

  -- what an image recovers to is the world of a table that obeys the rules
  pub recovered_table : Recovers image w → HasTable image w
  recovered_table found = by_header (recovered_region image) refl found
