-- A volume as it is made.
use Rattle.std.proofs.Common.{◌≡◌, ℕ, ◌&&◌, ◌||◌, ◌≤◌, false, not, is_some, IsTrue, Option, Some, refl, sym, ap, subst, ◌∙◌}
use mathlib.Core.Bool.{false≢true}
use Rattle.std.specs.Option.{option_map_or}
use Rattle.std.specs.Ordering.{nat_cmp}
use Rattle.std.specs.FinMap as map
use Rattle.std.specs.FinSet as set
use Rattle.ck_disk.specs.Disk.{Image, Meaning, Lawful, IsSynced}
use Rattle.ck_log.specs.Layout.{Layout, table_blocks, base_of, size_of}
use Rattle.ck_log.specs.Header.{Opens as OpensAt}
use Rattle.ck_log.specs.FirstTable.{first_table, new_layout}
use Rattle.ck_log.specs.Images.{recovered_region, table_on, Settled}
use Rattle.ck_model.specs.declared.checkpoint.Fileset.{Fileset}
use Rattle.ck_model.specs.TableWorld.{world_on}
use Rattle.ck_model.specs.Chain.{keeps_data}
use Rattle.ck_model.specs.Table.{Table, column}
use Rattle.ck_area.specs.Area.{AreSlots, new_table}
use Rattle.ck_slots.specs.Formatted.{StandsForEmpty}
use Rattle.ck_slots.specs.Written.{slots_of}
use Rattle.ck_nodata.specs.StripItem.{is_extent}
use Rattle.ck_nodata.proofs.HeldLaws.{zero_where_none}
use Rattle.ck_nodata.proofs.PlaceLaws.{stripped_to_first}
use Rattle.ck_files.specs.Allocated.{IsAllocated}
use Rattle.ck_files.specs.Drained.{IsDrained}
use Rattle.ck_data.specs.Device.{store_on}
use Rattle.ck_engine.specs.Committed.{IsCommitted}
use Rattle.ck_engine.specs.Formatted.{new_world, IsFormatted}
use Rattle.ck_files.specs.Files.{IsOurs}
use Rattle.ck_engine.specs.Safe.{HoldsTable}
use Rattle.ck_engine.specs.declared.engine.Engine.{Engine}
use Rattle.ck_engine.specs.Engine.{table_of, mounts_of, blocks_of, layout_of}
use Rattle.ck_disk.specs.Runs.{Runs}
use Rattle.ck_engine.proofs.SafeLemmas.{written-undamaged, written-table}
use Rattle.ck_engine.proofs.OpenLemmas.{synced-safe}
use Rattle.ck_engine.proofs.KeptLaws.{committed-exact}

-- a new table has no checkpoint
none_stands : (blocks records : ℕ) (t : Table) → t ≡ new_table blocks records → (id : ℕ) (fileset : Fileset) → map.get t.filesets id ≡ Some fileset → ⊥
none_stands blocks records t is id fileset has =
    false≢true (ap is_some (sym (map.get-empty nat_cmp id) ∙ ap (λ (x : Table). map.get x.filesets id) (sym is) ∙ has))

-- so nothing is left to remove or to strip
new_drained : (blocks records : ℕ) (t : Table) → t ≡ new_table blocks records → IsDrained t
new_drained blocks records t is = record {
  none = λ id fileset has. absurd (none_stands blocks records t is id fileset has);
  stripped = zero_where_none t (λ fs key.
      let none = ap (λ (x : Table). map.get x.filesets fs) is ∙ map.get-empty nat_cmp fs in
      ap (λ (o : Option Fileset). (option_map_or (λ (f : Fileset). not f.gone) o false && not (keeps_data t fs)) && is_extent (column t key fs)) none);
}

module _ {D : Type 0} (blocks records : ℕ) (old new : Meaning) (volume : Engine D) (new_law : Lawful new) (runs : Runs old new)
    (layout : layout_of volume ≡ new_layout blocks records) (new_is : table_of volume ≡ new_table (layout_of volume).blocks (layout_of volume).records) (ours : IsOurs (table_of volume)) (allocated : IsAllocated (table_of volume) (blocks_of volume))
    (stands : StandsForEmpty (table_of volume)) (written : AreSlots (first_table (table_blocks (layout_of volume).records)) (slots_of (layout_of volume) (table_of volume)))
    (size : size_of blocks records ≤ old.size) (found : IsTrue old.tells → recovered_region new.shows ≡ OpensAt (layout_of volume))
    (first : IsTrue old.tells → table_on (layout_of volume) new.shows ≡ first_table (table_blocks records)) (settled : Settled (layout_of volume) new) (synced : IsSynced new)
    (mounts : mounts_of volume ≡ map.empty) (first_place : volume.stripped.id ≡ 0) where
  abbrev place : Layout
  place = layout_of volume

  abbrev t : Table
  t = table_of volume

  blocks_are : t.blocks ≡ place.blocks
  blocks_are = ap (λ (x : Table). x.blocks) new_is

  records_are : t.records ≡ place.records
  records_are = ap (λ (x : Table). x.records) new_is

  holds : IsTrue old.tells → HoldsTable place t new.shows
  holds told = record {
    region = found told;
    area = slots_of place t;
    slots = subst (λ (image : Image). AreSlots image (slots_of place t)) (sym (first told ∙ ap (λ (l : Layout). first_table (table_blocks l.records)) (sym layout))) written;
    undamaged = written-undamaged place t ours blocks_are records_are;
    table = written-table place t ours blocks_are records_are;
  }

  empty-is : world_on (store_on new.shows (base_of place.records)) map.empty t ≡ new_world blocks records
  empty-is =
      stands (store_on new.shows (base_of place.records))
      ∙ (λ i. new_world (blocks_are i) (records_are i))
      ∙ ap (λ (l : Layout). new_world l.blocks l.records) layout

  committed : IsTrue old.tells → IsCommitted place (blocks_of volume) new t (new_world blocks records)
  committed told =
      let new_told : IsTrue new.tells = subst IsTrue (sym runs.tells) told in
      record {
        ours = ours;
        limit = blocks_are;
        records = records_are;
        busy = λ block named. ap (λ b. b || set.contains (blocks_of volume).pending block) (allocated.used block ∙ ap (λ b. b || false) named);
        safe = synced-safe place t new new_law new_told synced (holds told);
        world = empty-is;
      }

  pub volume-formatted : IsFormatted blocks records old new volume
  volume-formatted = record {
    begun = record {
      whole = record {
        files = record { ours = ours; allocated = allocated; limit = refl; records = refl };
        blocks = sym blocks_are;
        records = sym records_are;
        size = subst (λ n. size_of place.blocks place.records ≤ n) (sym runs.size) (subst (λ (l : Layout). size_of l.blocks l.records ≤ old.size) (sym layout) size);
        settled = settled;
        stripped = stripped_to_first t volume.stripped ours.lawful first_place;
      };
      mounts_are = mounts;
    };
    long = size;
    runs = runs;
    world = ap (λ mounts. world_on (store_on new.shows (base_of place.records)) mounts t) mounts ∙ empty-is;
    kept = λ told. record { table = t; committed = committed told };
    exact = λ told image left. committed-exact place (blocks_of volume) new t (new_world blocks records) (committed told) (new_drained place.blocks place.records t new_is) image left;
  }
