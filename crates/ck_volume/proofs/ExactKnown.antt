-- Where it is known that an image has a world and nothing beside it, but not in which way, it has: an image has one table.
use Rattle.std.proofs.Common.{◌≡◌, ℕ, false, Option, Some, None, List, refl, sym, ap, subst, ◌∙◌}
use mathlib.Core.Logic.{∥∥₁_elim, ∥∥₁_map}
use mathlib.Core.HLevel.{Σ_prop_path}
use Rattle.std.specs.FinMap as map
use Rattle.std.proofs.Props.{props}
use Rattle.ck_disk.specs.Disk.{Image}
use Rattle.ck_log.specs.Layout.{Layout, base_of}
use Rattle.ck_log.specs.Header.{Recovered, NotVolume, BadFormat, Opens}
use Rattle.ck_log.specs.Images.{recovered_region, table_on}
use Rattle.ck_area.specs.Area.{Area, AreSlots, IsReadAs, Blocks, table_of}
use Rattle.ck_area.specs.Damage.{damage}
use Rattle.ck_area.proofs.AreaLaws.{slots_unique}
use Rattle.ck_record.specs.declared.records.Record.{Record}
use Rattle.ck_record.specs.declared.records.Record.TheVariants as record_of
use Rattle.ck_record.specs.Record.{IsRecord}
use Rattle.ck_model.specs.declared.key.Key.{Key}
use Rattle.ck_model.specs.declared.key.Key.TheVariants.{Name, Node, Block}
use Rattle.ck_model.specs.declared.held.Held.{Held}
use Rattle.ck_model.specs.declared.held.Held.TheVariants.{Absent, Plain, Extent, Mark}
use Rattle.ck_model.specs.declared.held.Small.TheVariants.{To, File, Dir}
use Rattle.ck_model.specs.declared.checkpoint.Fileset.{Fileset}
use Rattle.ck_model.specs.Held.{IsKey, BelongsTo}
use Rattle.ck_model.specs.World.{World}
use Rattle.ck_model.specs.Space.{held, records_in}
use Rattle.ck_model.specs.TableWorld.{world_on, extent_count}
use Rattle.ck_model.specs.Table.{Table, record_count}
use Rattle.ck_data.specs.Device.{store_on}
use Rattle.ck_engine.specs.Exact.{IsExact}
use Rattle.ck_volume.proofs.StoodLaws.{world-set}

IsKey-prop : (key : Key) → IsProp (IsKey key)
IsKey-prop (Name directory name) = hlevel props
IsKey-prop (Node number) = hlevel props
IsKey-prop (Block number index) = hlevel props

BelongsTo-prop : (key : Key) (held : Held) → IsProp (BelongsTo key held)
BelongsTo-prop key Absent = hlevel props
BelongsTo-prop (Name directory name) (Plain stamp (To node)) = hlevel props
BelongsTo-prop (Name directory name) (Plain stamp (File size)) = hlevel props
BelongsTo-prop (Name directory name) (Plain stamp Dir) = hlevel props
BelongsTo-prop (Name directory name) (Extent stamp block) = hlevel props
BelongsTo-prop (Name directory name) (Mark stamp) = hlevel props
BelongsTo-prop (Node number) (Plain stamp (To node)) = hlevel props
BelongsTo-prop (Node number) (Plain stamp (File size)) = hlevel props
BelongsTo-prop (Node number) (Plain stamp Dir) = hlevel props
BelongsTo-prop (Node number) (Extent stamp block) = hlevel props
BelongsTo-prop (Node number) (Mark stamp) = hlevel props
BelongsTo-prop (Block number index) (Plain stamp (To node)) = hlevel props
BelongsTo-prop (Block number index) (Plain stamp (File size)) = hlevel props
BelongsTo-prop (Block number index) (Plain stamp Dir) = hlevel props
BelongsTo-prop (Block number index) (Extent stamp block) = hlevel props
BelongsTo-prop (Block number index) (Mark stamp) = hlevel props

IsRecord-prop : (value : Record) → IsProp (IsRecord value)
IsRecord-prop record_of.Free = hlevel props
IsRecord-prop (record_of.Counters counters) = hlevel props
IsRecord-prop (record_of.Fileset id fileset) = hlevel props
IsRecord-prop (record_of.Entry fileset key held) = hlevel (IsKey-prop, BelongsTo-prop, props)

IsReadAs-prop : (bytes : List ℕ) (o : Option Record) → IsProp (IsReadAs bytes o)
IsReadAs-prop bytes None = hlevel props
IsReadAs-prop bytes (Some value) = hlevel (IsRecord-prop, props)

AreSlots-prop : (blocks : Blocks) (area : Area) → IsProp (AreSlots blocks area)
AreSlots-prop blocks area = hlevel (IsReadAs-prop, props)

-- the slots of blocks are known
the-slots : (blocks : Blocks) → ∥ ((area : Area) × AreSlots blocks area) ∥₁ → (area : Area) × AreSlots blocks area
the-slots blocks known = ∥∥₁_elim known (λ a b. Σ_prop_path (AreSlots-prop blocks) (slots_unique blocks a.0 b.0 a.1 b.1)) (λ a. a)

-- what is said of an image once its layout and its slots are known
record IsExactBy (w : World) (image : Image) (layout : Layout) (area : Area) : Type 0 where
  undamaged : damage layout.blocks layout.records area ≡ None
  world : world_on (store_on image (base_of layout.records)) map.empty (table_of layout.blocks layout.records area) ≡ w
  records : record_count (table_of layout.blocks layout.records area) ≡ records_in w
  blocks : extent_count (table_of layout.blocks layout.records area) ≡ held w
  standing : (id : ℕ) (fileset : Fileset) → map.get (table_of layout.blocks layout.records area).filesets id ≡ Some fileset → fileset.gone ≡ false

IsExactBy-prop : (w : World) (image : Image) (layout : Layout) (area : Area) → IsProp (IsExactBy w image layout area)
IsExactBy-prop w image layout area = hlevel (world-set, props)

opens_one : (a b : Layout) → Opens a ≡ Opens b → a ≡ b
opens_one a b h = cc

module _ (w : World) (image : Image) where
  layout-is : (layout : Layout) → recovered_region image ≡ Opens layout → (e : IsExact w image) → e.layout ≡ layout
  layout-is layout is e = opens_one e.layout layout (sym e.holds.region ∙ is)

  slots-by : (layout : Layout) → recovered_region image ≡ Opens layout → IsExact w image → (area : Area) × AreSlots (table_on layout image) area
  slots-by layout is e = (e.holds.area, subst (λ (l : Layout). AreSlots (table_on l image) e.holds.area) (layout-is layout is e) e.holds.slots)

  exact-by : (layout : Layout) → recovered_region image ≡ Opens layout → (area : Area) → AreSlots (table_on layout image) area → IsExact w image → IsExactBy w image layout area
  unfolding slots-by
  exact-by layout is area slots e =
      let there : e.layout ≡ layout = layout-is layout is e in
      let same : e.holds.area ≡ area = slots_unique (table_on layout image) e.holds.area area (slots-by layout is e).1 slots in
      let table : e.table ≡ table_of e.layout.blocks e.layout.records e.holds.area = sym e.holds.table in
      let by : IsExactBy w image e.layout e.holds.area = record {
        undamaged = e.holds.undamaged;
        world = ap (λ (t : Table). world_on (store_on image (base_of e.layout.records)) map.empty t) (sym table) ∙ e.world;
        records = ap (λ (t : Table). record_count t) (sym table) ∙ e.records;
        blocks = ap (λ (t : Table). extent_count t) (sym table) ∙ e.blocks;
        standing = λ id fileset has. e.standing id fileset (subst (λ (t : Table). map.get t.filesets id ≡ Some fileset) (sym table) has);
      } in
      subst (λ (a : Area). IsExactBy w image layout a) same (subst (λ (l : Layout). IsExactBy w image l e.holds.area) there by)

  from-layout : (layout : Layout) → recovered_region image ≡ Opens layout → ∥ IsExact w image ∥₁ → IsExact w image
  from-layout layout is known =
      let slots = the-slots (table_on layout image) (∥∥₁_map known (λ e. slots-by layout is e)) in
      let by = ∥∥₁_elim known (IsExactBy-prop w image layout slots.0) (λ e. exact-by layout is slots.0 slots.1 e) in
      record {
        layout = layout;
        table = table_of layout.blocks layout.records slots.0;
        holds = record { region = is; area = slots.0; slots = slots.1; undamaged = by.undamaged; table = refl };
        world = by.world;
        records = by.records;
        blocks = by.blocks;
        standing = by.standing;
      }

  -- a device whose header says otherwise has none
  no_volume : (layout : Layout) → NotVolume ≡ Opens layout → ⊥
  no_volume layout h = cc

  no_format : (version : ℕ) (layout : Layout) → BadFormat version ≡ Opens layout → ⊥
  no_format version layout h = cc

  by_region : (r : Recovered) → recovered_region image ≡ r → ∥ IsExact w image ∥₁ → IsExact w image
  by_region NotVolume is known = absurd (∥∥₁_elim known (hlevel props) (λ e. no_volume e.layout (sym is ∙ e.holds.region)))
  by_region (BadFormat version) is known = absurd (∥∥₁_elim known (hlevel props) (λ e. no_format version e.layout (sym is ∙ e.holds.region)))
  by_region (Opens layout) is known = from-layout layout is known

  pub exact-known : ∥ IsExact w image ∥₁ → IsExact w image
  exact-known known = by_region (recovered_region image) refl known
