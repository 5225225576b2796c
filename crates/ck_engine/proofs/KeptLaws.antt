-- What a crash leaves of a volume, as laws on the definitions alone.
use Rattle.std.proofs.Common.{◌≡◌, refl, sym, ap, subst, ◌∙◌}
use Rattle.std.specs.FinMap as map
use Rattle.ck_disk.specs.Disk.{Image, Meaning}
use Rattle.ck_log.specs.Header.{Recovered, NotVolume as NoVolume, BadFormat as BadHeader, Opens as OpensAt}
use Rattle.ck_log.specs.Images.{recovered_region, table_on}
use Rattle.ck_area.proofs.AreaLaws.{slots_unique}
use Rattle.ck_log.specs.Layout.{Layout, base_of}
use Rattle.ck_alloc.specs.Blocks.{Allocation}
use Rattle.ck_model.specs.World.{World}
use Rattle.ck_model.specs.Space.{held, records_in}
use Rattle.ck_model.specs.Table.{Table}
use Rattle.ck_engine.specs.Committed.{IsCommitted}
use Rattle.ck_data.specs.Device.{store_on}
use Rattle.ck_engine.specs.Exact.{IsExact}
use Rattle.ck_engine.specs.Recovery.{Recovery, Opens, Finds, FindsBy, recovery_of, Recovers}
use Rattle.ck_engine.specs.declared.engine.Engine.{Engine}
use Rattle.ck_engine.specs.Engine.{layout_of, blocks_of, KeepsWorld}
use Rattle.ck_files.proofs.WorldLaws.{world_same}
use Rattle.ck_nodata.proofs.HeldLaws.{held-is, records-is}
use Rattle.ck_files.specs.Drained.{IsDrained}
use Rattle.ck_engine.proofs.SafeLemmas.{named_same, holds-recovers}
use Rattle.ck_engine.proofs.CommittedLemmas.{keeps-recovers}

-- each image of a device on which a table is committed has its world, and nothing beside it where nothing is left to remove or to strip
pub committed-exact : (layout : Layout) (blocks : Allocation) (m : Meaning) (t : Table) (w : World) → IsCommitted layout blocks m t w → IsDrained t → (image : Image) → m.may_leave image → IsExact w image
committed-exact layout blocks m t w c drained image left =
    let base = base_of layout.records in
    record {
      layout = layout;
      table = t;
      holds = c.safe.table image left;
      world = world_same t map.empty (store_on image base) (store_on m.shows base) (named_same layout t m.shows image (c.safe.blocks image left)) ∙ c.world;
      records = sym (records-is (store_on m.shows base) map.empty t c.ours.lawful c.ours.sound drained.none) ∙ ap records_in c.world;
      blocks = sym (held-is (store_on m.shows base) map.empty t c.ours.lawful c.ours.sound drained.none drained.stripped) ∙ ap held c.world;
      standing = drained.none;
    }

-- a crash leaves the world that is kept
pub kept-recovers : {D : Type 0} (m : Meaning) (volume : Engine D) (w : World) → KeepsWorld m volume w → (image : Image) → m.may_leave image → Recovers image w
kept-recovers m volume w keeps image left = keeps-recovers (layout_of volume) (blocks_of volume) m w keeps image left

-- an image that has a world and nothing beside it opens to it
pub exact-recovers : (w : World) (image : Image) → IsExact w image → Recovers image w
exact-recovers w image exact =
    subst (Recovers image) exact.world (holds-recovers exact.layout exact.table image image exact.holds (record { size = refl; at = λ k at. refl }))

-- ---- an image recovers to one thing

finds-one : (image : Image) (a b : Recovery) → Finds image a → Finds image b → a ≡ b
finds-one image a b = by (recovered_region image)
  where
    by : (r : Recovered) → FindsBy r image a → FindsBy r image b → a ≡ b
    by NoVolume is other = is ∙ sym other
    by (BadHeader version) is other = is ∙ sym other
    by (OpensAt layout) is other = is.2 ∙ ap (recovery_of layout image) (slots_unique (table_on layout image) is.0 other.0 is.1 other.1) ∙ sym other.2

-- so its world is one
pub recovers-one : (image : Image) (a b : World) → Recovers image a → Recovers image b → a ≡ b
recovers-one image a b is other = one a b (finds-one image (Opens a) (Opens b) is other)
  where
    one : (a b : World) → Opens a ≡ Opens b → a ≡ b
    one a b h = cc
