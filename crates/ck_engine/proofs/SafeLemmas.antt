-- A safe table: every image that a crash may leave opens to the world that it stands for.
use Rattle.std.proofs.Common.{◌≡◌, ◌⊎◌, inl, inr, ⊎_elim, ℕ, ◌+◌, ◌*◌, ◌≤◌, Bool, true, false, None, IsTrue, List, [], set, get_or, refl, sym, ap, subst, ◌∙◌, arith}
use Rattle.std.specs.FinMap as map
use Rattle.ck_disk.specs.Disk.{Image, Meaning, Agrees, Lawful, LeavesOnly, IsSynced}
use Rattle.ck_log.specs.Layout.{Layout, OutsideGateAndAreas, table_blocks, base_of}
use Rattle.ck_log.specs.Header.{Opens as OpensAt}
use Rattle.ck_log.specs.Images.{recovered_region, table_on, names_second, HasBefore, HasAfter, Settled, CommitLeaves}
use Rattle.ck_log.proofs.AreaLaws.{area_low, area_high, outside_both}
use Rattle.ck_log.proofs.RecoveryLaws.{recovered_region-set, table_on-set, recovered_region-gate, recovered_region-settled}
use Rattle.ck_alloc.specs.Blocks.{Allocation, IsFree}
use Rattle.ck_model.specs.Table.{Table}
use Rattle.ck_model.specs.TableWorld.{world_on}
use Rattle.ck_area.specs.Area.{Area, AreSlots, table_of, written_as}
use Rattle.ck_area.specs.Damage.{damage}
use Rattle.ck_area.proofs.WrittenLaws.{read_again, undamaged_written}
use Rattle.ck_files.specs.Allocated.{is_named, is_busy, SameNamed}
use Rattle.ck_data.specs.Device.{store_on}
use Rattle.ck_files.specs.Files.{IsOurs}
use Rattle.ck_disk.specs.Runs.{OnlyReads}
use Rattle.ck_engine.specs.Recovery.{Opens, world_in, unless_damaged, recovery_of, FindsBy, Recovers}
use Rattle.ck_engine.specs.Safe.{IsNamedAt, HoldsTable, IsSafe}
use Rattle.ck_data.specs.Stored.{StoredOrSame, LeavesTorn, OnlyStores}
use Rattle.ck_data.proofs.StoredLaws.{stored-keeps, kept_there, kept_size}
use Rattle.ck_files.proofs.WorldLaws.{world_same}

-- the data blocks stand behind the header and the gate
base_high : (records : ℕ) → 2 ≤ base_of records
base_high records = omega (arith, area_low records false, area_high records false)

-- the slots that a table is written in
abbrev pub slots_for : Layout → Table → Area
slots_for layout t = written_as (32 * table_blocks layout.records) t

-- the data blocks that the table names are the same on an image that agrees there
pub named_same : (layout : Layout) (t : Table) (shows image : Image) → Agrees (IsNamedAt layout t) shows image → SameNamed t (store_on image (base_of layout.records)) (store_on shows (base_of layout.records))
named_same layout t shows image agrees block named = sym (agrees.at (base_of layout.records + block) (record { block = block; place = refl; named = named }))

-- a table as it is written
module _ (layout : Layout) (t : Table) (ours : IsOurs t) (blocks : t.blocks ≡ layout.blocks) (records : t.records ≡ layout.records) where
  pub written-undamaged : damage layout.blocks layout.records (slots_for layout t) ≡ None
  written-undamaged = (λ i. damage (sym blocks i) (sym records i) (slots_for layout t)) ∙ undamaged_written (32 * table_blocks layout.records) t ours.lawful ours.sound ours.sized

  pub written-table : table_of layout.blocks layout.records (slots_for layout t) ≡ t
  written-table = (λ i. table_of (sym blocks i) (sym records i) (slots_for layout t)) ∙ read_again (32 * table_blocks layout.records) t

-- an image that has the table, and its data blocks as they are shown, opens to its world
pub holds-recovers : (layout : Layout) (t : Table) (shows image : Image) → HoldsTable layout t image → Agrees (IsNamedAt layout t) shows image
    → Recovers image (world_on (store_on shows (base_of layout.records)) map.empty t)
holds-recovers layout t shows image holds agrees =
    let area = holds.area in
    let base = base_of layout.records in
    let w = world_on (store_on shows base) map.empty t in
    let world : world_in layout image area ≡ w =
    ap (world_on (store_on image base) map.empty) holds.table
    ∙ world_same t map.empty (store_on image base) (store_on shows base) (named_same layout t shows image agrees) in
    let is : recovery_of layout image area ≡ Opens w =
    ap (unless_damaged layout image area) holds.undamaged
    ∙ ap Opens world in
    subst (λ found. FindsBy found image (Opens w)) (sym holds.region) (area, holds.slots, sym is)

-- each image of a device with a safe table
pub safe-recovers : (layout : Layout) (t : Table) (m : Meaning) → IsSafe layout t m
    → (image : Image) → m.may_leave image → Recovers image (world_on (store_on m.shows (base_of layout.records)) map.empty t)
safe-recovers layout t m safe image left = holds-recovers layout t m.shows image (safe.table image left) (safe.blocks image left)

-- ---- calls that store data blocks in free places, or read

-- the table stays
pub kept_table : (layout : Layout) (t : Table) (blocks : Allocation) (d c : Image) → StoredOrSame (base_of layout.records) blocks d c → HoldsTable layout t d → HoldsTable layout t c
kept_table layout t blocks d c stored = stored-keeps (base_of layout.records) blocks (HoldsTable layout t) kept_one d c stored
  where
    kept_one : (x : Image) (block : ℕ) (bytes : List ℕ) → IsFree blocks block → HoldsTable layout t x → HoldsTable layout t (set x (base_of layout.records + block) bytes)
    kept_one x block bytes free holds =
        let at = base_of layout.records + block in
        let high : 2 ≤ at = omega (arith, base_high layout.records) in
        let low : base_of layout.records ≤ at = omega arith in
        record {
          region = recovered_region-set x at bytes high ∙ holds.region;
          area = holds.area;
          slots = subst (λ blocks. AreSlots blocks holds.area) (sym (table_on-set layout x at bytes low)) holds.slots;
          undamaged = holds.undamaged;
          table = holds.table;
        }

-- a store in a free place keeps it safe
pub stores-safe : (layout : Layout) (t : Table) (blocks : Allocation) (old new : Meaning) → IsTrue old.tells → ((block : ℕ) → is_named t block ≡ true → is_busy blocks block ≡ true)
    → OnlyStores (base_of layout.records) blocks old new → IsSafe layout t old → IsSafe layout t new
stores-safe layout t blocks old new told busy stores safe = record {
  table = λ image left. let from = stores.crash image left in kept_table layout t blocks from.0 image from.2 (safe.table from.0 from.1);
  blocks = λ image left.
      let from = stores.crash image left in
      let was = safe.blocks from.0 from.1 in
      let base = base_of layout.records in
      record {
        size = kept_size base blocks from.0 image from.2 ∙ was.size ∙ sym (kept_size base blocks old.shows new.shows (stores.shows told));
        at = λ k at.
            let same = kept_there base blocks from.0 image at.block from.2 (busy at.block at.named) ∙ sym (ap (λ (k : ℕ). get_or from.0 k []) at.place) ∙ was.at k at ∙ ap (λ (k : ℕ). get_or old.shows k []) at.place
            ∙ sym (kept_there base blocks old.shows new.shows at.block (stores.shows told) (busy at.block at.named)) in
            ap (λ (k : ℕ). get_or image k []) at.place ∙ same ∙ sym (ap (λ (k : ℕ). get_or new.shows k []) at.place);
      };
}

-- and at every moment of it
pub torn-recovers : (layout : Layout) (t : Table) (blocks : Allocation) (m : Meaning) → ((block : ℕ) → is_named t block ≡ true → is_busy blocks block ≡ true) → IsSafe layout t m
    → (image : Image) → LeavesTorn (base_of layout.records) blocks m image → Recovers image (world_on (store_on m.shows (base_of layout.records)) map.empty t)
torn-recovers layout t blocks m busy safe image from =
    let base = base_of layout.records in
    let was = safe.blocks from.0 from.1 in
    holds-recovers layout t m.shows image (kept_table layout t blocks from.0 image from.2 (safe.table from.0 from.1)) (record {
      size = kept_size base blocks from.0 image from.2 ∙ was.size;
      at = λ k at.
          ap (λ (k : ℕ). get_or image k []) at.place
          ∙ kept_there base blocks from.0 image at.block from.2 (busy at.block at.named)
          ∙ sym (ap (λ (k : ℕ). get_or from.0 k []) at.place)
          ∙ was.at k at;
    })

-- so do reads
pub reads-safe : (layout : Layout) (t : Table) (old new : Meaning) → OnlyReads old new → IsSafe layout t old → IsSafe layout t new
reads-safe layout t old new reads safe = record {
  table = λ image left. safe.table image (reads.crash image left);
  blocks = λ image left. subst (λ shows. Agrees (IsNamedAt layout t) shows image) (sym reads.shows) (safe.blocks image (reads.crash image left));
}

-- ---- a commit

-- data blocks stand outside the gate and the areas
named_outside : (layout : Layout) (t : Table) (k : ℕ) → IsNamedAt layout t k → OutsideGateAndAreas layout.records k
named_outside layout t k at = outside_both layout.records k (inr (omega (arith, at.place, base_high layout.records)))

agrees_named : (layout : Layout) (t : Table) (d c : Image) → Agrees (OutsideGateAndAreas layout.records) d c → Agrees (IsNamedAt layout t) d c
agrees_named layout t d c same = record { size = same.size; at = λ k at. same.at k (named_outside layout t k at) }

-- the image as it holds a table in the area that its own gate names
abbrev gated : Layout → Image → Layout
gated layout image = record layout { second = names_second image }

-- while a table is committed over a safe one, an image opens to the world of the one or the other
pub commit-recovers : (layout : Layout) (safe_table t : Table) (after : Image) (old : Meaning) → Lawful old → IsTrue old.tells
    → IsOurs t → t.blocks ≡ layout.blocks → t.records ≡ layout.records
    → IsSafe layout safe_table old → AreSlots after (slots_for layout t) → (image : Image) → CommitLeaves layout after old image
    → Recovers image (world_on (store_on old.shows (base_of layout.records)) map.empty safe_table) ⊎ Recovers image (world_on (store_on old.shows (base_of layout.records)) map.empty t)
commit-recovers layout safe_table t after old law told ours blocks records safe slots image leaves =
    let K = OutsideGateAndAreas layout.records in
    let header : K 0 = outside_both layout.records 0 (inl (omega arith)) in
    let shown = law.shown told in
    let there = safe.table old.shows shown in
    ⊎_elim
    (λ (has : HasBefore layout (table_on layout old.shows) old.may_leave image).
    let d = has.others.0 in
    let holds : HoldsTable (gated layout image) safe_table image = record {
      region = recovered_region-gate layout K d image header has.others.2 (safe.table d has.others.1).region;
      area = there.area;
      slots = subst (λ blocks. AreSlots blocks there.area) (sym has.table) there.slots;
      undamaged = there.undamaged;
      table = there.table;
    } in
    let was = safe.blocks d has.others.1 in
    let same = agrees_named layout safe_table d image has.others.2 in
    let agrees : Agrees (IsNamedAt layout safe_table) old.shows image = record { size = same.size ∙ was.size; at = λ k at. same.at k at ∙ was.at k at } in
    inl (holds-recovers (gated layout image) safe_table old.shows image holds (agrees_gated layout safe_table old.shows image (names_second image) agrees)))
    (λ (has : HasAfter layout after old.shows image).
    let holds : HoldsTable (gated layout image) t image = record {
      region = recovered_region-gate layout K old.shows image header has.others there.region;
      area = slots_for layout t;
      slots = subst (λ blocks. AreSlots blocks (slots_for layout t)) (sym has.table) slots;
      undamaged = written-undamaged layout t ours blocks records;
      table = written-table layout t ours blocks records;
    } in
    inr (holds-recovers (gated layout image) t old.shows image holds (agrees_gated layout t old.shows image (names_second image) (agrees_named layout t old.shows image has.others))))
    (leaves told)
  where
    agrees_gated : (layout : Layout) (t : Table) (d c : Image) (second : Bool) → Agrees (IsNamedAt layout t) d c → Agrees (IsNamedAt (record layout { second = second }) t) d c
    agrees_gated layout t d c second same = record { size = same.size; at = λ k at. same.at k (record { block = at.block; place = at.place; named = at.named }) }

-- once it is committed, it is the safe one
pub commit-safe : (layout : Layout) (second : Bool) (safe_table t : Table) (after : Image) (old new : Meaning) → Lawful old → Lawful new → IsTrue old.tells → IsTrue new.tells
    → IsOurs t → t.blocks ≡ layout.blocks → t.records ≡ layout.records → IsSafe layout safe_table old → AreSlots after (slots_for layout t) → LeavesOnly old new (CommitLeaves layout after old)
    → table_on layout new.shows ≡ after → Settled (record layout { second = second }) new → IsSynced new → IsSafe (record layout { second = second }) t new
commit-safe layout second safe_table t after old new law new_law told new_told ours blocks records safe slots leaves shown settled synced = record {
  table = λ image left.
      let K = OutsideGateAndAreas layout.records in
      let header : K 0 = outside_both layout.records 0 (inl (omega arith)) in
      let has = settled new_told image left in
      let there = safe.table old.shows (law.shown told) in
      let gate : recovered_region image ≡ OpensAt (gated layout image) =
      ⊎_elim
      (λ (before : HasBefore layout (table_on layout old.shows) old.may_leave image). recovered_region-gate layout K before.others.0 image header before.others.2 (safe.table before.others.0 before.others.1).region)
      (λ (behind : HasAfter layout after old.shows image). recovered_region-gate layout K old.shows image header behind.others there.region)
      (leaves.each image (new_law.counts_now old.moment image leaves.later left) told) in
      record {
        region = recovered_region-settled layout second (table_on layout new.shows) image gate has;
        area = slots_for layout t;
        slots = subst (λ blocks. AreSlots blocks (slots_for layout t)) (sym (has.table ∙ shown)) slots;
        undamaged = written-undamaged layout t ours blocks records;
        table = written-table layout t ours blocks records;
      };
  blocks = λ image left.
      let same = new_law.clean new_told image left in
      record { size = same.size; at = λ k at. same.at k (synced k) };
}
