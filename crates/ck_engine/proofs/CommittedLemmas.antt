-- What calls keep of the table that was committed last.
use Rattle.std.proofs.Common.{◌≡◌, inl, inr, ⊎_elim, ℕ, ◌*◌, Bool, true, false, ◌||◌, IsTrue, refl, sym, ap, subst, ◌∙◌, arith}
use Rattle.std.specs.FinMap as map
use Rattle.std.specs.FinSet as set
use Rattle.ck_disk.specs.Disk.{Image, Meaning, Lawful, LeavesOnly, IsSynced}
use Rattle.ck_log.specs.Layout.{Layout, table_blocks, base_of}
use Rattle.ck_log.specs.Images.{table_on, Settled, CommitLeaves}
use Rattle.ck_alloc.specs.Blocks.{Allocation, IsPartition}
use Rattle.ck_model.specs.World.{World}
use Rattle.ck_model.specs.Table.{Table}
use Rattle.ck_model.specs.TableWorld.{world_on}
use Rattle.ck_area.specs.Area.{AreSlots, written_as}
use Rattle.ck_files.specs.Allocated.{is_named, is_busy, IsAllocated, KeepsBusy}
use Rattle.ck_engine.specs.Committed.{IsCommitted, Keeps, OpensToEither}
use Rattle.ck_data.specs.Device.{store_on}
use Rattle.ck_files.specs.Files.{IsOurs}
use Rattle.ck_disk.specs.Runs.{OnlyReads}
use Rattle.ck_engine.specs.Recovery.{Recovers}
use Rattle.ck_data.specs.Stored.{LeavesTorn, OnlyStores}
use Rattle.ck_files.proofs.WorldLaws.{world_same}
use Rattle.ck_engine.proofs.SafeLemmas.{safe-recovers, stores-safe, torn-recovers, reads-safe, commit-recovers, commit-safe}
use Rattle.ck_data.proofs.StoredLaws.{kept_there}

module _ (layout : Layout) (blocks : Allocation) (m : Meaning) (w : World) (keeps : Keeps layout blocks m w) where
  -- each image opens to the world
  pub keeps-recovers : (image : Image) → m.may_leave image → Recovers image w
  keeps-recovers image left =
      let c = keeps.committed in
      subst (Recovers image) c.world (safe-recovers layout keeps.table m c.safe image left)

  -- it stays where more blocks are busy
  pub keeps-busy : (later : Allocation) → KeepsBusy blocks later → Keeps layout later m w
  keeps-busy later more =
      let c = keeps.committed in
      record { table = keeps.table; committed = record { ours = c.ours; limit = c.limit; records = c.records; busy = λ block named. more block (c.busy block named); safe = c.safe; world = c.world } }

  -- and where data blocks are stored in free places
  pub keeps-stores : (new : Meaning) → IsTrue m.tells → OnlyStores (base_of layout.records) blocks m new → Keeps layout blocks new w
  keeps-stores new told stores =
      let c = keeps.committed in
      let base = base_of layout.records in
      record {
        table = keeps.table;
        committed = record {
          ours = c.ours;
          limit = c.limit;
          records = c.records;
          busy = c.busy;
          safe = stores-safe layout keeps.table blocks m new told c.busy stores c.safe;
          world = world_same keeps.table map.empty (store_on new.shows base) (store_on m.shows base) (λ block named. sym (kept_there base blocks m.shows new.shows block (stores.shows told) (c.busy block named))) ∙ c.world;
        };
      }

  -- at every moment of that each image opens to it
  pub keeps-torn : (image : Image) → LeavesTorn (base_of layout.records) blocks m image → Recovers image w
  keeps-torn image from =
      let c = keeps.committed in
      subst (Recovers image) c.world (torn-recovers layout keeps.table blocks m c.busy c.safe image from)

  pub keeps-reads : (new : Meaning) → OnlyReads m new → Keeps layout blocks new w
  keeps-reads new reads =
      let c = keeps.committed in
      record {
        table = keeps.table;
        committed = record {
          ours = c.ours;
          limit = c.limit;
          records = c.records;
          busy = c.busy;
          safe = reads-safe layout keeps.table m new reads c.safe;
          world = ap (λ shows. world_on (store_on shows (base_of layout.records)) map.empty keeps.table) reads.shows ∙ c.world;
        };
      }

  module _ (law : Lawful m) (told : IsTrue m.tells) (t : Table) (ours : IsOurs t) (limit : t.blocks ≡ layout.blocks) (records : t.records ≡ layout.records)
      (after : Image) (slots : AreSlots after (written_as (32 * table_blocks layout.records) t)) where
    -- while another table is committed, an image opens to the one world or the other
    pub keeps-committing : (image : Image) → CommitLeaves layout after m image → OpensToEither w (world_on (store_on m.shows (base_of layout.records)) map.empty t) image
    keeps-committing image leaves =
        let c = keeps.committed in
        ⊎_elim
        (λ (before : Recovers image (world_on (store_on m.shows (base_of layout.records)) map.empty keeps.table)). inl (subst (Recovers image) c.world before))
        (λ (done : Recovers image (world_on (store_on m.shows (base_of layout.records)) map.empty t)). inr done)
        (commit-recovers layout keeps.table t after m law told ours limit records c.safe slots image leaves)

    -- once it is committed a crash leaves its world
    pub committed-new : (second : Bool) (new : Meaning) (later : Allocation) → Lawful new → IsTrue new.tells → LeavesOnly m new (CommitLeaves layout after m) → table_on layout new.shows ≡ after
        → Settled (record layout { second = second }) new → IsSynced new → ((block : ℕ) → is_named t block ≡ true → is_busy later block ≡ true)
        → IsCommitted (record layout { second = second }) later new t (world_on (store_on new.shows (base_of layout.records)) map.empty t)
    committed-new second new later new_law new_told leaves shown settled synced busy = record {
      ours = ours;
      limit = limit;
      records = records;
      busy = busy;
      safe = commit-safe layout second keeps.table t after m new law new_law told new_told ours limit records keeps.committed.safe slots leaves shown settled synced;
      world = refl;
    }

-- ---- what a crash leaves of several calls

-- data blocks stored in free places, where each image that they may leave has it
pub leaves_stores : (base : ℕ) (blocks : Allocation) (old mid new : Meaning) (P : Image → Type 0) → LeavesOnly old mid P → OnlyStores base blocks mid new → ((c : Image) → LeavesTorn base blocks mid c → P c)
    → LeavesOnly old new P
leaves_stores base blocks old mid new P ran stores all = record {
  size = stores.size ∙ ran.size;
  tells = stores.tells ∙ ran.tells;
  reads = omega (arith, stores.reads, ran.reads);
  writes = omega (arith, stores.writes, ran.writes);
  later = omega (arith, stores.later, ran.later);
  each = λ c left. ⊎_elim (λ (was : mid.left_since old.moment c). ran.each c was) (λ (now : LeavesTorn base blocks mid c). all c now) (stores.nothing_else old.moment c ran.later left);
  before = λ t c early left. ⊎_elim (λ (was : mid.left_since t c). ran.before t c early was) (λ (now : LeavesTorn base blocks mid c). inr (all c now)) (stores.nothing_else t c (omega (arith, early, ran.later)) left);
}

-- ---- blocks once pending ones are settled

-- every named block is in use, so none of them is pending
pub settled_busy : (t : Table) (blocks later : Allocation) → IsAllocated t blocks → later ≡ record blocks { pending = set.empty } → (block : ℕ) → is_named t block ≡ true → is_busy later block ≡ true
settled_busy t blocks later allocated settled block named =
    let used : set.contains blocks.used block ≡ true = allocated.used block ∙ ap (λ b. b || false) named in
    let still : set.contains later.used block ≡ true = ap (λ (a : Allocation). set.contains a.used block) settled ∙ used in
    ap (λ b. b || set.contains later.pending block) still

-- and what is in use stays so
pub settled_allocated : (t : Table) (blocks later : Allocation) → IsAllocated t blocks → later ≡ record blocks { pending = set.empty } → IsPartition later → IsAllocated t later
settled_allocated t blocks later allocated settled partition = record {
  total = ap (λ (a : Allocation). a.total) settled ∙ allocated.total;
  used = λ block. ap (λ (a : Allocation). set.contains a.used block) settled ∙ allocated.used block;
  partition = partition;
}
