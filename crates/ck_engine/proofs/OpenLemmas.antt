-- A volume as it is opened.
use Rattle.std.proofs.Common.{◌≡◌, ℕ, zero, suc, ◌%◌, ◌||◌, ◌<◌, ◌≤◌, Bool, true, false, IsTrue, List, [], ◌∷◌, length, nat_eq, slice_index_or, Result, Ok, Err, IfOk, IfErr, refl, sym, ap, subst, ◌∙◌, arith}
use Rattle.std.specs.List.{list_any}
use Rattle.std.proofs.lemmas.Bool.Decides.{nat_tests}
use Rattle.ck_alloc.specs.Blocks.{Allocation, IsPartition, used_alone}
use Rattle.ck_model.specs.declared.held.Held.TheVariants.{Extent}
use Rattle.ck_model.specs.TableWorld.{extents_of}
use Rattle.ck_model.specs.Table.{column}
use Rattle.ck_files.proofs.AllocatedLaws.{contains-listed}
use Rattle.ck_files.proofs.NamedLaws.{is-named, extent_is}
use Rattle.std.specs.FinMap as map
use Rattle.std.specs.FinSet as set
use Rattle.ck_disk.specs.Disk.{Meaning, Lawful, IsClean, IsSynced, LeavesOnly, Rose}
use Rattle.ck_log.specs.Layout.{Layout, base_of, size_of}
use Rattle.ck_log.specs.Header.{Recovered, Opens as OpensAt}
use Rattle.ck_log.specs.Images.{recovered_region, area_of, Settled}
use Rattle.ck_log.proofs.RecoveryLaws.{recovered_region-agrees, table_on-agrees, area_of-settled, settled-keeps}
use Rattle.ck_nodata.proofs.PlaceLaws.{stripped_to_first}
use Rattle.ck_model.specs.Table.{Table}
use Rattle.ck_model.specs.Rules.{IsSound}
use Rattle.ck_model.specs.TableWorld.{world_on}
use Rattle.ck_area.specs.Area.{Area, AreSlots}
use Rattle.ck_slots.specs.Opened.{IsRefused, IsOpened as IsOpenedTable, IsOpenFault as IsOpenSlotsFault}
use Rattle.ck_slots.specs.declared.opened.OpenSlots.{OpenSlots}
use Rattle.ck_slots.specs.declared.opened.OpenSlots.TheVariants as open_slots
use Rattle.ck_files.specs.Allocated.{is_named, IsAllocated}
use Rattle.ck_data.specs.Device.{store_on}
use Rattle.ck_engine.specs.Opened.{IsOpened, IsFound, IsOpenFault}
use Rattle.ck_engine.specs.declared.open.OpenFault.{OpenFault}
use Rattle.ck_engine.specs.declared.open.OpenFault.TheVariants as fault
use Rattle.ck_files.specs.Files.{IsOurs}
use Rattle.ck_disk.specs.Runs.{OnlyReads}
use Rattle.ck_engine.specs.Recovery.{Recovery, NotVolume, BadFormat, Damaged, FindsBy, Finds, Recovers, recovery_of, unless_damaged}
use Rattle.ck_engine.specs.Safe.{HoldsTable, IsSafe}
use Rattle.ck_engine.specs.declared.engine.Engine.{Engine}
use Rattle.ck_engine.specs.Engine.{table_of, mounts_of, blocks_of, layout_of, world_of}
use Rattle.ck_engine.proofs.SafeLemmas.{holds-recovers}
use Rattle.ck_disk.proofs.MomentLaws.{leaves_step, leaves_start}
use Rattle.ck_disk.proofs.RunLaws.{leaves_on}

-- where no write stands on the device, what its reads have each image has
pub synced-safe : (layout : Layout) (t : Table) (m : Meaning) → Lawful m → IsTrue m.tells → IsSynced m → HoldsTable layout t m.shows → IsSafe layout t m
synced-safe layout t m law told synced holds = record {
  table = λ image left.
      let same = law.clean told image left in
      record {
        region = recovered_region-agrees (IsClean m) m.shows image (synced 0) (synced 1) same ∙ holds.region;
        area = holds.area;
        slots = subst (λ blocks. AreSlots blocks holds.area) (sym (table_on-agrees layout (IsClean m) m.shows image (λ k low high. synced k) same)) holds.slots;
        undamaged = holds.undamaged;
        table = holds.table;
      };
  blocks = λ image left.
      let same = law.clean told image left in
      record { size = same.size; at = λ k at. same.at k (synced k) };
}

pub opened-holds : (layout : Layout) (t : Table) (m : Meaning) → Lawful m → IsTrue m.tells → recovered_region m.shows ≡ OpensAt layout → Settled layout m → IsOpenedTable layout m t → HoldsTable layout t m.shows
opened-holds layout t m law told found settled opened = record {
  region = found;
  area = opened.area;
  slots = subst (λ blocks. AreSlots blocks opened.area) (area_of-settled layout m law told settled) opened.slots;
  undamaged = opened.undamaged;
  table = sym opened.table;
}

module _ {D : Type 0} (old new : Meaning) (volume : Engine D) (law : Lawful old) (new_law : Lawful new) (reads : OnlyReads old new) (ours : IsOurs (table_of volume)) (allocated : IsAllocated (table_of volume) (blocks_of volume))
    (blocks : (table_of volume).blocks ≡ (layout_of volume).blocks) (records : (table_of volume).records ≡ (layout_of volume).records) (size : size_of (layout_of volume).blocks (layout_of volume).records ≤ old.size)
    (found : IsTrue old.tells → recovered_region old.shows ≡ OpensAt (layout_of volume)) (settled : Settled (layout_of volume) old) (synced : IsSynced old)
    (opened : IsTrue old.tells → IsOpenedTable (layout_of volume) old (table_of volume))
    (mounts : mounts_of volume ≡ map.empty) (first : volume.stripped.id ≡ 0) where
  abbrev layout : Layout
  layout = layout_of volume

  abbrev t : Table
  t = table_of volume

  holds : IsTrue old.tells → HoldsTable layout t new.shows
  holds told = subst (HoldsTable layout t) (sym reads.shows) (opened-holds layout t old law told (found told) settled (opened told))

  world-is : world_on (store_on new.shows (base_of layout.records)) map.empty t ≡ world_of new.shows volume
  world-is = ap (λ mounts. world_on (store_on new.shows (base_of layout.records)) mounts t) (sym mounts)

  pub volume-opened : IsOpened old new volume
  volume-opened = record {
    begun = record {
      whole = record {
        files = record { ours = ours; allocated = allocated; limit = refl; records = refl };
        blocks = sym blocks;
        records = sym records;
        size = subst (λ n. size_of layout.blocks layout.records ≤ n) (sym reads.step.size) size;
        settled = settled-keeps layout old new reads.step.tells reads.shows reads.crash settled;
        stripped = stripped_to_first t volume.stripped ours.lawful first;
      };
      mounts_are = mounts;
    };
    recovers = λ told.
        subst (Recovers old.shows) world-is
        (subst (λ shows. Recovers shows (world_on (store_on new.shows (base_of layout.records)) map.empty t)) reads.shows
        (holds-recovers layout t new.shows new.shows (holds told) (record { size = refl; at = λ k at. refl })));
    kept = λ told.
        let new_told : IsTrue new.tells = subst IsTrue (sym reads.step.tells) told in
        record {
          table = t;
          committed = record {
            ours = ours;
            limit = blocks;
            records = records;
            busy = λ block named. ap (λ b. b || set.contains (blocks_of volume).pending block) (allocated.used block ∙ ap (λ b. b || false) named);
            safe = synced-safe layout t new new_law new_told (λ k. reads.marks k (synced k)) (holds told);
            world = world-is;
          };
        };
    any_moment = leaves_step old old new old.may_leave (leaves_start old old.may_leave law (λ c left. left)) reads.step reads.crash;
  }

-- ---- a table that is refused

module _ (layout : Layout) (old new : Meaning) (law : Lawful old) (reads : OnlyReads old new) (found : IsTrue old.tells → recovered_region old.shows ≡ OpensAt layout) (settled : Settled layout old) where
  quiet : LeavesOnly old new old.may_leave
  quiet = leaves_step old old new old.may_leave (leaves_start old old.may_leave law (λ c left. left)) reads.step reads.crash

  -- what the slots of its area say is what opening finds
  finds_area : IsTrue old.tells → (area : Area) → AreSlots (area_of layout old.shows) area → (is : Recovery) → recovery_of layout old.shows area ≡ is → Finds old.shows is
  finds_area told area slots is same =
      subst (λ (header : Recovered). FindsBy header old.shows is) (sym (found told))
      (area, subst (λ blocks. AreSlots blocks area) (area_of-settled layout old law told settled) slots, sym same)

  damaged : (block place : ℕ) → IsRefused layout old (open_slots.Damaged block place) → IsFound old new (Damaged block place)
  damaged block place refused = (
    λ told.
        let r = refused told in
        finds_area told r.0 r.1 (Damaged block place)
        (ap (unless_damaged layout old.shows r.0) r.2.1
        ∙ ap (λ (n : ℕ). Damaged n (r.2.0 % 32)) (sym r.2.2)
        ∙ ap (Damaged block) (sym r.2.3)),
    quiet,
  )

  -- the refusal that is handed on
  pub refused_slot : (why : OpenSlots) → IsOpenSlotsFault layout old new why → (block place : ℕ) → why ≡ open_slots.Damaged block place → IsFound old new (Damaged block place)
  refused_slot why fault block place is = damaged block place (subst (IsOpenSlotsFault layout old new) is fault)

-- ---- the data blocks of a table

any_index : (xs : List ℕ) (k d : ℕ) → k < length xs → list_any (nat_eq (slice_index_or xs k d)) xs ≡ true
any_index [] k d low = absurd (none k low)
  where
    none : (k : ℕ) → k < 0 → ⊥
    none k low = omega (arith, low)
any_index (x ∷ xs) zero d low = let same : nat_eq x x ≡ true = grind (arith, nat_tests) in ap (λ b. b || list_any (nat_eq x) xs) same
any_index (x ∷ xs) (suc k) d low = or_right (nat_eq (slice_index_or xs k d) x) (list_any (nat_eq (slice_index_or xs k d)) xs) (any_index xs k d (omega (arith, low)))
  where
    or_right : (a b : Bool) → b ≡ true → (a || b) ≡ true
    or_right true b h = refl
    or_right false b h = h

pub extents_below : (t : Table) → IsSound t → (k d : ℕ) → k < length (extents_of t) → slice_index_or (extents_of t) k d < t.blocks
extents_below t sound k d low =
    let block = slice_index_or (extents_of t) k d in
    let named = is-named t block (any_index (extents_of t) k d low) in
    let e = extent_is (column t named.1.0 named.0) block named.1.1 in
    sound.orderly.blocks named.0 named.1.0 (Extent e.0 block) e.1

or_none : (b : Bool) → b ≡ (b || false)
or_none true = refl
or_none false = refl

pub extents_allocated : (t : Table) (blocks : Allocation) (total : ℕ) (used : List ℕ) → total ≡ t.blocks → used ≡ extents_of t → blocks ≡ used_alone total used → IsPartition blocks → IsAllocated t blocks
extents_allocated t blocks total used sized named is partition = record {
  total = ap (λ (a : Allocation). a.total) is ∙ sized;
  used = λ b. ap (λ (a : Allocation). set.contains a.used b) is ∙ contains-listed b used ∙ ap (list_any (nat_eq b)) named ∙ or_none (is_named t b);
  partition = partition;
}

pub if_ok_both : {A E : Type 0} (P Q R : A → Type 0) (r : Result A E) → ((x : A) → P x → Q x → R x) → IfOk r P → IfOk r Q → IfOk r R
if_ok_both P Q R (Ok x) f p q = f x p q
if_ok_both P Q R (Err e) f p q = tt

-- ---- an opening after the region's

module _ (old mid : Meaning) (law : Lawful mid) (shows : mid.shows ≡ old.shows) (first : LeavesOnly old mid old.may_leave) where
  told_on : IsTrue old.tells → IsTrue mid.tells
  told_on told = subst IsTrue (sym first.tells) told

  pub opened_after : {D : Type 0} (new : Meaning) (volume : Engine D) → IsOpened mid new volume → IsOpened old new volume
  opened_after new volume opened = record {
    begun = opened.begun;
    recovers = λ told. subst (λ x. Recovers x (world_of new.shows volume)) shows (opened.recovers (told_on told));
    kept = λ told. opened.kept (told_on told);
    any_moment = leaves_on old mid new law first opened.any_moment;
  }

  found_after : (new : Meaning) (found : Recovery) → IsFound mid new found → IsFound old new found
  found_after new found is = (λ told. subst (λ x. Finds x found) shows (is.0 (told_on told)), leaves_on old mid new law first is.1)

  rose_on : (before between now : ℕ) → before ≤ between → Rose between now → Rose before now
  rose_on before between now low rose = omega (arith, low, rose)

  pub fault_after : {D : Type 0} (means : D → Meaning) (f : OpenFault D) → IsOpenFault means mid f → IsOpenFault means old f
  fault_after means (fault.NotVolume disk) is = found_after (means disk) NotVolume is
  fault_after means (fault.BadFormat disk version) is = found_after (means disk) (BadFormat version) is
  fault_after means (fault.Damaged disk block slot) is = found_after (means disk) (Damaged block slot) is
  fault_after means (fault.ReadFault disk) is = (rose_on old.read_faults mid.read_faults (means disk).read_faults first.reads is.0, leaves_on old mid (means disk) law first is.1)
  fault_after means (fault.WriteFault disk) is = (rose_on old.write_faults mid.write_faults (means disk).write_faults first.writes is.0, leaves_on old mid (means disk) law first is.1)
  fault_after means (fault.NoMemory disk) is = leaves_on old mid (means disk) law first is

pub if_err_map : {A E : Type 0} (P Q : E → Type 0) (r : Result A E) → ((e : E) → P e → Q e) → IfErr r P → IfErr r Q
if_err_map P Q (Ok x) f h = tt
if_err_map P Q (Err e) f h = f e h
