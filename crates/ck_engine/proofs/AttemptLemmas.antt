-- What calls leave of a volume and its device.
use Rattle.std.proofs.Common.{◌≡◌, ◌≢◌, inl, inr, ℕ, ◌+◌, ◌≤◌, ◌==◌, ◌||◌, ◌⊎◌, IsTrue, false, List, [], get_or, Result, Ok, Err, OnErr, OnOk, refl, sym, ap, subst, ◌∙◌, arith, get_or-set_other}
use Rattle.std.specs.FinMap as map
use Rattle.std.specs.FinSet as set
use Rattle.std.specs.Ordering.{nat_cmp}
use Rattle.ck_disk.specs.Disk.{Image, Meaning, Lawful, Step, LeavesOnly, Agrees, IsSynced}
use Rattle.ck_log.specs.Layout.{Layout, OutsideGateAndAreas, base_of, size_of}
use Rattle.ck_log.specs.Images.{table_on, names_second, Settled, CommitLeaves}
use Rattle.ck_log.proofs.AreaLaws.{area_low, area_high, outside_both}
use Rattle.ck_log.proofs.RecoveryLaws.{table_on-set, settled-keeps}
use Rattle.ck_alloc.specs.Blocks.{Allocation, IsPartition, free_count}
use Rattle.ck_model.specs.Space.{without_picks}
use Rattle.ck_model.specs.World.{World, unmounted}
use Rattle.ck_model.specs.Table.{Table}
use Rattle.ck_model.specs.TableWorld.{world_on, extent_count}
use Rattle.ck_nodata.specs.declared.item.StripItem.{StripItem}
use Rattle.ck_nodata.specs.StripItem.{IsStrippedTo}
use Rattle.ck_files.specs.Allocated.{IsAllocated, KeepsBusy}
use Rattle.ck_engine.specs.Committed.{IsCommitted, Keeps, OpensToEither}
use Rattle.ck_data.specs.Device.{store_on}
use Rattle.ck_files.specs.Files.{AreFiles, IsOurs}
use Rattle.ck_disk.specs.Runs.{OnlyReads, Runs}
use Rattle.ck_data.specs.Stored.{StoredOrSame, OnlyStores}
use Rattle.ck_slots.specs.Committed.{Commits}
use Rattle.ck_files.specs.Reports.{limits_of}
use Rattle.ck_data.specs.declared.fault.Fault.{Fault}
use Rattle.ck_engine.specs.declared.engine.Engine.{Engine}
use Rattle.ck_engine.specs.Engine.{table_of, mounts_of, blocks_of, layout_of, data_of, world_of, IsWhole, KeepsWorld, GoesOn, GoesOnGiving, GoesOnGivingOrBreaks, GoesOnOrBreaks, IsAttempt, IsAttemptGiving}
use Rattle.ck_files.proofs.AllocatedLaws.{used_count}
use Rattle.ck_files.proofs.WorldLaws.{world_same}
use Rattle.ck_data.proofs.StoredLaws.{stored-keeps, kept_there}
use Rattle.ck_engine.proofs.CommittedLemmas.{keeps-busy, keeps-committing, committed-new, settled_busy, settled_allocated}
use Rattle.ck_disk.proofs.MomentLaws.{leaves_more}
use Rattle.ck_engine.proofs.GoesOnLemmas.{KeepsEither, either_busy, either_stores, either_reads, leaves_either_start, leaves_either_step, leaves_either_stores}

pub on_ok_map : {A E : Type 0} (P Q : Type 0) (r : Result A E) → (P → Q) → OnOk r P → OnOk r Q
on_ok_map P Q (Ok x) f p = f p
on_ok_map P Q (Err e) f p = tt

pub on_err_map : {A E : Type 0} (P Q : Type 0) (r : Result A E) → (P → Q) → OnErr r P → OnErr r Q
on_err_map P Q (Ok x) f p = tt
on_err_map P Q (Err e) f p = f p

pub on_err : {A E P : Type 0} (r : Result A E) → P → OnErr r P
on_err (Ok x) p = tt
on_err (Err e) p = p

-- however it ends, it goes on
pub goes_all : {D Y : Type 0} (given : ℕ) (old new : Meaning) (before after : Engine D) (r : Result Y Fault) → GoesOnGiving given old new before after → GoesOnGivingOrBreaks given old new before after r
goes_all given old new before after (Ok y) goes = goes
goes_all given old new before after (Err why) goes = inr goes

runs_same : (m : Meaning) → Runs m m
runs_same m = record { size = refl; tells = refl; reads = omega arith; writes = omega arith; later = omega arith }

runs_step : (old mid new : Meaning) → Runs old mid → Step mid new → Runs old new
runs_step old mid new runs step = record {
  size = step.size ∙ runs.size;
  tells = step.tells ∙ runs.tells;
  reads = omega (arith, runs.reads, step.reads);
  writes = omega (arith, runs.writes, step.writes);
  later = omega (arith, runs.later, step.later);
}

runs_stores : (base : ℕ) (blocks : Allocation) (old mid new : Meaning) → Runs old mid → OnlyStores base blocks mid new → Runs old new
runs_stores base blocks old mid new runs stores = record {
  size = stores.size ∙ runs.size;
  tells = stores.tells ∙ runs.tells;
  reads = omega (arith, runs.reads, stores.reads);
  writes = omega (arith, runs.writes, stores.writes);
  later = omega (arith, runs.later, stores.later);
}

-- the files with the limits of their own table
own_files : (t u : Table) (blocks : Allocation) → AreFiles (limits_of t) u blocks → AreFiles (limits_of u) u blocks
own_files t u blocks files = record { ours = files.ours; allocated = files.allocated; limit = refl; records = refl }

module _ {D : Type 0} where
  -- a place up to which nothing is left to strip stays one, where neither it nor the table changes
  stripped_still : (before after : Engine D) → table_of after ≡ table_of before → after.stripped ≡ before.stripped → IsStrippedTo (table_of before) before.stripped → IsStrippedTo (table_of after) after.stripped
  stripped_still before after table place done =
      subst (λ (last : StripItem). IsStrippedTo (table_of after) last) (sym place) (subst (λ (t : Table). IsStrippedTo t before.stripped) (sym table) done)

  -- ---- no call of the device: what was committed stays, whatever is given up

  pub quiet-attempt : (given : ℕ) (m : Meaning) (before after : Engine D) → Lawful m → IsAttemptGiving given m m before after
  quiet-attempt given m before after law = record {
    runs = runs_same m;
    survives = λ told w keeps. leaves_either_start w (unmounted (without_picks given (world_of m.shows before))) (layout_of before) (blocks_of before) m law (inl keeps);
  }

  pub quiet-goes : (given : ℕ) (m : Meaning) (before after : Engine D) → IsWhole m before → layout_of after ≡ layout_of before → AreFiles (limits_of (table_of before)) (table_of after) (blocks_of after)
      → KeepsBusy (blocks_of before) (blocks_of after) → IsStrippedTo (table_of after) after.stripped → GoesOnGiving given m m before after
  quiet-goes given m before after whole layout files busy stripped = record {
    whole = record {
      files = own_files (table_of before) (table_of after) (blocks_of after) files;
      blocks = ap (λ (l : Layout). l.blocks) layout ∙ whole.blocks ∙ sym files.limit;
      records = ap (λ (l : Layout). l.records) layout ∙ whole.records ∙ sym files.records;
      size = subst (λ (l : Layout). size_of l.blocks l.records ≤ m.size) (sym layout) whole.size;
      settled = subst (λ (l : Layout). Settled l m) (sym layout) whole.settled;
      stripped = stripped;
    };
    kept = λ told w keeps. inl (subst (λ (l : Layout). Keeps l (blocks_of after) m w) (sym layout) (keeps-busy (layout_of before) (blocks_of before) m w keeps (blocks_of after) busy));
  }

  -- ---- behind a step that gives up so many checkpoints, and is else seen by nobody

  module _ (given : ℕ) (m new : Meaning) (before middle after : Engine D) (world : world_of m.shows middle ≡ without_picks given (world_of m.shows before)) (layout : layout_of middle ≡ layout_of before)
      (busy : KeepsBusy (blocks_of before) (blocks_of middle)) where
    keeps-still : (w : World) → KeepsWorld m before w → KeepsWorld m middle w
    keeps-still w keeps = subst (λ (l : Layout). Keeps l (blocks_of middle) m w) (sym layout) (keeps-busy (layout_of before) (blocks_of before) m w keeps (blocks_of middle) busy)

    pub behind-attempt : IsAttempt m new middle after → IsAttemptGiving given m new before after
    behind-attempt is = record {
      runs = is.runs;
      survives = λ told w keeps. subst (λ now. LeavesOnly m new (OpensToEither w (unmounted now))) world (is.survives told w (keeps-still w keeps));
    }

    behind-goes : GoesOn m new middle after → GoesOnGiving given m new before after
    behind-goes is = record {
      whole = is.whole;
      kept = λ told w keeps. subst (λ now. KeepsWorld new after w ⊎ KeepsWorld new after (unmounted now)) world (is.kept told w (keeps-still w keeps));
    }

    pub behind-goes_all : {Y : Type 0} (r : Result Y Fault) → GoesOnOrBreaks m new middle after r → GoesOnGivingOrBreaks given m new before after r
    behind-goes_all (Ok y) goes = behind-goes goes
    behind-goes_all (Err why) goes = elim goes [ inl broken ↦ inl broken | inr goes ↦ inr (behind-goes goes) ]

  -- ---- reads

  pub reads-attempt : (old new : Meaning) (before after : Engine D) → Lawful old → OnlyReads old new → IsAttempt old new before after
  reads-attempt old new before after law reads = record {
    runs = runs_step old old new (runs_same old) reads.step;
    survives = λ told w keeps.
        let now = unmounted (world_of old.shows before) in
        let either = either_reads w now (layout_of before) (blocks_of before) old new reads (inl keeps) in
        leaves_either_step w now (layout_of before) (blocks_of before) old old new (leaves_either_start w now (layout_of before) (blocks_of before) old law (inl keeps)) reads.step either;
  }

  pub reads-goes : (old new : Meaning) (before after : Engine D) → IsWhole old before → OnlyReads old new → layout_of after ≡ layout_of before → table_of after ≡ table_of before → blocks_of after ≡ blocks_of before → after.stripped ≡ before.stripped
      → GoesOn old new before after
  reads-goes old new before after whole reads layout table blocks place = record {
    whole = record {
      files = subst (λ (t : Table). AreFiles (limits_of t) t (blocks_of after)) (sym table) (subst (λ (b : Allocation). AreFiles (limits_of (table_of before)) (table_of before) b) (sym blocks) whole.files);
      blocks = ap (λ (l : Layout). l.blocks) layout ∙ whole.blocks ∙ sym (ap (λ (t : Table). t.blocks) table);
      records = ap (λ (l : Layout). l.records) layout ∙ whole.records ∙ sym (ap (λ (t : Table). t.records) table);
      size = subst (λ n. size_of (layout_of after).blocks (layout_of after).records ≤ n) (sym reads.step.size) (subst (λ (l : Layout). size_of l.blocks l.records ≤ old.size) (sym layout) whole.size);
      settled = subst (λ (l : Layout). Settled l new) (sym layout) (settled-keeps (layout_of before) old new reads.step.tells reads.shows reads.crash whole.settled);
      stripped = stripped_still before after table place whole.stripped;
    };
    kept = λ told w keeps.
        let now = unmounted (world_of old.shows before) in
        subst (λ (l : Layout). KeepsEither l (blocks_of after) new w now) (sym layout)
        (subst (λ (b : Allocation). KeepsEither (layout_of before) b new w now) (sym blocks) (either_reads w now (layout_of before) (blocks_of before) old new reads (inl keeps)));
  }

  -- ---- stores, after a commit or none

  pub stores-attempt : (old mid new : Meaning) (before middle after : Engine D) → IsAttempt old mid before middle → GoesOn old mid before middle → OnlyStores (data_of middle) (blocks_of middle) mid new
      → IsAttempt old new before after
  stores-attempt old mid new before middle after attempt goes stores = record {
    runs = runs_stores (data_of middle) (blocks_of middle) old mid new attempt.runs stores;
    survives = λ told w keeps.
        let now = unmounted (world_of old.shows before) in
        leaves_either_stores w now (layout_of middle) (blocks_of middle) old mid new (attempt.survives told w keeps) stores (goes.kept told w keeps);
  }

  pub stores-goes : (old mid new : Meaning) (before middle after : Engine D) → IsAttempt old mid before middle → GoesOn old mid before middle → OnlyStores (data_of middle) (blocks_of middle) mid new
      → layout_of after ≡ layout_of middle → AreFiles (limits_of (table_of middle)) (table_of after) (blocks_of after) → KeepsBusy (blocks_of middle) (blocks_of after) → IsStrippedTo (table_of after) after.stripped → GoesOn old new before after
  stores-goes old mid new before middle after attempt goes stores layout files busy stripped =
      let whole = goes.whole in
      record {
        whole = record {
          files = own_files (table_of middle) (table_of after) (blocks_of after) files;
          blocks = ap (λ (l : Layout). l.blocks) layout ∙ whole.blocks ∙ sym files.limit;
          records = ap (λ (l : Layout). l.records) layout ∙ whole.records ∙ sym files.records;
          size = subst (λ n. size_of (layout_of after).blocks (layout_of after).records ≤ n) (sym stores.size) (subst (λ (l : Layout). size_of l.blocks l.records ≤ mid.size) (sym layout) whole.size);
          settled = subst (λ (l : Layout). Settled l new) (sym layout) (stores-settled whole.settled);
          stripped = stripped;
        };
        kept = λ told w keeps.
            let now = unmounted (world_of old.shows before) in
            let mid_told : IsTrue mid.tells = subst IsTrue (sym attempt.runs.tells) told in
            subst (λ (l : Layout). KeepsEither l (blocks_of after) new w now) (sym layout)
            (either_busy w now (layout_of middle) (blocks_of middle) (blocks_of after) new busy
            (either_stores w now (layout_of middle) (blocks_of middle) mid new mid_told stores (goes.kept told w keeps)));
      }
    where
      records : ℕ
      records = (layout_of middle).records

      base_high : 2 ≤ base_of records
      base_high = omega (arith, area_low records false, area_high records false)

      -- stores leave the gate and the areas
      same_gate : (d c : Image) → StoredOrSame (base_of records) (blocks_of middle) d c → names_second c ≡ names_second d
      same_gate d c stored =
          stored-keeps (base_of records) (blocks_of middle) (λ x. names_second x ≡ names_second d) (λ x block bytes free same.
          let apart : 1 ≢ base_of records + block = λ at. absurd (no_one block at) in
          ap (λ (g : List ℕ). get_or g 0 0 == 71) (get_or-set_other x (base_of records + block) 1 bytes [] apart) ∙ same)
          d c stored refl
        where
          no_one : (block : ℕ) → 1 ≡ base_of records + block → ⊥
          no_one block same = omega (arith, base_high)

      same_table : (d c : Image) → StoredOrSame (base_of records) (blocks_of middle) d c → table_on (layout_of middle) c ≡ table_on (layout_of middle) d
      same_table d c stored =
          stored-keeps (base_of records) (blocks_of middle) (λ x. table_on (layout_of middle) x ≡ table_on (layout_of middle) d) (λ x block bytes free same.
          table_on-set (layout_of middle) x (base_of records + block) bytes (omega arith) ∙ same)
          d c stored refl

      stores-settled : Settled (layout_of middle) mid → Settled (layout_of middle) new
      stores-settled settled told image left =
          let mid_told : IsTrue mid.tells = subst IsTrue stores.tells told in
          let from = stores.crash image left in
          let was = settled mid_told from.0 from.1 in
          record {
            gate = same_gate from.0 image from.2 ∙ was.gate;
            table = same_table from.0 image from.2 ∙ was.table ∙ sym (same_table mid.shows new.shows (stores.shows mid_told));
          }

  -- the world stays, where the table does
  pub stores-world : (mid new : Meaning) (middle after : Engine D) → IsTrue mid.tells → IsWhole mid middle → OnlyStores (data_of middle) (blocks_of middle) mid new
      → layout_of after ≡ layout_of middle → table_of after ≡ table_of middle → mounts_of after ≡ mounts_of middle → world_of new.shows after ≡ world_of mid.shows middle
  stores-world mid new middle after told whole stores layout table mounts =
      let base = data_of middle in
      (λ i. world_on (store_on new.shows (base_of (layout i).records)) (mounts i) (table i))
      ∙ world_same (table_of middle) (mounts_of middle) (store_on new.shows base) (store_on mid.shows base)
      (λ block named. sym (kept_there base (blocks_of middle) mid.shows new.shows block (stores.shows told)
      (ap (λ b. b || set.contains (blocks_of middle).pending block) (whole.files.allocated.used block ∙ ap (λ b. b || false) named))))

  -- ---- a commit

  module _ (old new : Meaning) (before after : Engine D) (law : Lawful old) (whole : IsWhole old before) (AtTheEnd : Image → Type 0) (commits : Commits (layout_of before) (table_of before) old new AtTheEnd) where
    abbrev ran : LeavesOnly old new (CommitLeaves (layout_of before) commits.after old)
    ran = commits.any_moment

    pub commit-attempt : IsAttempt old new before after
    commit-attempt = record {
      runs = record { size = ran.size; tells = ran.tells; reads = ran.reads; writes = ran.writes; later = ran.later };
      survives = λ told w keeps.
          leaves_more old new (CommitLeaves (layout_of before) commits.after old) (OpensToEither w (unmounted (world_of old.shows before)))
          (keeps-committing (layout_of before) (blocks_of before) old w keeps law told (table_of before) whole.files.ours (sym whole.blocks) (sym whole.records) commits.after commits.slots)
          ran;
    }

    -- its end
    module _ (new_law : Lawful new) (layout : layout_of after ≡ record (layout_of before) { second = (layout_of after).second }) (table : table_of after ≡ table_of before) (mounts : mounts_of after ≡ mounts_of before)
        (settled : Settled (layout_of after) new) (synced : IsSynced new) (shown : IsTrue old.tells → table_on (layout_of after) new.shows ≡ commits.after)
        (others : IsTrue old.tells → Agrees (OutsideGateAndAreas (layout_of before).records) old.shows new.shows)
        (free : blocks_of after ≡ record (blocks_of before) { pending = set.empty }) (partition : IsPartition (blocks_of after)) (place : after.stripped ≡ before.stripped) where
      abbrev base : ℕ
      base = base_of (layout_of before).records

      base_high : 2 ≤ base
      base_high = omega (arith, area_low (layout_of before).records false, area_high (layout_of before).records false)

      -- the data blocks stay
      pub commit-world : IsTrue old.tells → world_of new.shows after ≡ world_of old.shows before
      commit-world told =
          let here = (others told) in
          (λ i. world_on (store_on new.shows (base_of (layout i).records)) (mounts i) (table i))
          ∙ world_same (table_of before) (mounts_of before) (store_on new.shows base) (store_on old.shows base) (λ block named. sym (here.at (base + block) (outside_both (layout_of before).records (base + block) (inr (omega (arith, base_high))))))

      pub commit-table : IsTrue old.tells → (w : World) → KeepsWorld old before w → IsCommitted (layout_of after) (blocks_of after) new (table_of before) (unmounted (world_of new.shows after))
      commit-table told w keeps =
          let second = (layout_of after).second in
          let l = record (layout_of before) { second = second } in
          let new_told : IsTrue new.tells = subst IsTrue (sym ran.tells) told in
          let there : table_on (layout_of before) new.shows ≡ commits.after = ap (λ (l : Layout). table_on l new.shows) (sym layout) ∙ shown told in
          let kept : IsCommitted l (blocks_of after) new (table_of before) (world_on (store_on new.shows base) map.empty (table_of before)) =
          committed-new (layout_of before) (blocks_of before) old w keeps law told (table_of before) whole.files.ours (sym whole.blocks) (sym whole.records) commits.after commits.slots
          second new (blocks_of after) new_law new_told ran there (subst (λ (l : Layout). Settled l new) layout settled) synced
          (settled_busy (table_of before) (blocks_of before) (blocks_of after) whole.files.allocated free) in
          subst (λ (x : Layout). IsCommitted x (blocks_of after) new (table_of before) (world_on (store_on new.shows (base_of x.records)) map.empty (table_of after))) (sym layout)
          (subst (λ (t : Table). IsCommitted l (blocks_of after) new (table_of before) (world_on (store_on new.shows base) map.empty t)) (sym table) kept)

      pub commit-committed : IsTrue old.tells → (w : World) → KeepsWorld old before w → KeepsWorld new after (unmounted (world_of new.shows after))
      commit-committed told w keeps = record { table = table_of before; committed = commit-table told w keeps }

      pub commit-goes : GoesOn old new before after
      commit-goes = record {
        whole = record {
          files = record {
            ours = subst IsOurs (sym table) whole.files.ours;
            allocated = subst (λ (t : Table). IsAllocated t (blocks_of after)) (sym table) (settled_allocated (table_of before) (blocks_of before) (blocks_of after) whole.files.allocated free partition);
            limit = refl;
            records = refl;
          };
          blocks = ap (λ (l : Layout). l.blocks) layout ∙ whole.blocks ∙ sym (ap (λ (t : Table). t.blocks) table);
          records = ap (λ (l : Layout). l.records) layout ∙ whole.records ∙ sym (ap (λ (t : Table). t.records) table);
          size = subst (λ n. size_of (layout_of after).blocks (layout_of after).records ≤ n) (sym ran.size) (subst (λ (l : Layout). size_of l.blocks l.records ≤ old.size) (sym layout) whole.size);
          settled = settled;
          stripped = stripped_still before after table place whole.stripped;
        };
        kept = λ told w keeps. inr (subst (λ w. KeepsWorld new after (unmounted w)) (commit-world told) (commit-committed told w keeps));
      }

-- the free blocks after a commit
pub settled_free : (t : Table) (blocks later : Allocation) (count : ℕ) → IsOurs t → IsAllocated t blocks → extent_count t + count ≤ t.blocks → later ≡ record blocks { pending = set.empty } → count ≤ free_count later
settled_free t blocks later count ours allocated room settled =
    let used = used_count t ours.sound blocks allocated in
    let none : set.len later.pending ≡ 0 = ap (λ (a : Allocation). set.len a.pending) settled ∙ set.len-empty nat_cmp in
    let total : later.total ≡ blocks.total = ap (λ (a : Allocation). a.total) settled in
    let same : set.len later.used ≡ set.len blocks.used = ap (λ (a : Allocation). set.len a.used) settled in
    omega (arith, none, total, same, used, allocated.total, room)
