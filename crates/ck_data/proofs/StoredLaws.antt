-- Data blocks stored in free places, one after the other.
use Rattle.std.proofs.Common.{◌≡◌, ◌≢◌, ◌⊎◌, inl, inr, ⊎_elim, ℕ, ◌+◌, ◌||◌, true, IsTrue, List, [], ◌∷◌, ◌++◌, set, length, get_or, refl, sym, ap, subst, ◌∙◌, arith, get_or-set_other, length-set}
use mathlib.Core.Bool.{false≢true}
use Rattle.std.specs.List.{AllByRecursion}
use Rattle.ck_disk.specs.Disk.{Image, Meaning, Step, TearsAt}
use Rattle.ck_alloc.specs.Blocks.{Allocation, IsFree}
use Rattle.ck_files.specs.Allocated.{is_busy}
use Rattle.ck_data.specs.declared.fault.Fault.{Fault}
use Rattle.ck_data.specs.declared.fault.Fault.TheVariants.{ReadFault, WriteFault, NoMemory}
use Rattle.ck_disk.specs.Runs.{OnlyReads}
use Rattle.ck_data.specs.Writes.{IsWritingFault}
use Rattle.ck_data.specs.Stored.{StoredBlock, with_stored, StoredOrSame, LeavesTorn, OnlyStores}

-- ---- images

-- what each store in a free place keeps, several keep
pub stored-keeps : (base : ℕ) (blocks : Allocation) (P : Image → Type 0) → ((d : Image) (block : ℕ) (bytes : List ℕ) → IsFree blocks block → P d → P (set d (base + block) bytes))
    → (d c : Image) → StoredOrSame base blocks d c → P d → P c
stored-keeps base blocks P one d c stored p = subst P (sym stored.is) (all stored.stored d stored.free p)
  where
    all : (several : List StoredBlock) (d : Image) → AllByRecursion (λ s. IsFree blocks s.block) several → P d → P (with_stored base d several)
    all [] d free p = p
    all (s ∷ more) d free p = all more (set d (base + s.block) s.bytes) free.1 (one d s.block s.bytes free.0 p)

-- what is busy isn't free
busy_apart : (blocks : Allocation) (block named : ℕ) → IsFree blocks block → is_busy blocks named ≡ true → named ≢ block
busy_apart blocks block named free busy same =
    false≢true ((λ i. sym free.unused i || sym free.settled i) ∙ ap (is_busy blocks) (sym same) ∙ busy)

-- the image keeps what a busy place has
pub kept_there : (base : ℕ) (blocks : Allocation) (d c : Image) (block : ℕ) → StoredOrSame base blocks d c → is_busy blocks block ≡ true → get_or c (base + block) [] ≡ get_or d (base + block) []
kept_there base blocks d c block stored busy =
    stored-keeps base blocks (λ x. get_or x (base + block) [] ≡ get_or d (base + block) []) (λ x other bytes free same.
    let apart : base + block ≢ base + other = λ at. busy_apart blocks other block free busy (omega arith) in
    get_or-set_other x (base + other) (base + block) bytes [] apart ∙ same)
    d c stored refl

pub kept_size : (base : ℕ) (blocks : Allocation) (d c : Image) → StoredOrSame base blocks d c → length c ≡ length d
kept_size base blocks d c stored =
    stored-keeps base blocks (λ x. length x ≡ length d) (λ x block bytes free same. length-set x (base + block) bytes ∙ same) d c stored refl

pub none_stored : (base : ℕ) (blocks : Allocation) (d c : Image) → c ≡ d → StoredOrSame base blocks d c
none_stored base blocks d c same = record { stored = []; free = tt; is = same }

pub one_stored : (base : ℕ) (blocks : Allocation) (d c : Image) (block : ℕ) (bytes : List ℕ) → IsFree blocks block → c ≡ set d (base + block) bytes → StoredOrSame base blocks d c
one_stored base blocks d c block bytes free is = record { stored = record { block = block; bytes = bytes } ∷ []; free = (free, tt); is = is }

-- what is free later was free before
abbrev pub FreeBefore : Allocation → Allocation → Type 0
FreeBefore blocks later = (block : ℕ) → IsFree later block → IsFree blocks block

-- first these and then those
pub stored_on : (base : ℕ) (blocks later : Allocation) (d e c : Image) → FreeBefore blocks later → StoredOrSame base blocks d e → StoredOrSame base later e c → StoredOrSame base blocks d c
stored_on base blocks later d e c before first second = record {
  stored = first.stored ++ second.stored;
  free = all_free first.stored second.stored first.free second.free;
  is = second.is ∙ ap (λ (x : Image). with_stored base x second.stored) first.is ∙ both first.stored second.stored d;
}
  where
    all_free : (some more : List StoredBlock) → AllByRecursion (λ s. IsFree blocks s.block) some → AllByRecursion (λ s. IsFree later s.block) more → AllByRecursion (λ s. IsFree blocks s.block) (some ++ more)
    all_free [] [] none free = tt
    all_free [] (s ∷ more) none free = (before s.block free.0, all_free [] more tt free.1)
    all_free (s ∷ some) more free rest = (free.0, all_free some more free.1 rest)

    both : (some more : List StoredBlock) (d : Image) → with_stored base (with_stored base d some) more ≡ with_stored base d (some ++ more)
    both [] more d = refl
    both (s ∷ some) more d = both some more (set d (base + s.block) s.bytes)

-- ---- calls

-- no call
pub stores_none : (base : ℕ) (blocks : Allocation) (m : Meaning) → OnlyStores base blocks m m
stores_none base blocks m = record {
  size = refl;
  tells = refl;
  reads = omega arith;
  writes = omega arith;
  later = omega arith;
  crash = λ c left. (c, left, none_stored base blocks c c refl);
  nothing_else = λ t c early left. inl left;
  shows = λ told. none_stored base blocks m.shows m.shows refl;
}

-- reads store nothing
pub reads_store : (base : ℕ) (blocks : Allocation) (old new : Meaning) → OnlyReads old new → OnlyStores base blocks old new
reads_store base blocks old new reads =
    let step = reads.step in
    record {
      size = step.size;
      tells = step.tells;
      reads = step.reads;
      writes = step.writes;
      later = step.later;
      crash = λ c left. (c, reads.crash c left, none_stored base blocks c c refl);
      nothing_else = λ t c early left. ⊎_elim (λ (was : old.left_since t c). inl was) (λ (now : new.may_leave c). inr (c, reads.crash c now, none_stored base blocks c c refl)) (step.nothing_else t c early left);
      shows = λ told. none_stored base blocks old.shows new.shows reads.shows;
    }

-- a write in a free place
pub write_stores : (base : ℕ) (blocks : Allocation) (old new : Meaning) (block : ℕ) → IsFree blocks block → Step old new → TearsAt (base + block) old.may_leave new.may_leave
    → (IsTrue old.tells → (b : List ℕ) × (new.shows ≡ set old.shows (base + block) b)) → OnlyStores base blocks old new
write_stores base blocks old new block free step tears shows = record {
  size = step.size;
  tells = step.tells;
  reads = step.reads;
  writes = step.writes;
  later = step.later;
  crash = torn;
  nothing_else = λ t c early left. ⊎_elim (λ (was : old.left_since t c). inl was) (λ (now : new.may_leave c). inr (torn c now)) (step.nothing_else t c early left);
  shows = λ told. let s = shows told in one_stored base blocks old.shows new.shows block s.0 free s.1;
}
  where
    torn : (c : Image) → new.may_leave c → LeavesTorn base blocks old c
    torn c left = let from = tears c left in (from.0, from.2, one_stored base blocks from.0 c block from.1 free from.3)

-- stores, and then others in places that were free before too
pub stores_on : (base : ℕ) (blocks later : Allocation) (old mid new : Meaning) → FreeBefore blocks later → OnlyStores base blocks old mid → OnlyStores base later mid new → OnlyStores base blocks old new
stores_on base blocks later old mid new before first second = record {
  size = second.size ∙ first.size;
  tells = second.tells ∙ first.tells;
  reads = omega (arith, first.reads, second.reads);
  writes = omega (arith, first.writes, second.writes);
  later = omega (arith, first.later, second.later);
  crash = λ c left. torn c (second.crash c left);
  nothing_else = λ t c early left.
      ⊎_elim
      (λ (was : mid.left_since t c). first.nothing_else t c early was)
      (λ (now : LeavesTorn base later mid c). inr (torn c now))
      (second.nothing_else t c (omega (arith, early, first.later)) left);
  shows = λ told. stored_on base blocks later old.shows mid.shows new.shows before (first.shows told) (second.shows (subst IsTrue (sym first.tells) told));
}
  where
    torn : (c : Image) → LeavesTorn base later mid c → LeavesTorn base blocks old c
    torn c from =
        let was = first.crash from.0 from.1 in
        (was.0, was.1, stored_on base blocks later was.0 from.0 c before was.2 from.2)

-- a read before them
pub stores_after_read : (base : ℕ) (blocks : Allocation) (old mid new : Meaning) → OnlyReads old mid → OnlyStores base blocks mid new → OnlyStores base blocks old new
stores_after_read base blocks old mid new reads stores = stores_on base blocks blocks old mid new (λ block free. free) (reads_store base blocks old mid reads) stores

-- a fault after them
pub fault_after : (base : ℕ) (blocks : Allocation) (old mid new : Meaning) (fault : Fault) → OnlyStores base blocks old mid → IsWritingFault mid new fault → IsWritingFault old new fault
fault_after base blocks old mid new ReadFault stores rose = omega (arith, stores.reads, rose)
fault_after base blocks old mid new WriteFault stores rose = omega (arith, stores.writes, rose)
fault_after base blocks old mid new NoMemory stores rose = tt

-- the faults of a store
pub after_read_fault : {A : Type 0} (fault : Fault) → fault ≡ ReadFault → ((fault ≡ ReadFault) × A) ⊎ (fault ≡ WriteFault) → A
after_read_fault fault is (inl read) = read.1
after_read_fault fault is (inr write) = absurd (clash fault is write)
  where
    clash : (fault : Fault) → fault ≡ ReadFault → fault ≡ WriteFault → ⊥
    clash fault read write = cc

pub never_without_memory : {A : Type 0} (fault : Fault) → fault ≡ NoMemory → ((fault ≡ ReadFault) × A) ⊎ (fault ≡ WriteFault) → ⊥
never_without_memory fault is (inl read) = clash fault is read.0
  where
    clash : (fault : Fault) → fault ≡ NoMemory → fault ≡ ReadFault → ⊥
    clash fault read write = cc
never_without_memory fault is (inr write) = clash fault is write
  where
    clash : (fault : Fault) → fault ≡ NoMemory → fault ≡ WriteFault → ⊥
    clash fault read write = cc
