-- What a call does to the device that stores data blocks in free places.
use Rattle.std.specs.Prelude.{◌≡◌, ◌≤◌, ◌⊎◌, ℕ, ◌+◌, List, [], ◌∷◌, IsTrue, set}
use Rattle.std.specs.List.{AllByRecursion}
use Rattle.ck_disk.specs.Disk.{Image, Meaning}
use Rattle.ck_alloc.specs.Blocks.{Allocation, IsFree}

-- a data block, and the bytes that it gets
pub record StoredBlock : Type 0 where
  pub block : ℕ
  pub bytes : List ℕ

-- the image with these data blocks stored, one after the other
abbrev pub with_stored : ℕ → Image → List StoredBlock → Image
with_stored base image [] = image
with_stored base image (one ∷ more) = with_stored base (set image (base + one.block) one.bytes) more

-- the image is that one with free data blocks replaced by anything, or with none
pub record StoredOrSame (base : ℕ) (blocks : Allocation) (old new : Image) : Type 0 where
  pub stored : List StoredBlock
  pub free : AllByRecursion (λ one. IsFree blocks one.block) stored
  pub is : new ≡ with_stored base old stored

-- the image is one that could be left, or such a one with free data blocks torn
abbrev pub LeavesTorn : ℕ → Allocation → Meaning → Image → Type 0
LeavesTorn base blocks m c = (d : Image) × m.may_leave d × StoredOrSame base blocks d c

-- nothing but free data blocks is written
pub record OnlyStores (base : ℕ) (blocks : Allocation) (old new : Meaning) : Type 0 where
  pub size : new.size ≡ old.size
  pub tells : new.tells ≡ old.tells
  pub reads : old.read_faults ≤ new.read_faults
  pub writes : old.write_faults ≤ new.write_faults
  pub later : old.moment ≤ new.moment
  -- what a crash leaves now, and what it might have left at a moment in between
  pub crash : (c : Image) → new.may_leave c → LeavesTorn base blocks old c
  pub nothing_else : (t : ℕ) (c : Image) → t ≤ old.moment → new.left_since t c → old.left_since t c ⊎ LeavesTorn base blocks old c
  pub shows : IsTrue old.tells → StoredOrSame base blocks old.shows new.shows
