-- What a disk of blocks means at a moment, and what its calls do to that.
use Rattle.std.specs.Prelude.{◌≡◌, ◌≢◌, ◌⊎◌, ◌<◌, ◌≤◌, ◌+◌, ◌-◌, ◌^◌, ℕ, min, Bool, false, IsTrue, All, List, [], length, get_or, set}

-- blocks, each a list of bytes
abbrev pub Image : Type 0
Image = List (List ℕ)

-- how many bytes a block has
abbrev pub block_len : ℕ
block_len = 4096

-- as many as a block has
abbrev pub IsBlock : List ℕ → Type 0
IsBlock bytes = length bytes ≡ block_len

-- each block of the image has 4,096 bytes
abbrev pub AreBlocks : Image → Type 0
AreBlocks image = All IsBlock image

-- What a disk is at a moment. A disk that tells nothing of its content has any values at `shows` and at its images.
pub record Meaning : Type 1 where
  -- it tells what reads give
  pub tells : Bool
  -- what reads give, where it tells
  pub shows : Image
  -- what a crash at this moment may leave
  pub may_leave : Image → Type 0
  -- the blocks that were written since the last sync that succeeded
  pub written : ℕ → Bool
  -- the moment, a number that doesn't fall
  pub moment : ℕ
  -- what a crash at some moment from that one on might have left, inside a call too
  pub left_since : ℕ → Image → Type 0
  -- how many blocks it has
  pub size : ℕ
  -- how many reads have failed, and how many writes and syncs; a count that can't grow stays at its end
  pub read_faults : ℕ
  pub write_faults : ℕ

-- the same length, and the same block at each place in K
pub record Agrees (K : ℕ → Type 0) (d c : Image) : Type 0 where
  pub size : length c ≡ length d
  pub at : (k : ℕ) → K k → get_or c k [] ≡ get_or d k []

-- a place that wasn't written since the last sync that succeeded
abbrev pub IsClean : Meaning → ℕ → Type 0
IsClean m k = m.written k ≡ false

-- no write stands on the disk since its last sync that succeeded
abbrev pub IsSynced : Meaning → Type 0
IsSynced m = (k : ℕ) → IsClean m k

-- what holds of a disk at every moment
pub record Lawful (m : Meaning) : Type 0 where
  -- this moment is one of those since an earlier one
  pub counts_now : (t : ℕ) (c : Image) → t ≤ m.moment → m.may_leave c → m.left_since t c
  -- since this moment there is no other
  pub only_now : (c : Image) → m.left_since m.moment c → m.may_leave c
  -- what a crash at any moment might have left, or may leave now, consists of blocks
  pub blocks : (t : ℕ) (c : Image) → m.left_since t c → AreBlocks c
  -- what reads give is an image that a crash may leave
  pub shown : IsTrue m.tells → m.may_leave m.shows
  -- an image that a crash may leave agrees with what reads give on every block that wasn't written since the last sync
  pub clean : IsTrue m.tells → (c : Image) → m.may_leave c → Agrees (IsClean m) m.shows c
  -- and every block that was written since then may hold any bytes
  pub torn : IsTrue m.tells → (c : Image) → AreBlocks c → Agrees (IsClean m) m.shows c → m.may_leave c
  -- what reads give has all blocks
  pub whole : IsTrue m.tells → length m.shows ≡ m.size
  pub fits : m.size < 2 ^ 32

-- it tells that it has these blocks, no write stands on it, and none of its calls has failed
pub record IsFresh (image : Image) (m : Meaning) : Type 0 where
  pub tells : IsTrue m.tells
  pub shows : m.shows ≡ image
  pub synced : IsSynced m
  pub reads : m.read_faults ≡ 0
  pub writes : m.write_faults ≡ 0

-- what every call does
pub record Step (old new : Meaning) : Type 0 where
  pub size : new.size ≡ old.size
  pub tells : new.tells ≡ old.tells
  pub reads : old.read_faults ≤ new.read_faults
  pub writes : old.write_faults ≤ new.write_faults
  pub later : old.moment ≤ new.moment
  -- a crash since t might have left what it might have left before, or what it may leave now
  pub nothing_else : (t : ℕ) (c : Image) → t ≤ old.moment → new.left_since t c → old.left_since t c ⊎ new.may_leave c
  pub keeps : (t : ℕ) (c : Image) → t ≤ old.moment → old.left_since t c → new.left_since t c

-- each of these images is one of those
abbrev pub Within : (Image → Type 0) → (Image → Type 0) → Type 0
Within some all = (c : Image) → some c → all c

-- each new image is an old one with the block at that place replaced by anything
abbrev pub TearsAt : ℕ → (Image → Type 0) → (Image → Type 0) → Type 0
TearsAt at old new = (c : Image) → new c → (d : Image) × (b : List ℕ) × old d × (c ≡ set d at b)

-- a crash leaves this and nothing else
abbrev pub Only : Image → (Image → Type 0) → Type 0
Only image all = (c : Image) → all c → c ≡ image

-- a block that wasn't written is still so
abbrev pub KeepsClean : (ℕ → Bool) → (ℕ → Bool) → Type 0
KeepsClean old new = (k : ℕ) → old k ≡ false → new k ≡ false

-- the same of every block but one
abbrev pub KeepsCleanBut : ℕ → (ℕ → Bool) → (ℕ → Bool) → Type 0
KeepsCleanBut at old new = (k : ℕ) → k ≢ at → old k ≡ false → new k ≡ false

-- a count of faults rose, or stands at its end
abbrev pub Rose : ℕ → ℕ → Type 0
Rose before now = min (before + 1) (2 ^ 64 - 1) ≤ now

-- A crash at any moment since old leaves an image that has P.
pub record LeavesOnly (old new : Meaning) (P : Image → Type 0) : Type 0 where
  pub size : new.size ≡ old.size
  pub tells : new.tells ≡ old.tells
  pub reads : old.read_faults ≤ new.read_faults
  pub writes : old.write_faults ≤ new.write_faults
  pub later : old.moment ≤ new.moment
  pub each : (c : Image) → new.left_since old.moment c → P c
  -- for a run that began earlier
  pub before : (t : ℕ) (c : Image) → t ≤ old.moment → new.left_since t c → old.left_since t c ⊎ P c

-- the places outside n blocks from that one on
abbrev pub Outside : ℕ → ℕ → ℕ → Type 0
Outside from n k = (k < from) ⊎ (from + n ≤ k)

-- one of those images, but for the places outside K
abbrev pub Reaches : (ℕ → Type 0) → (Image → Type 0) → Image → Type 0
Reaches K all c = (d : Image) × all d × Agrees K d c
