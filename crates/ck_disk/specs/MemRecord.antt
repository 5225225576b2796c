-- A disk in memory: its blocks, and a record of its writes and syncs from which each earlier moment is made again.
use Rattle.std.specs.Prelude.{◌≡◌, ◌≤◌, ◌||◌, ℕ, Bool, true, false, nat_eq, List, [], ◌∷◌, length, get_or, set, take, drop}
use Rattle.ck_disk.specs.Disk.{Image, Meaning, AreBlocks}
use Rattle.ck_disk.specs.declared.mem_disk.MemStep.{MemStep}
use Rattle.ck_disk.specs.declared.mem_disk.MemStep.TheVariants.{Write, Sync}

-- what the blocks were before these steps, the oldest first; a write keeps what stood there
abbrev pub undone : List MemStep → Image → Image
undone [] blocks = blocks
undone (Write at was ∷ steps) blocks = set (undone steps blocks) at was
undone (Sync ∷ steps) blocks = undone steps blocks

-- whether block k was written since the last sync
abbrev pub is_written : List MemStep → ℕ → Bool → Bool
is_written [] k so_far = so_far
is_written (Write at was ∷ steps) k so_far = is_written steps k (nat_eq at k || so_far)
is_written (Sync ∷ steps) k so_far = is_written steps k false

-- these blocks, but that those written since the last sync may hold any bytes
pub record IsLeft (steps : List MemStep) (blocks c : Image) : Type 0 where
  pub size : length c ≡ length blocks
  pub consists : AreBlocks c
  pub same : (k : ℕ) → is_written steps k false ≡ false → get_or c k [] ≡ get_or blocks k []

-- a crash at the moment k might have left it
pub record LeftAt (steps : List MemStep) (blocks : Image) (t k : ℕ) (c : Image) : Type 0 where
  pub since : t ≤ k
  pub till : k ≤ length steps
  pub image : IsLeft (take k steps) (undone (drop k steps) blocks) c

abbrev pub mem_means : List MemStep → Image → ℕ → ℕ → Meaning
mem_means steps blocks reads writes = record {
  tells = true;
  shows = blocks;
  may_leave = IsLeft steps blocks;
  written = λ k. is_written steps k false;
  moment = length steps;
  left_since = λ t c. (k : ℕ) × LeftAt steps blocks t k c;
  size = length blocks;
  read_faults = reads;
  write_faults = writes;
}
