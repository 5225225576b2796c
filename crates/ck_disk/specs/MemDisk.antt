-- What a disk in memory has, and what a crash makes of it.
use Rattle.std.specs.Prelude.{◌≡◌, ◌<◌, ◌+◌, ◌-◌, ◌^◌, ℕ, min, true, nat_eq, if◌then◌else◌, List, [], ◌∷◌, length, get_or}
use Rattle.ck_disk.specs.Disk.{Image, Meaning, IsClean}
use Rattle.ck_disk.specs.MemRecord.{mem_means}
use Rattle.ck_disk.specs.declared.mem_disk.MemDisk.{MemDisk}
use Rattle.ck_disk.specs.declared.mem_disk.Torn.{Torn}

-- what it means as a disk
abbrev pub meaning : MemDisk → Meaning
meaning m = mem_means m.steps.items m.blocks.items m.read_faults m.write_faults

-- the numbers of the calls that fail
abbrev pub fails_of : MemDisk → List ℕ
fails_of m = m.fails.items

-- how many calls were made: reads, writes and syncs
abbrev pub calls_of : MemDisk → ℕ
calls_of m = m.calls

-- one call more, and the same numbers of those that fail; the count stays at the end of its type
pub record CountsCall (old new : MemDisk) : Type 0 where
  pub calls : calls_of new ≡ min (calls_of old + 1) (2 ^ 64 - 1)
  pub fails : fails_of new ≡ fails_of old

-- no call failed in between
pub record SameFaults (old new : Meaning) : Type 0 where
  pub reads : new.read_faults ≡ old.read_faults
  pub writes : new.write_faults ≡ old.write_faults

-- the last of these bytes that are for block k, or else what stood there
abbrev pub torn_bytes : List Torn → ℕ → List ℕ → List ℕ
torn_bytes [] k stood = stood
torn_bytes (one ∷ rest) k stood = torn_bytes rest k (if nat_eq one.at k then one.bytes else stood)

-- The image has the torn bytes in each block that was written since the last sync, and the other blocks as reads gave
-- them.
pub record IsTornBy (torn : List Torn) (m : Meaning) (c : Image) : Type 0 where
  pub size : length c ≡ length m.shows
  pub written : (k : ℕ) → k < length c → m.written k ≡ true → get_or c k [] ≡ torn_bytes torn k (get_or m.shows k [])
  pub clean : (k : ℕ) → IsClean m k → get_or c k [] ≡ get_or m.shows k []
