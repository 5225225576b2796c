-- A disk over a file: what it means, and its counts.
use Rattle.std.specs.Prelude.{◌+◌, ◌-◌, ◌^◌, ℕ, min}
use Rattle.ck_disk.specs.Disk.{Meaning}
use Rattle.ck_disk.specs.Silent.{silent}
use Rattle.ck_disk.specs.declared.file_disk.FileDisk.{FileDisk}

-- its number of blocks and its counts of faults, and nothing of its content
abbrev pub meaning : FileDisk → Meaning
meaning f = silent f.size f.read_faults f.write_faults

-- the calls that failed: reads, and writes and syncs
abbrev pub faults_of : FileDisk → ℕ × ℕ
faults_of f = (f.read_faults, f.write_faults)

-- one more read has failed; a count stays at the end of its type
abbrev pub one_read_more : ℕ × ℕ → ℕ × ℕ
one_read_more faults = (min (faults.0 + 1) (2 ^ 64 - 1), faults.1)

-- one more write or sync has failed
abbrev pub one_write_more : ℕ × ℕ → ℕ × ℕ
one_write_more faults = (faults.0, min (faults.1 + 1) (2 ^ 64 - 1))
