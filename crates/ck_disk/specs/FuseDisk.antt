-- A disk with a fuse: what it has, and what it means over the disk below.
use Rattle.std.specs.Prelude.{ℕ}
use Rattle.ck_disk.specs.Disk.{Meaning, Lawful}
use Rattle.ck_disk.specs.Lost.{places_of, but_lost}
use Rattle.ck_disk.specs.LostLaws.{but_lost_lawful}
use Rattle.ck_disk.specs.declared.fuse_disk.FuseDisk.{FuseDisk}

-- the disk below
abbrev pub inner_of : {D : Type 0} → FuseDisk D → D
inner_of f = f.inner

-- how many calls it still passes
abbrev pub passes_of : {D : Type 0} → FuseDisk D → ℕ
passes_of f = f.passes

-- the calls that it failed itself: reads, and writes and syncs
abbrev pub own_faults_of : {D : Type 0} → FuseDisk D → ℕ × ℕ
own_faults_of f = (f.read_faults, f.write_faults)

-- what the disk below means, with those failures beside its own, and the blocks whose writes it failed
abbrev pub meaning : {D : Type 0} → (D → Meaning) → FuseDisk D → Meaning
meaning means f = but_lost (places_of f.lost) f.read_faults f.write_faults (means f.inner)

pub lawful_meaning : {D : Type 0} (means : D → Meaning) → ((disk : D) → Lawful (means disk)) → (f : FuseDisk D) → Lawful (meaning means f)
lawful_meaning means lawful f = but_lost_lawful (places_of f.lost) f.read_faults f.write_faults (means f.inner) (lawful f.inner)
