-- Blocks whose writes failed, and what a crash leaves in them.
use Rattle.std.specs.Prelude.{◌≡◌, ◌⊎◌, ◌||◌, ◌+◌, ℕ, Bool, nat_eq, List, [], ◌∷◌, set}
use Rattle.ck_disk.specs.Disk.{Image, Meaning, IsBlock}
use Rattle.ck_disk.specs.declared.lost.Lost.{Lost, Nothing, More'}

-- their numbers
abbrev pub places_of : Lost → List ℕ
places_of Nothing = []
places_of (More' shape before at) = at.value ∷ places_of before

-- one of those images, but that these blocks may hold any bytes
abbrev pub LeftBut : List ℕ → (Image → Type 0) → Image → Type 0
LeftBut [] all c = all c
LeftBut (at ∷ places) all c = (d : Image) × (b : List ℕ) × IsBlock b × LeftBut places all d × (c ≡ set d at b)

-- block k is one of these, or was written before
abbrev pub is_written_with : List ℕ → (ℕ → Bool) → ℕ → Bool
is_written_with [] written k = written k
is_written_with (at ∷ places) written k = nat_eq at k || is_written_with places written k

-- What a disk means once writes to these blocks failed that it wasn't asked for, with so many more failed reads, and
-- failed writes and syncs. These blocks count as written.
abbrev pub but_lost : List ℕ → ℕ → ℕ → Meaning → Meaning
but_lost places reads writes m = record {
  tells = m.tells;
  shows = m.shows;
  may_leave = LeftBut places m.may_leave;
  written = is_written_with places m.written;
  moment = m.moment;
  left_since = λ t c. m.left_since t c ⊎ LeftBut places m.may_leave c;
  size = m.size;
  read_faults = m.read_faults + reads;
  write_faults = m.write_faults + writes;
}
