-- Worlds: the primary map, the checkpoints with maps of their own, and what the next numbers are.
use Rattle.std.specs.Prelude.{ℕ, Bool, true, false, not, List, [], ◌∷◌, nat_eq, filter}
use Rattle.std.specs.declared.cmp.Ordering.{Ordering}
use Rattle.std.specs.Ordering.{nat_cmp, on}
use Rattle.std.specs.Cmp.Lexicographic.{slice_cmp, pointwise}
use Rattle.std.specs.FinMap as map
use Rattle.ck_model.specs.declared.key.Key.TheVariants.{Node}
use Rattle.ck_model.specs.declared.cell.Payload.TheVariants.{Dir}
use Rattle.ck_model.specs.declared.checkpoint.Kind.{Kind}
use Rattle.ck_model.specs.declared.checkpoint.Kind.TheVariants.{Keeping, Nodata}
use Rattle.ck_model.specs.declared.checkpoint.Counters.{Counters}
use Rattle.ck_model.specs.declared.checkpoint.Limits.{Limits}
use Rattle.ck_model.specs.Cells.{Cells, marked, with_cells}
use Rattle.ck_model.specs.Changes.{cell_of}

-- a frozen image, with the moment at which it was made
pub record Checkpoint : Type 0 where
  pub id : ℕ
  pub name : List ℕ
  pub kind : Kind
  pub removable : Bool
  pub ctime : ℕ
  pub cells : Cells

-- by actor, and then by letter
abbrev pub mount_cmp : ℕ × ℕ → ℕ × ℕ → Ordering
mount_cmp = on (λ mount. mount.0 ∷ mount.1 ∷ []) (slice_cmp nat_cmp)

-- from an actor and a letter to a checkpoint's id
abbrev pub Mounts : Type 0
Mounts = map.FinMap mount_cmp ℕ

-- the checkpoints stand oldest first
pub record World : Type 0 where
  pub limits : Limits
  pub primary : Cells
  pub checkpoints : List Checkpoint
  pub next : Counters
  pub mounts : Mounts

-- the root directory alone
abbrev pub root_cells : Cells
root_cells = with_cells map.empty ((Node 0, cell_of 0 Dir) ∷ [])

abbrev pub empty_world : Limits → World
empty_world limits = record {
  limits = limits;
  primary = root_cells;
  checkpoints = [];
  next = record { stamp = 1; id = 1; number = 1 };
  mounts = map.empty;
}

abbrev pub unmounted : World → World
unmounted w = record w { mounts = map.empty }

abbrev pub keeps_files : Kind → Bool
keeps_files Keeping = true
keeps_files Nodata = false

abbrev pub is_named : List ℕ → Checkpoint → Bool
is_named name checkpoint = pointwise nat_eq checkpoint.name name

abbrev pub has_id : ℕ → Checkpoint → Bool
has_id id checkpoint = nat_eq checkpoint.id id

-- the world without the checkpoint with this id
abbrev pub without_checkpoint : World → ℕ → World
without_checkpoint w id = record w { checkpoints = filter (λ checkpoint. not (has_id id checkpoint)) w.checkpoints }

-- what a checkpoint of this kind shows of a map
abbrev pub shown_by : Kind → Cells → Cells
shown_by Keeping cells = cells
shown_by Nodata cells = marked cells
