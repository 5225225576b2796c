-- The calls on checkpoints and mounts: what they refuse, in order, and the world after them.
use Rattle.std.specs.Prelude.{ℕ, ◌+◌, Bool, not, List, [], ◌∷◌, ◌++◌, length, Result, Ok, nat_eq, nat_le, if◌then◌else◌, find, map as list_map, take_while}
use Rattle.std.specs.List.{list_any}
use Rattle.std.specs.Option.{ok_or}
use Rattle.std.specs.FinMap as map
use Rattle.ck_model.specs.declared.checkpoint.Kind.{Kind}
use Rattle.ck_model.specs.declared.checkpoint.Kind.TheVariants.{Keeping, Nodata}
use Rattle.ck_model.specs.declared.reply.Reply.{Reply}
use Rattle.ck_model.specs.declared.reply.Reply.TheVariants.{Exists, TooMany, Spent, NoCkpt, InUse, NotMounted, Gone, NoData, NotData}
use Rattle.ck_model.specs.Refusals.{and_then, refuse_if}
use Rattle.ck_model.specs.Cells.{marked}
use Rattle.ck_model.specs.World.{World, Checkpoint, keeps_files, is_named, has_id, shown_by, without_checkpoint}

abbrev pub kind_of : Bool → Kind
kind_of nodata = if nodata then Nodata else Keeping

-- the world with a new checkpoint, whose map is a copy of the primary's
abbrev pub frozen_world : List ℕ → Bool → Bool → ℕ → World → World
frozen_world name nodata removable at w = record w {
  checkpoints = w.checkpoints ++ record {
    id = w.next.id;
    name = name;
    kind = kind_of nodata;
    removable = removable;
    ctime = at;
    cells = shown_by (kind_of nodata) w.primary;
  } ∷ [];
  next = record (w.next) { id = w.next.id + 1 };
}

-- `create` refuses, or its new id
abbrev pub new_id : World → List ℕ → Result ℕ Reply
new_id w name =
    refuse_if (list_any (is_named name) w.checkpoints) Exists
    (refuse_if (nat_le w.limits.checkpoints (length w.checkpoints)) (TooMany w.limits.checkpoints)
    (refuse_if (nat_eq w.next.id 4294967295) Spent
    (Ok w.next.id)))

abbrev pub checkpoint_named : World → List ℕ → Result Checkpoint Reply
checkpoint_named w name = ok_or (find (is_named name) w.checkpoints) NoCkpt

-- those that are older than the one with this name
abbrev pub older_than : World → List ℕ → List Checkpoint
older_than w name = take_while (λ checkpoint. not (is_named name checkpoint)) w.checkpoints

-- one of these is a data checkpoint
abbrev pub any_keeps : List Checkpoint → Bool
any_keeps checkpoints = list_any (λ checkpoint. keeps_files checkpoint.kind) checkpoints

-- the one with this name, changed so
abbrev pub with_changed : World → List ℕ → (Checkpoint → Checkpoint) → World
with_changed w name change =
    record w { checkpoints = list_map (λ checkpoint. if is_named name checkpoint then change checkpoint else checkpoint) w.checkpoints }

abbrev pub as_nodata : Checkpoint → Checkpoint
as_nodata checkpoint = record checkpoint { kind = Nodata; cells = marked checkpoint.cells }

-- `remove`
abbrev pub dropped : World → List ℕ → Result World Reply
dropped w name = and_then (checkpoint_named w name) (λ checkpoint. Ok (without_checkpoint w checkpoint.id))

-- `removable`
abbrev pub with_flag : World → List ℕ → Bool → Result World Reply
with_flag w name on =
    and_then (checkpoint_named w name) (λ _. Ok (with_changed w name (λ checkpoint. record checkpoint { removable = on })))

-- `restore`: it and all newer ones leave
abbrev pub restored : World → List ℕ → Result World Reply
restored w name =
    and_then (checkpoint_named w name) (λ checkpoint.
    refuse_if (not (keeps_files checkpoint.kind)) NotData
    (Ok (record w { primary = checkpoint.cells; checkpoints = older_than w name })))

-- `mount`
abbrev pub mounted : World → ℕ → ℕ → List ℕ → Result World Reply
mounted w actor letter name =
    and_then (checkpoint_named w name) (λ checkpoint.
    refuse_if (map.contains_key w.mounts (actor, letter)) InUse
    (Ok (record w { mounts = map.insert w.mounts (actor, letter) checkpoint.id })))

-- the id that an actor's letter stands for
abbrev pub mounted_id : World → ℕ → ℕ → Result ℕ Reply
mounted_id w actor letter = ok_or (map.get w.mounts (actor, letter)) NotMounted

-- `umount`
abbrev pub dismounted : World → ℕ → ℕ → Result World Reply
dismounted w actor letter =
    and_then (mounted_id w actor letter) (λ _. Ok (record w { mounts = map.remove w.mounts (actor, letter) }))

-- the checkpoint with this id
abbrev pub standing : World → ℕ → Result Checkpoint Reply
standing w id = ok_or (find (has_id id) w.checkpoints) (Gone id)

-- the mounted checkpoint
abbrev pub mounted_checkpoint : World → ℕ → ℕ → Result Checkpoint Reply
mounted_checkpoint w actor letter = and_then (mounted_id w actor letter) (standing w)

-- the mounted checkpoint, which has data
abbrev pub with_data : Checkpoint → Result Checkpoint Reply
with_data checkpoint = refuse_if (not (keeps_files checkpoint.kind)) (NoData checkpoint.id) (Ok checkpoint)
