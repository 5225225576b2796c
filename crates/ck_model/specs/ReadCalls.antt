-- The calls that tell something and change nothing: what they refuse, in order, and their replies.
use Rattle.std.specs.Prelude.{ℕ, Bool, false, ◌||◌, List, [], ◌∷◌, length, Result, Ok, nat_lt, if◌then◌else◌}
use Rattle.ck_model.specs.declared.checkpoint.CkptLine.{CkptLine}
use Rattle.ck_model.specs.declared.checkpoint.State.{State}
use Rattle.ck_model.specs.declared.checkpoint.State.TheVariants as state
use Rattle.ck_model.specs.declared.reply.Reply.{Reply}
use Rattle.ck_model.specs.declared.reply.Reply.TheVariants.{Bytes, Names, StatDir, StatFile, Listing, Info, Streamed, NotNewer}
use Rattle.ck_model.specs.Refusals.{and_then, refuse_if}
use Rattle.ck_model.specs.Cells.{Cells, is_directory_at, size_at}
use Rattle.ck_model.specs.Walk.{node_at, file_at, directory_at}
use Rattle.ck_model.specs.Contents.{file_range, children}
use Rattle.ck_model.specs.World.{World, Checkpoint, keeps_files}
use Rattle.ck_model.specs.Space.{held, records_in}
use Rattle.ck_model.specs.Streams.{Texts, image, changed}
use Rattle.ck_model.specs.CheckpointCalls.{mounted_id, mounted_checkpoint, standing, with_data}

-- `read`, and `cread` of a checkpoint's map
abbrev pub range_read : Cells → List (List ℕ) → ℕ → ℕ → Result Reply Reply
range_read cells path at len = and_then (file_at cells path) (λ node. Ok (Bytes (file_range cells node at len)))

-- `ls`, and `cls` of a checkpoint's map
abbrev pub names_listed : Cells → List (List ℕ) → Result Reply Reply
names_listed cells path = and_then (directory_at cells path) (λ node. Ok (Names (children cells node)))

-- `stat`
abbrev pub stat_reply : Cells → ℕ → Reply
stat_reply cells node =
    if is_directory_at cells node then StatDir node (length (children cells node)) else StatFile node (size_at cells node)

abbrev pub status_of : Cells → List (List ℕ) → Result Reply Reply
status_of cells path = and_then (node_at cells path) (λ node. Ok (stat_reply cells node))

-- a nodata checkpoint is delayed while an older one keeps data
abbrev pub state_of : Bool → Checkpoint → State
state_of older checkpoint =
    if keeps_files checkpoint.kind then state.Keeping else (if older then state.Delayed else state.Nodata)

-- the lines of these checkpoints, where an older one keeps data or not
abbrev pub lines_of : Bool → List Checkpoint → List CkptLine
lines_of older [] = []
lines_of older (checkpoint ∷ newer) =
    record {
      id = checkpoint.id;
      state = state_of older checkpoint;
      removable = checkpoint.removable;
      ctime = checkpoint.ctime;
      name = checkpoint.name;
    } ∷ lines_of (older || keeps_files checkpoint.kind) newer

-- `ckpts`
abbrev pub listing_of : World → Reply
listing_of w = Listing (lines_of false w.checkpoints)

-- `info`
abbrev pub info_of : World → Reply
info_of w = Info (held w) w.limits.blocks (records_in w) w.limits.records (length w.checkpoints)

-- `cread`
abbrev pub checkpoint_read : World → ℕ → ℕ → List (List ℕ) → ℕ → ℕ → Result Reply Reply
checkpoint_read w actor letter path at len =
    and_then (mounted_checkpoint w actor letter) (λ mounted.
    and_then (with_data mounted) (λ checkpoint. range_read checkpoint.cells path at len))

-- `cls`
abbrev pub checkpoint_names : World → ℕ → ℕ → List (List ℕ) → Result Reply Reply
checkpoint_names w actor letter path =
    and_then (mounted_checkpoint w actor letter) (λ checkpoint. names_listed checkpoint.cells path)

-- `full`
abbrev pub full_stream : Texts → World → ℕ → ℕ → Result Reply Reply
full_stream texts w actor letter =
    and_then (mounted_checkpoint w actor letter) (λ mounted.
    and_then (with_data mounted) (λ checkpoint.
    let items = image checkpoint.cells in
    Ok (Streamed (length items) (texts.full checkpoint.id items))))

-- `backup`
abbrev pub changed_stream : Texts → World → ℕ → ℕ → ℕ → Result Reply Reply
changed_stream texts w actor letter later_letter =
    and_then (mounted_id w actor letter) (λ first.
    and_then (mounted_id w actor later_letter) (λ second.
    and_then (standing w first) (λ earlier.
    and_then (standing w second) (λ mounted.
    refuse_if (nat_lt second first) (NotNewer first second)
    (and_then (with_data mounted) (λ later.
    let items = changed earlier.cells later.cells in
    Ok (Streamed (length items) (texts.changes first second items))))))))
