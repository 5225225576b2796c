-- What a table's world is told of: its limits, and the lines of its checkpoints.
use Rattle.std.specs.Prelude.{ℕ, Bool, ◌||◌, List, [], ◌∷◌, Option, Some, None, if◌then◌else◌}
use Rattle.std.specs.Option.{option_and_then, option_map_or}
use Rattle.std.specs.FinMap as map
use Rattle.ck_model.specs.declared.checkpoint.CkptLine.{CkptLine}
use Rattle.ck_model.specs.declared.checkpoint.Fileset.{Fileset}
use Rattle.ck_model.specs.declared.checkpoint.Kind.{Kind}
use Rattle.ck_model.specs.declared.checkpoint.Limits.{Limits}
use Rattle.ck_model.specs.declared.checkpoint.State.{State}
use Rattle.ck_model.specs.declared.checkpoint.State.TheVariants as state
use Rattle.ck_model.specs.World.{keeps_files}
use Rattle.ck_model.specs.Table.{Table}
use Rattle.ck_model.specs.Limits.{checkpoint_limit}

abbrev pub limits_of : Table → Limits
limits_of t = record { blocks = t.blocks; records = t.records; checkpoints = checkpoint_limit }

-- a nodata checkpoint is delayed while an older one keeps data
abbrev pub state_shown : Bool → Kind → State
state_shown older kind = if keeps_files kind then state.Keeping else (if older then state.Delayed else state.Nodata)

-- the line of a checkpoint, where an older one keeps data or not
abbrev pub line_on : Bool → ℕ → Fileset → CkptLine
line_on older id fileset = record {
  id = id;
  state = state_shown older fileset.kind;
  removable = fileset.removable;
  ctime = fileset.ctime;
  name = fileset.name;
}

-- the record of the checkpoint with this id, unless it is gone
abbrev pub standing_at : Table → ℕ → Option Fileset
standing_at t id = option_and_then (λ fileset. if fileset.gone then None else Some fileset) (map.get t.filesets id)

-- the lines of those of these checkpoints that stand
abbrev pub listed : Table → Bool → List ℕ → List CkptLine
listed t older [] = []
listed t older (id ∷ ids) =
    option_map_or (λ fileset. line_on older id fileset ∷ listed t (older || keeps_files fileset.kind) ids) (standing_at t id) (listed t older ids)
