-- The names of checkpoints in a script.
use Rattle.std.specs.Prelude.{List, ⊤}
use Rattle.std.specs.List.{AllByRecursion}
use Rattle.ck_model.specs.Name.{IsCheckpointName}
use Rattle.ck_model.specs.declared.call.Call.{Call}
use Rattle.ck_model.specs.declared.call.Call.TheVariants.{Create, Remove, Nodata, Removable, Mount, Restore}
use Rattle.ck_script.specs.declared.line.Line.{Line}

-- where the call names a checkpoint, by a name that a checkpoint may have
abbrev pub HasValidName : Call → Type 0
HasValidName (Create name nodata removable) = IsCheckpointName name
HasValidName (Remove name) = IsCheckpointName name
HasValidName (Nodata name synchronous) = IsCheckpointName name
HasValidName (Removable name on) = IsCheckpointName name
HasValidName (Mount letter name) = IsCheckpointName name
HasValidName (Restore name) = IsCheckpointName name
HasValidName _ = ⊤

-- so does the call of each line
abbrev pub HaveValidNames : List Line → Type 0
HaveValidNames lines = AllByRecursion (λ line. HasValidName line.call) lines
