-- The checkpoint with a name, changed.
use Rattle.std.specs.Prelude.{ℕ, Bool, List, if◌then◌else◌}
use Rattle.ck_model.specs.World.{Checkpoint, is_named}

-- changed where it has this name
abbrev pub changed_named : List ℕ → (Checkpoint → Checkpoint) → Checkpoint → Checkpoint
changed_named name change checkpoint = if is_named name checkpoint then change checkpoint else checkpoint

abbrev pub with_removable : Bool → Checkpoint → Checkpoint
with_removable on checkpoint = record checkpoint { removable = on }
