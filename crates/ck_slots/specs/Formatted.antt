-- What the table of a new volume stands for.
use Rattle.std.specs.Prelude.{◌≡◌}
use Rattle.std.specs.FinMap as map
use Rattle.ck_model.specs.Table.{Table}
use Rattle.ck_model.specs.World.{empty_world}
use Rattle.ck_model.specs.Values.{Store}
use Rattle.ck_model.specs.TableWorld.{world_on}
use Rattle.ck_model.specs.Limits.{checkpoint_limit}

-- over any data blocks it stands for the empty world
abbrev pub StandsForEmpty : Table → Type 0
StandsForEmpty t = (store : Store) → world_on store map.empty t ≡ empty_world (record { blocks = t.blocks; records = t.records; checkpoints = checkpoint_limit })
