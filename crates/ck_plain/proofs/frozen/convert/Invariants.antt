use Rattle.std.proofs.Common.{◌≡◌, ◌++◌, take, drop, map as list_map}
use Rattle.ck_model.specs.CheckpointCalls.{as_nodata}
use Rattle.ck_plain.specs.Plain.{checkpoint_of}
use Rattle.ck_plain.specs.Named.{changed_named}
use Rattle.ck_plain.proofs.frozen.convert.Given as goal

abbrev pub invariant-loop-checkpoint : goal.invariant-loop-checkpoint
invariant-loop-checkpoint l =
    list_map checkpoint_of l.checkpoint-items
    ≡ list_map (changed_named l.name as_nodata) (take l.checkpoint-index (list_map checkpoint_of l.initial.checkpoint-items))
    ++ drop l.checkpoint-index (list_map checkpoint_of l.initial.checkpoint-items)
