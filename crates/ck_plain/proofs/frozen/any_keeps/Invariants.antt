use Rattle.std.proofs.Common.{◌≡◌, drop, map as list_map}
use Rattle.ck_model.specs.CheckpointCalls.{any_keeps}
use Rattle.ck_plain.specs.Plain.{checkpoint_of}
use Rattle.ck_plain.proofs.frozen.any_keeps.Given as goal

abbrev pub invariant-loop-checkpoint : goal.invariant-loop-checkpoint
invariant-loop-checkpoint l =
    any_keeps (list_map checkpoint_of l.checkpoints) ≡ any_keeps (list_map checkpoint_of (drop l.checkpoint-index l.checkpoints))
