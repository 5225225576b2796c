use Rattle.std.proofs.Common.{◌≡◌, drop, map as list_map}
use Rattle.std.specs.List.{find}
use Rattle.ck_model.specs.World.{has_id}
use Rattle.ck_plain.specs.Plain.{checkpoint_of}
use Rattle.ck_plain.proofs.frozen.find_id.Given as goal

abbrev pub invariant-loop-checkpoint : goal.invariant-loop-checkpoint
invariant-loop-checkpoint l =
    find (has_id l.id) (list_map checkpoint_of l.checkpoints)
    ≡ find (has_id l.id) (list_map checkpoint_of (drop l.checkpoint-index l.checkpoints))
