use Rattle.std.proofs.Common.{◌≡◌, drop, map as list_map}
use Rattle.std.specs.List.{find}
use Rattle.ck_model.specs.World.{is_named}
use Rattle.ck_plain.specs.Plain.{checkpoint_of}
use Rattle.ck_plain.proofs.frozen.find_named.Given as goal

abbrev pub invariant-loop-checkpoint : goal.invariant-loop-checkpoint
invariant-loop-checkpoint l =
    find (is_named l.name) (list_map checkpoint_of l.checkpoints)
    ≡ find (is_named l.name) (list_map checkpoint_of (drop l.checkpoint-index l.checkpoints))
