use Rattle.std.proofs.Common.{◌≡◌, drop, map as list_map}
use Rattle.std.specs.List.{list_any}
use Rattle.ck_model.specs.World.{is_named}
use Rattle.ck_plain.specs.Plain.{checkpoint_of}
use Rattle.ck_plain.proofs.frozen.any_named.Given as goal

abbrev pub invariant-loop-checkpoint : goal.invariant-loop-checkpoint
invariant-loop-checkpoint l =
    list_any (is_named l.name) (list_map checkpoint_of l.checkpoints)
    ≡ list_any (is_named l.name) (list_map checkpoint_of (drop l.checkpoint-index l.checkpoints))
