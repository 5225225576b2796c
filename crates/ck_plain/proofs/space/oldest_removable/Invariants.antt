use Rattle.std.proofs.Common.{◌≡◌, drop, map as list_map}
use Rattle.ck_model.specs.Space.{oldest_removable}
use Rattle.ck_plain.specs.Plain.{checkpoint_of}
use Rattle.ck_plain.proofs.space.oldest_removable.Given as goal

abbrev pub invariant-loop-checkpoint : goal.invariant-loop-checkpoint
invariant-loop-checkpoint l =
    oldest_removable l.keeps (list_map checkpoint_of l.checkpoints) ≡ oldest_removable l.keeps (list_map checkpoint_of (drop l.checkpoint-index l.checkpoints))
