use Rattle.std.proofs.Common.{◌≡◌, ◌++◌, false, drop, map as list_map}
use Rattle.ck_model.specs.ReadCalls.{lines_of}
use Rattle.ck_plain.specs.Plain.{checkpoint_of}
use Rattle.ck_plain.proofs.reports.lines_of.Given as goal

abbrev pub invariant-loop-checkpoint : goal.invariant-loop-checkpoint
invariant-loop-checkpoint l =
    lines_of false (list_map checkpoint_of l.checkpoints)
    ≡ l.lines.items ++ lines_of l.older (list_map checkpoint_of (drop l.checkpoint-index l.checkpoints))
