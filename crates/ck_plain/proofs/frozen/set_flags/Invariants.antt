use Rattle.std.proofs.Common.{◌≡◌, ◌++◌, take, drop, map as list_map}
use Rattle.ck_plain.specs.Plain.{checkpoint_of}
use Rattle.ck_plain.specs.Named.{changed_named, with_removable}
use Rattle.ck_plain.proofs.frozen.set_flags.Given as goal

abbrev pub invariant-loop-checkpoint : goal.invariant-loop-checkpoint
invariant-loop-checkpoint l =
    list_map checkpoint_of l.checkpoint-items
    ≡ list_map (changed_named l.name (with_removable l.on)) (take l.checkpoint-index (list_map checkpoint_of l.initial.checkpoint-items))
    ++ drop l.checkpoint-index (list_map checkpoint_of l.initial.checkpoint-items)
