use Rattle.std.proofs.Common.{◌<◌, length, get_or, sym, ap, ◌∙◌, arith}
use Rattle.ck_plain.specs.declared.world.PlainCheckpoint.{PlainCheckpoint}
use Rattle.ck_plain.specs.Plain.{checkpoint_of}
use Rattle.ck_plain.specs.Named.{changed_named, with_removable}
use Rattle.ck_plain.proofs.Lists.{set_here}
use Rattle.ck_plain.proofs.frozen.set_flags.Goals as goal

pub loop-checkpoint-preserved : goal.loop-checkpoint-preserved
loop-checkpoint-preserved c =
    let before = c.deref_mut-checkpoint-items.result.now in
    let change = changed_named c.args.name.now (with_removable c.args.on) in
    let within : c.loop-checkpoint.checkpoint-index < length before = omega arith in
    set_here checkpoint_of change before c.loop-checkpoint.checkpoint-items c.loop-checkpoint.checkpoint-index c.checkpoint-item.result c.set_flag.new.checkpoint within c.loop-checkpoint.invariant c.checkpoint-item.is
    (c.set_flag.ensures ∙ ap (λ (x : PlainCheckpoint). change (checkpoint_of x)) (sym c.checkpoint-item.is))
