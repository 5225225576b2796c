use Rattle.std.proofs.Common.{ap, sym, ◌∙◌}
use Rattle.std.specs.FinMap.{get, find, get-from_entries}
use Rattle.ck_model.specs.World.{mount_cmp}
use Rattle.ck_model.proofs.MountOrder.{mount_cmp_total}
use Rattle.ck_model.proofs.mounts.Mounts.get.Goals as goal

pub loop-entry-init : goal.loop-entry-init
loop-entry-init c =
    ap (λ m. get m (c.args.actor, c.args.letter)) (sym c.self.view_is)
    ∙ get-from_entries mount_cmp_total _ _
    ∙ ap (find mount_cmp (c.args.actor, c.args.letter)) (sym c.deref-entry-items.ensures.value)
