use Rattle.std.proofs.Common.{ℕ, ap, ◌∙◌}
use Rattle.std.specs.FinMap as map
use Rattle.ck_model.proofs.Scanned.{remove_scanned}
use Rattle.ck_model.proofs.MountOrder.{mount_cmp_total, mount_cmp_exact}
use Rattle.ck_model.proofs.mounts.Mounts.remove.Goals as goal

pub returns : goal.returns
returns c =
    let mount : ℕ × ℕ = (c.args.actor, c.args.letter) in
    rw c.drop_mount.ensures.others
    (remove_scanned mount_cmp_total mount_cmp_exact mount c.self.inside.mounts.items ∙ ap (λ m. map.remove m mount) c.self.view_is)
