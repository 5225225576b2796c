use Rattle.std.proofs.Common.{ℕ, ap, ◌∙◌}
use Rattle.std.specs.FinMap as map
use Rattle.ck_model.proofs.Scanned.{put_scanned}
use Rattle.ck_model.proofs.MountOrder.{mount_cmp_total, mount_cmp_exact}
use Rattle.ck_model.proofs.mounts.Mounts.insert.Goals as goal

pub returns-clause-ok : goal.returns-clause-ok
returns-clause-ok c =
    let mount : ℕ × ℕ = (c.args.actor, c.args.letter) in
    rw (c.put_mount.ensures, c.in_ok-reserve.ensures.items)
    (put_scanned mount_cmp_total mount_cmp_exact mount c.args.id c.self.inside.mounts.items ∙ ap (λ m. map.insert m mount c.args.id) c.self.view_is)
