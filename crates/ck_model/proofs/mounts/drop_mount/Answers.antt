use Rattle.std.proofs.Common.{rules, not}
use Rattle.std.specs.Ordering.{eq_by_cmp}
use Rattle.std.proofs.lemmas.Fn.{filter_same}
use Rattle.ck_model.specs.World.{mount_cmp}
use Rattle.ck_model.proofs.mounts.drop_mount.Goals as goal

pub returns-clause-others : goal.returns-clause-others
returns-clause-others c = filter_same _ (λ e. not (eq_by_cmp mount_cmp c.args.mount.now e.0)) _ (λ x b f' k. search rules) _ _ c.retain.ensures.filtered
