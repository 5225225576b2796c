use Rattle.std.proofs.Common.{◌&&◌, nat_eq, ◌∙◌}
use Rattle.std.specs.Ordering.{eq_by_cmp}
use Rattle.ck_model.specs.Key.{key_cmp}
use Rattle.ck_area.proofs.OrderLemmas.{version_order, same_versions}
use Rattle.ck_area.specs.Parts.{version_in}
use Rattle.ck_area.proofs.FirstLemmas.{repeat_known}
use Rattle.ck_area.proofs.repeated.repeated_version.Goals as goal

pub returns : goal.returns
returns c =
    repeat_known (eq_by_cmp version_order) (λ x y. eq_by_cmp key_cmp x.0 y.0 && nat_eq x.1 y.1) same_versions version_in c.args.area.now _ _ (c.deref.ensures.value ∙ c.in_ok-versions.ensures) c.first_repeat.ensures
