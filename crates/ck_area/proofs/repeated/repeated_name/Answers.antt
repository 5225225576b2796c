use Rattle.std.proofs.Common.{nat_eq, ◌∙◌}
use Rattle.std.specs.Ordering.{nat_cmp, eq_by_cmp}
use Rattle.std.specs.Cmp.Lexicographic.{slice_cmp, pointwise}
use Rattle.ck_area.proofs.OrderLemmas.{same_lists}
use Rattle.ck_area.specs.Parts.{live_name_in}
use Rattle.ck_area.proofs.FirstLemmas.{repeat_known}
use Rattle.ck_area.proofs.repeated.repeated_name.Goals as goal

pub returns : goal.returns
returns c =
    repeat_known (eq_by_cmp (slice_cmp nat_cmp)) (pointwise nat_eq) same_lists live_name_in c.args.area.now _ _ (c.deref.ensures.value ∙ c.in_ok-live_names.ensures) c.first_repeat.ensures
