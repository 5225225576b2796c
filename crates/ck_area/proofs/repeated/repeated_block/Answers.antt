use Rattle.std.proofs.Common.{nat_eq, ◌∙◌}
use Rattle.std.specs.Ordering.{nat_cmp, eq_by_cmp}
use Rattle.ck_area.proofs.OrderLemmas.{same_numbers}
use Rattle.ck_area.specs.Parts.{named_in}
use Rattle.ck_area.proofs.FirstLemmas.{repeat_known}
use Rattle.ck_area.proofs.repeated.repeated_block.Goals as goal

pub returns : goal.returns
returns c =
    repeat_known (eq_by_cmp nat_cmp) nat_eq same_numbers named_in c.args.area.now _ _ (c.deref.ensures.value ∙ c.in_ok-named.ensures) c.first_repeat.ensures
