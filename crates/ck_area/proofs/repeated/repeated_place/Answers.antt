use Rattle.std.proofs.Common.{◌∙◌}
use Rattle.std.specs.Ordering.{eq_by_cmp}
use Rattle.ck_model.specs.Key.{entry_cmp}
use Rattle.ck_area.proofs.OrderLemmas.{place_order, same_places}
use Rattle.ck_area.specs.Parts.{place_in}
use Rattle.ck_area.proofs.FirstLemmas.{repeat_known}
use Rattle.ck_area.proofs.repeated.repeated_place.Goals as goal

pub returns : goal.returns
returns c =
    repeat_known (eq_by_cmp place_order) (eq_by_cmp entry_cmp) same_places place_in c.args.area.now _ _ (c.deref.ensures.value ∙ c.in_ok-places.ensures) c.first_repeat.ensures
