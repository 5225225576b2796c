use Rattle.std.proofs.Common.{◌||◌, sym, ap, ◌∙◌}
use Rattle.ck_area.specs.Known.{is_from}
use Rattle.ck_area.proofs.KnownLemmas.{data_more}
use Rattle.ck_area.proofs.known.least_data.Goals as goal

pub loop-slot-preserved : goal.loop-slot-preserved
loop-slot-preserved c fs =
    data_more c.args.area.now c.loop-slot.slot-index c.slot-item.result c.loop-slot-test.true c.slot-item.is fs _ (c.loop-slot.invariant fs)
    ∙ ap (λ b. is_from c.loop-slot.least fs || b) (c.data_id.ensures fs)
    ∙ sym (c.lower-least.ensures fs)
