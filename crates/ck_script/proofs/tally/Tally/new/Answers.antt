use Rattle.std.proofs.Common.{refl}
use Rattle.ck_script.proofs.TallyLemmas.{tally_none}
use Rattle.ck_script.proofs.tally.Tally.new.Goals as goal

pub invariant_of-result : goal.invariant_of-result
invariant_of-result c = tally_none c.new.result.items _ c.new.ensures.items refl
