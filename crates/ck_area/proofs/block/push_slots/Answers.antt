use Rattle.std.proofs.Common.{rules}
use Rattle.ck_area.proofs.BlockLemmas.{all_pushed}
use Rattle.ck_area.proofs.block.push_slots.Goals as goal

pub returns-clause-slots : goal.returns-clause-slots
returns-clause-slots c blocks slots =
    all_pushed _ blocks _ _ c.args.block.now (λ k value low post. search rules) slots c.push_each.ensures.pushed
