use Rattle.ck_alloc.proofs.BitLemmas.{has-without_bit}
use Rattle.ck_alloc.proofs.words.clear_bit.Goals as goal

pub returns-clause-members : goal.returns-clause-members
returns-clause-members c k = has-without_bit c.args.words.now c.args.at k c.requires
