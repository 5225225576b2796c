use Rattle.ck_alloc.proofs.BitLemmas.{has-with_bit}
use Rattle.ck_alloc.proofs.words.set_bit.Goals as goal

pub returns-clause-members : goal.returns-clause-members
returns-clause-members c k = has-with_bit c.args.words.now c.args.at k c.requires
