use Rattle.ck_stream.proofs.StreamLemmas.{none_begins}
use Rattle.ck_stream.proofs.laws.none_begins_another.Goals as goal

pub returns : goal.returns
returns c = none_begins
