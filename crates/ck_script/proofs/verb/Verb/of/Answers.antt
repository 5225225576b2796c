use Rattle.ck_script.specs.Verb.{verbs}
use Rattle.ck_script.proofs.verb.Verb.of.Goals as goal

pub returns : goal.returns
unfolding verbs
returns c = c.first_with.ensures
