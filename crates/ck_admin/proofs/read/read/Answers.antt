use Rattle.ck_admin.proofs.BuiltLemmas.{lines_built}
use Rattle.ck_admin.proofs.read.read.Goals as goal

pub returns-in-Ok-clause-built : goal.returns-in-Ok-clause-built
returns-in-Ok-clause-built g c = lines_built c.in-Ok.script.calls c.in-Ok.ensures.built c.in-Ok.ensures.checkpoint_names c.in-Ok.ensures.places

pub returns-in-Ok-clause-few : goal.returns-in-Ok-clause-few
returns-in-Ok-clause-few g c = c.in-Ok.script.within.calls
