use Rattle.ck_script.proofs.NameLemmas.{name_read}
use Rattle.ck_script.proofs.arguments.name.Goals as goal

pub returns : goal.returns
returns c = name_read c.args.word.now c.read.result c.read.ensures.some c.read.ensures.value
