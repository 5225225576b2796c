use Rattle.ck_model.proofs.PathLemmas.{take_name}
use Rattle.ck_model.proofs.path.before_slash.Goals as goal

pub returns-clause-only : goal.returns-clause-only
returns-clause-only c name names file e =
    take_name c.args.text.now name names c.name_end.result c.name_end.ensures.within c.name_end.ensures.before c.name_end.ensures.slash file e
