use Rattle.std.proofs.Common.{◌∙◌, sym}
use Rattle.ck_script.proofs.PathLemmas.{path_read}
use Rattle.ck_script.proofs.arguments.path_of.Goals as goal

pub returns-in-Some : goal.returns-in-Some
returns-in-Some c = sym (path_read c.args.word.now _ c.in_ok-path.ensures.value c.in_ok-path.ensures.path c.in_ok-path.ensures.none) ∙ c.in-Some.is

pub returns-in-None : goal.returns-in-None
returns-in-None c = λ _. sym (path_read c.args.word.now _ c.in_ok-path.ensures.value c.in_ok-path.ensures.path c.in_ok-path.ensures.none) ∙ c.in-None.is
