use Rattle.std.proofs.Common.{arith}
use Rattle.ck_script.proofs.FormLemmas.{fill_of_few}
use Rattle.ck_script.proofs.files.fill_of.Goals.{in_default-via-then-words-lt4, in_default-via-else-words-lt4+else-words-lt5}
use Rattle.ck_script.proofs.files.fill_of.Goals as goal

pub returns-in_default : goal.returns-in_default
returns-in_default c = elim c.in_default.branch [
  | in_default-via-then-words-lt4 w ↦ λ _. fill_of_few (λ word. word.now) c.args.words.now (λ is. search (arith, is))
  | in_default-via-else-words-lt4+else-words-lt5 w ↦ λ _. fill_of_few (λ word. word.now) c.args.words.now (λ is. grind (arith, is))
]
