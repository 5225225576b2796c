use Rattle.ck_text.proofs.AppendLaws.{appended_five}
use Rattle.ck_report.specs.Transcript.{entry_head}
use Rattle.ck_report.proofs.history.put_head.Goals as goal

pub returns-clause-text : goal.returns-clause-text
unfolding entry_head
returns-clause-text c = appended_five _ _ _ _ _ _ _ _ _ _ _ c.in_ok-put_small.ensures c.in_ok-put.ensures c.in_ok-put_small-2.ensures c.in_ok-put_number.ensures c.in_ok-put_small_word.ensures
