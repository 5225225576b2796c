use Rattle.ck_text.proofs.AppendLaws.{appended_five}
use Rattle.ck_report.specs.Transcript.{answer_text}
use Rattle.ck_report.proofs.history.put_answer.Goals as goal

pub returns-clause-text : goal.returns-clause-text
unfolding answer_text
returns-clause-text c = appended_five _ _ _ _ _ _ _ _ _ _ _ c.in_ok-put.ensures c.in_ok-put_call.ensures c.in_ok-put-2.ensures c.in_ok-put_reply.ensures.text c.in_ok-put-3.ensures
