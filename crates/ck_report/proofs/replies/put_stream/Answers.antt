use Rattle.ck_text.proofs.AppendLaws.{appended_four}
use Rattle.ck_report.specs.Words.{stream_words}
use Rattle.ck_report.proofs.replies.put_stream.Goals as goal

pub returns-clause-text : goal.returns-clause-text
unfolding stream_words
returns-clause-text c = appended_four _ _ _ _ _ _ _ _ _ c.in_ok-put.ensures c.in_ok-put_number.ensures c.in_ok-put-2.ensures c.in_ok-put_digest.ensures
