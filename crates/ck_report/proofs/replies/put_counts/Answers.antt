use Rattle.ck_text.proofs.AppendLaws.{appended_three}
use Rattle.ck_report.specs.Words.{counts_words}
use Rattle.ck_report.proofs.replies.put_counts.Goals as goal

pub returns : goal.returns
unfolding counts_words
returns c = appended_three _ _ _ _ _ _ _ c.in_ok-put_share.ensures c.in_ok-put_share-2.ensures c.in_ok-put_checkpoints.ensures
