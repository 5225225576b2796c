use Rattle.ck_merge.proofs.MergedLaws.{has_both}
use Rattle.ck_merge.proofs.laws.merged_has_both.Goals as goal

pub returns : goal.returns
returns c = has_both
