use Rattle.ck_merge.proofs.MergedLaws.{applies}
use Rattle.ck_merge.proofs.laws.merged_applies.Goals as goal

pub returns : goal.returns
returns c = applies
