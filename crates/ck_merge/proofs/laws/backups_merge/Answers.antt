use Rattle.ck_merge.proofs.MergedLaws as laws
use Rattle.ck_merge.proofs.laws.backups_merge.Goals as goal

pub returns : goal.returns
returns c = laws.backups_merge
