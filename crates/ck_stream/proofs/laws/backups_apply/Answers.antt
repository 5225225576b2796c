use Rattle.ck_stream.proofs.TextsLaws as backups
use Rattle.ck_stream.proofs.laws.backups_apply.Goals as goal

pub returns : goal.returns
returns c = backups.backups_apply
