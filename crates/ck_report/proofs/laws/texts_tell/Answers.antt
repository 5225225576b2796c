use Rattle.ck_report.proofs.Lines as telling
use Rattle.ck_report.proofs.laws.texts_tell.Goals as goal

pub returns : goal.returns
returns c = telling.texts_tell
