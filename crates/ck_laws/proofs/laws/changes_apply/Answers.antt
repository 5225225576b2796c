use Rattle.ck_model.proofs.StreamLaws.{applied-changed}
use Rattle.ck_laws.proofs.laws.changes_apply.Goals as goal

pub returns : goal.returns
returns c = applied-changed
