use Rattle.ck_laws.proofs.LawsLemmas.{frozen_maps_stay_lem}
use Rattle.ck_laws.proofs.laws.frozen_maps_stay.Goals as goal

pub returns : goal.returns
returns c = frozen_maps_stay_lem
