use Rattle.ck_laws.proofs.FrozenLaws.{frozen_maps_agree_lem, frozen_changes_apply_lem}
use Rattle.ck_laws.proofs.laws.frozen_maps_agree.Goals as goal

pub returns : goal.returns
returns c = record { agree = frozen_maps_agree_lem; apply = frozen_changes_apply_lem }
