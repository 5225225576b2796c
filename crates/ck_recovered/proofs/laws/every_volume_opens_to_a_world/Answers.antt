use Rattle.ck_recovered.proofs.OpenedLemmas.{volumes_open_lem}
use Rattle.ck_recovered.proofs.laws.every_volume_opens_to_a_world.Goals as goal

pub returns : goal.returns
returns c = volumes_open_lem c.worlds_stay.ensures.tables
