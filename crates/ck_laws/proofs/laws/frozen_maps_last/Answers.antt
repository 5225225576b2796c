use Rattle.ck_laws.proofs.OthersLaws.{frozen_maps_last_lem, mounts_last_lem, kept_maps_are_frozen_lem, fits_last_lem}
use Rattle.ck_laws.proofs.laws.frozen_maps_last.Goals as goal

pub returns : goal.returns
returns c = record { maps = frozen_maps_last_lem; mounts = mounts_last_lem; kept = kept_maps_are_frozen_lem; reads = fits_last_lem }
