use Rattle.ck_stream.specs.Texts.{texts as spelled}
use Rattle.ck_recovered.proofs.laws.histories_keep_frozen_maps.Goals as goal

pub returns-clause-stay : goal.returns-clause-stay
returns-clause-stay c texts calls w history h =
    c.frozen_maps_stay.ensures texts calls w history (c.every_volume_opens_to_a_world.ensures h.image w h.volume).order h.legal

pub returns-clause-agree : goal.returns-clause-agree
returns-clause-agree c texts calls w history id later a b h =
    c.frozen_maps_agree.ensures.agree texts calls w history (c.every_volume_opens_to_a_world.ensures h.in_history.image w h.in_history.volume) h.in_history.legal
    id later a b h.keeps h.later_keeps h.map h.later_map

pub returns-clause-apply : goal.returns-clause-apply
returns-clause-apply c texts calls w history id later a b h =
    c.frozen_maps_agree.ensures.apply texts calls w history (c.every_volume_opens_to_a_world.ensures h.in_history.image w h.in_history.volume) h.in_history.legal
    id later a b h.keeps h.later_keeps h.map h.later_map

pub returns-clause-backups : goal.returns-clause-backups
returns-clause-backups c calls w history id later a b h full next changed of_a of_changes right same made =
    c.backups_apply.ensures a b full next changed
    (c.frozen_maps_agree.ensures.agree spelled calls w history (c.every_volume_opens_to_a_world.ensures h.in_history.image w h.in_history.volume) h.in_history.legal
    id later a b h.keeps h.later_keeps h.map h.later_map)
    of_a of_changes right same made
