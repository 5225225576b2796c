use Rattle.ck_recovered.proofs.laws.histories_keep_worlds.Goals as goal

pub returns : goal.returns
returns c texts calls w history h =
    c.worlds_stay.ensures.histories texts calls w history (c.every_volume_opens_to_a_world.ensures h.image w h.volume) h.legal
