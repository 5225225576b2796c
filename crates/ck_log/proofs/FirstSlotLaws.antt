-- The slots of a new table, of 128 bytes each.
use Rattle.std.proofs.Common.{◌≡◌, take, drop, replicate, refl}
use Rattle.ck_log.specs.FirstTable.{counters_slot, root_slot, first_block}

pub slot_0-first_block : take 128 first_block ≡ counters_slot
unfolding first_block
slot_0-first_block = refl

pub slot_1-first_block : take 128 (drop 128 first_block) ≡ root_slot
unfolding first_block
slot_1-first_block = refl

-- all bytes behind these two slots
pub free_slots-first_block : drop 256 first_block ≡ replicate 3840 0
unfolding first_block
free_slots-first_block = refl
