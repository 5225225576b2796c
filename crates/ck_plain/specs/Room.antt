-- The space that a primary map and checkpoints take, and what is given up of it.
use Rattle.std.specs.Prelude.{ℕ, zero, suc, ◌+◌, ◌-◌, ◌&&◌, Bool, false, true, not, List, length, filter, Option, nat_le, if◌then◌else◌}
use Rattle.std.specs.Option.{option_or, option_map_or}
use Rattle.std.specs.FinMap as map
use Rattle.ck_model.specs.declared.checkpoint.Limits.{Limits}
use Rattle.ck_model.specs.declared.reply.Reply.{Reply}
use Rattle.ck_model.specs.declared.reply.Reply.TheVariants.{NoSpace}
use Rattle.ck_model.specs.declared.reply.SpaceOf.TheVariants.{Blocks, Records}
use Rattle.ck_model.specs.Cells.{Cells}
use Rattle.ck_model.specs.World.{Checkpoint, has_id}
use Rattle.ck_model.specs.Space.{block_count, held_by, difference_count, oldest_removable}
use Rattle.ck_plain.specs.declared.room.Room.{Room}

-- the data blocks that a world with this primary map and these checkpoints takes
abbrev pub held_beside : Cells → List Checkpoint → ℕ
held_beside primary checkpoints = block_count primary + held_by false primary checkpoints

-- the records that it takes
abbrev pub records_beside : Cells → List Checkpoint → ℕ
records_beside primary checkpoints = map.len primary + difference_count primary checkpoints + length checkpoints

-- the id of what is given up first
abbrev pub pick_among : List Checkpoint → Option ℕ
pick_among checkpoints = option_or (oldest_removable true checkpoints) (oldest_removable false checkpoints)

-- these without the one with this id
abbrev pub without_id : List Checkpoint → ℕ → List Checkpoint
without_id checkpoints id = filter (λ checkpoint. not (has_id id checkpoint)) checkpoints

-- what a call asks for: the primary map before it and after it, the records that it takes beside those of the maps and
-- checkpoints, and its new blocks
pub record Ask : Type 0 where
  pub limits : Limits
  pub primary : Cells
  pub next : Cells
  pub records : ℕ
  pub blocks : ℕ

abbrev pub ask_of : Room → Ask
ask_of room = record {
  limits = room.limits;
  primary = room.primary.now;
  next = room.next.now;
  records = room.records;
  blocks = room.blocks;
}

-- the call's blocks fit beside these checkpoints
abbrev pub blocks_fit_in : Ask → List Checkpoint → Bool
blocks_fit_in ask checkpoints = nat_le (held_beside ask.primary checkpoints + ask.blocks) ask.limits.blocks

-- the records that stand after the call
abbrev pub records_after : Ask → List Checkpoint → ℕ
records_after ask checkpoints = records_beside ask.next checkpoints + ask.records

-- the call fits beside these checkpoints
abbrev pub has_room : Ask → List Checkpoint → Bool
has_room ask checkpoints = blocks_fit_in ask checkpoints && nat_le (records_after ask checkpoints) ask.limits.records

-- why it doesn't fit
abbrev pub space_lack : Ask → List Checkpoint → Reply
space_lack ask checkpoints =
    let held = records_beside ask.primary checkpoints in
    if blocks_fit_in ask checkpoints
    then NoSpace Records held (records_after ask checkpoints - held) ask.limits.records
    else NoSpace Blocks (held_beside ask.primary checkpoints) ask.blocks ask.limits.blocks

-- what is left of these once so many picks are given up
abbrev pub left_of : ℕ → List Checkpoint → List Checkpoint
left_of zero checkpoints = checkpoints
left_of (suc given) checkpoints =
    option_map_or (λ id. left_of given (without_id checkpoints id)) (pick_among checkpoints) checkpoints

-- how many picks are given up, of at most so many, until the call fits
abbrev pub picks_for : ℕ → Ask → List Checkpoint → ℕ
picks_for zero ask checkpoints = 0
picks_for (suc most) ask checkpoints =
    if has_room ask checkpoints then 0
    else option_map_or (λ id. picks_for most ask (without_id checkpoints id) + 1) (pick_among checkpoints) 0
