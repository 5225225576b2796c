-- How much room a world takes, and what is given up for a call that needs more.
use Rattle.std.specs.Prelude.{ℕ, suc, zero, ◌+◌, ◌-◌, ◌&&◌, ◌||◌, Bool, true, false, not, List, [], ◌∷◌, length, Option, Some, None, nat_eq, nat_le, if◌then◌else◌, find}
use Rattle.std.specs.Option.{option_map, option_or, option_map_or}
use Rattle.std.specs.FinMap as map
use Rattle.ck_model.specs.declared.key.Key.{Key}
use Rattle.ck_model.specs.declared.cell.Cell.{Cell}
use Rattle.ck_model.specs.declared.reply.Reply.{Reply}
use Rattle.ck_model.specs.declared.reply.Reply.TheVariants.{NoSpace}
use Rattle.ck_model.specs.declared.reply.SpaceOf.TheVariants.{Blocks, Records}
use Rattle.ck_model.specs.Key.{is_block}
use Rattle.ck_model.specs.Cells.{Cells, differs, differences}
use Rattle.ck_model.specs.World.{World, Checkpoint, keeps_files, without_checkpoint}

-- the map of the oldest of these checkpoints, or else the primary's: of a checkpoint, the next newer map
abbrev pub next_cells : Cells → List Checkpoint → Cells
next_cells primary [] = primary
next_cells primary (checkpoint ∷ newer) = checkpoint.cells

abbrev pub block_count : Cells → ℕ
block_count cells = map.len (map.retain_keys cells is_block)

-- the blocks of a map that the next newer one lacks, or has in another version
abbrev pub own_block_count : Cells → Cells → ℕ
own_block_count cells next =
    map.len (map.retain_keys cells (λ key. is_block key && differs (map.get cells key) (map.get next key)))

-- what the checkpoints hold beside the next newer map. One keeps data where it or an older one does
abbrev pub held_by : Bool → Cells → List Checkpoint → ℕ
held_by older primary [] = 0
held_by older primary (checkpoint ∷ newer) =
    let keeps = older || keeps_files checkpoint.kind in
    (if keeps then own_block_count checkpoint.cells (next_cells primary newer) else 0) + held_by keeps primary newer

-- the data blocks that a world takes
abbrev pub held : World → ℕ
held w = block_count w.primary + held_by false w.primary w.checkpoints

-- the keys at which checkpoints and their next newer maps differ
abbrev pub difference_count : Cells → List Checkpoint → ℕ
difference_count primary [] = 0
difference_count primary (checkpoint ∷ newer) =
    map.len (differences checkpoint.cells (next_cells primary newer)) + difference_count primary newer

-- the records that a world takes
abbrev pub records_in : World → ℕ
records_in w = map.len w.primary + difference_count w.primary w.checkpoints + length w.checkpoints

abbrev pub is_new_block : ℕ → Key → Option Cell → Bool
is_new_block stamp key None = false
is_new_block stamp key (Some cell) = is_block key && nat_eq cell.stamp stamp

-- the blocks with this stamp
abbrev pub new_block_count : ℕ → Cells → ℕ
new_block_count stamp cells = map.len (map.retain_keys cells (λ key. is_new_block stamp key (map.get cells key)))

-- a call with this next world and so many new blocks fits
abbrev pub blocks_fit : World → ℕ → Bool
blocks_fit w new = nat_le (held w + new) w.limits.blocks

abbrev pub fits : World → World → ℕ → Bool
fits w next new = blocks_fit w new && nat_le (records_in next) w.limits.records

-- the id of the oldest removable checkpoint of the kind that keeps files, or of the other kind
abbrev pub oldest_removable : Bool → List Checkpoint → Option ℕ
oldest_removable keeps checkpoints =
    option_map (λ checkpoint. checkpoint.id)
    (find (λ checkpoint. checkpoint.removable && (if keeps then keeps_files checkpoint.kind else not (keeps_files checkpoint.kind))) checkpoints)

-- what is given up first: the oldest removable data checkpoint, else the oldest removable nodata one
abbrev pub pick : World → Option ℕ
pick w = option_or (oldest_removable true w.checkpoints) (oldest_removable false w.checkpoints)

-- the world without so many picks
abbrev pub without_picks : ℕ → World → World
without_picks zero w = w
without_picks (suc given) w = option_map_or (λ id. without_picks given (without_checkpoint w id)) (pick w) w

-- how many picks are given up, of at most so many, until a call with this effect fits
abbrev pub given_up : ℕ → (World → World) → ℕ → World → ℕ
given_up zero effect new w = 0
given_up (suc most) effect new w =
    if fits w (effect w) new then 0
    else option_map_or (λ id. given_up most effect new (without_checkpoint w id) + 1) (pick w) 0

-- why a call doesn't fit
abbrev pub no_space : World → World → ℕ → Reply
no_space w next new =
    if blocks_fit w new
    then NoSpace Records (records_in w) (records_in next - records_in w) w.limits.records
    else NoSpace Blocks (held w) new w.limits.blocks
