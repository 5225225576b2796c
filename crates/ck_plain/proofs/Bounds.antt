-- How many blocks and records the checkpoints take at most.
use Rattle.std.proofs.Common.{ℕ, ◌+◌, ◌-◌, ◌*◌, ◌≤◌, ◌<◌, ◌^◌, Bool, true, false, ◌&&◌, ◌||◌, List, [], ◌∷◌, length, take, drop, map as list_map, if◌then◌else◌, arith, length-take, length-drop}
use Rattle.std.specs.FinMap as map
use Rattle.std.proofs.lemmas.List.{length-map}
use Rattle.ck_model.specs.Key.{is_block, key_cmp_total, key_cmp_exact}
use Rattle.ck_model.specs.Cells.{Cells, differs}
use Rattle.ck_model.specs.World.{keeps_files}
use Rattle.ck_model.specs.Space.{next_cells, held_by, own_block_count, difference_count}
use Rattle.ck_model.proofs.SizeLaws.{len-retain_keys-le}
use Rattle.ck_model.proofs.DifferenceLaws.{len-differences-le}
use Rattle.ck_plain.specs.declared.world.PlainCheckpoint.{PlainCheckpoint}
use Rattle.ck_plain.specs.Plain.{checkpoint_of}
use Rattle.ck_plain.specs.Room.{held_beside, records_beside}

pub own_block_count-le : (cells next : Cells) → own_block_count cells next ≤ map.len cells
own_block_count-le cells next = len-retain_keys-le key_cmp_total key_cmp_exact cells (λ key. is_block key && differs (map.get cells key) (map.get next key))

own-le : (keeps : Bool) (n most : ℕ) → n ≤ most → (if keeps then n else 0) ≤ most
own-le true n most h = h
own-le false n most h = omega arith

pub held_by-le : (older : Bool) (primary : Cells) (checkpoints : List PlainCheckpoint) → held_by older primary (list_map checkpoint_of checkpoints) ≤ 2147483648 * length checkpoints
held_by-le older primary [] = omega arith
held_by-le older primary (checkpoint ∷ newer) =
    let keeps = older || keeps_files checkpoint.kind in
    let next = next_cells primary (list_map checkpoint_of newer) in
    let few : map.len checkpoint.cells ≤ 2147483648 = omega (arith, checkpoint.few_cells) in
    let own = own-le keeps (own_block_count checkpoint.cells next) (map.len checkpoint.cells) (own_block_count-le checkpoint.cells next) in
    omega (arith, own, few, held_by-le keeps primary newer)

pub difference_count-le : (primary : Cells) (checkpoints : List PlainCheckpoint) → difference_count primary (list_map checkpoint_of checkpoints) ≤ 4294967296 * length checkpoints + map.len primary
difference_count-le primary [] = omega arith
difference_count-le primary (checkpoint ∷ []) =
    omega (arith, checkpoint.few_cells, len-differences-le checkpoint.cells primary)
difference_count-le primary (checkpoint ∷ next ∷ newer) =
    omega (arith, checkpoint.few_cells, next.few_cells, len-differences-le checkpoint.cells next.cells, difference_count-le primary (next ∷ newer))

-- so they can be counted in 64 bits
pub held_by-fits : (older : Bool) (primary : Cells) (checkpoints : List PlainCheckpoint) → length checkpoints < 2 ^ 31 → held_by older primary (list_map checkpoint_of checkpoints) ≤ 4611686018427387904
held_by-fits older primary checkpoints few = omega (arith, held_by-le older primary checkpoints)

pub difference_count-fits : (primary : Cells) (checkpoints : List PlainCheckpoint) → length checkpoints < 2 ^ 31 → map.len primary < 2 ^ 32 → difference_count primary (list_map checkpoint_of checkpoints) ≤ 9223372041149743104
difference_count-fits primary checkpoints few cells = omega (arith, difference_count-le primary checkpoints)

-- the slice behind the first one is no longer than all
pub length_newer : {X : Type 0} (xs : List X) → length (take (length xs - 1) (drop 1 xs)) ≤ length xs
length_newer xs = omega (arith, length-take (length xs - 1) (drop 1 xs), length-drop 1 xs)

pub len-next_cells : (primary : Cells) (checkpoints : List PlainCheckpoint) → map.len primary < 2 ^ 32 → map.len (next_cells primary (list_map checkpoint_of checkpoints)) < 2 ^ 32
len-next_cells primary [] cells = cells
len-next_cells primary (checkpoint ∷ newer) cells = omega (arith, checkpoint.few_cells)

pub held_beside-fits : (primary : Cells) (checkpoints : List PlainCheckpoint) → length checkpoints < 2 ^ 31 → map.len primary < 2 ^ 32 → held_beside primary (list_map checkpoint_of checkpoints) ≤ 4611686022722355200
held_beside-fits primary checkpoints few cells =
    omega (arith, len-retain_keys-le key_cmp_total key_cmp_exact primary is_block, held_by-fits false primary checkpoints few)

pub records_beside-fits : (primary : Cells) (checkpoints : List PlainCheckpoint) → length checkpoints < 2 ^ 31 → map.len primary < 2 ^ 32 → records_beside primary (list_map checkpoint_of checkpoints) ≤ 9223372047592194048
records_beside-fits primary checkpoints few cells =
    omega (arith, difference_count-fits primary checkpoints few cells, length-map checkpoints checkpoint_of)
