-- What the calls that change files make of the primary map. Each cell that is put has the same new stamp.
use Rattle.std.specs.Prelude.{ℕ, ◌+◌, ◌-◌, ◌*◌, ◌/◌, ◌%◌, ◌&&◌, not, List, [], ◌∷◌, length, Some, if◌then◌else◌, map as list_map, nat_eq, nat_le, nat_lt, slice_index}
use Rattle.std.specs.List.{range_with_len}
use Rattle.std.specs.FinMap as map
use Rattle.ck_model.specs.declared.key.Key.{Key}
use Rattle.ck_model.specs.declared.key.Key.TheVariants.{Node, Block}
use Rattle.ck_model.specs.declared.cell.Cell.{Cell}
use Rattle.ck_model.specs.declared.cell.Payload.{Payload}
use Rattle.ck_model.specs.declared.cell.Payload.TheVariants.{To, File, Bytes}
use Rattle.ck_model.specs.Key.{is_of, is_past}
use Rattle.ck_model.specs.Cells.{Cells, size_at, with_cells}
use Rattle.ck_model.specs.Contents.{block_byte}

abbrev pub cell_of : ℕ → Payload → Cell
cell_of stamp payload = record { stamp = stamp; payload = Some payload }

-- a new node and its name
abbrev pub with_node : Cells → ℕ → Key → ℕ → Payload → Cells
with_node cells stamp name node payload =
    with_cells cells ((name, cell_of stamp (To node)) ∷ (Node node, cell_of stamp payload) ∷ [])

-- without a file's name, its node and its blocks
abbrev pub without_file : Cells → Key → ℕ → Cells
without_file cells name node = map.remove (map.retain_keys cells (λ key. not (is_of node key))) name

-- without a directory's name and its node
abbrev pub without_directory : Cells → Key → ℕ → Cells
without_directory cells name node = map.remove (map.remove cells (Node node)) name

-- a node under another name
abbrev pub renamed : Cells → ℕ → Key → Key → ℕ → Cells
renamed cells stamp from to node = with_cells (map.remove cells from) ((to, cell_of stamp (To node)) ∷ [])

-- the indexes of the blocks that so many bytes from a place on touch
abbrev pub touched : ℕ → ℕ → List ℕ
touched at len = range_with_len (at / 4096) (if nat_eq len 0 then 0 else (at + len + 4095) / 4096 - at / 4096)

-- the block's byte once these bytes stand at a place of the file
abbrev pub byte_after : Cells → ℕ → ℕ → List ℕ → ℕ → ℕ → ℕ
byte_after cells node at bytes index place =
    let here = index * 4096 + place in
    if nat_le at here && nat_lt here (at + length bytes)
    then slice_index bytes (here - at)
    else block_byte cells node index place

unfoldable pub block_after : Cells → ℕ → ℕ → List ℕ → ℕ → List ℕ
block_after cells node at bytes index = list_map (byte_after cells node at bytes index) (range_with_len 0 4096)

-- the node, with its size raised to this end where it is less
abbrev pub grown_to : Cells → ℕ → ℕ → ℕ → List (Key × Cell)
grown_to cells stamp node end =
    if nat_lt (size_at cells node) end then (Node node, cell_of stamp (File end)) ∷ [] else []

-- these bytes at a place of the file: each block that they touch is put, and the node where the file grows
abbrev pub written : Cells → ℕ → ℕ → ℕ → List ℕ → Cells
written cells stamp node at [] = cells
written cells stamp node at (byte ∷ bytes) =
    let all = byte ∷ bytes in
    with_cells (with_cells cells (grown_to cells stamp node (at + length all)))
    (list_map (λ index. (Block node index, cell_of stamp (Bytes (block_after cells node at all index)))) (touched at (length all)))

-- the first so many bytes of a block, and zeros behind
unfoldable pub cut_block : Cells → ℕ → ℕ → ℕ → List ℕ
cut_block cells node index kept =
    list_map (λ place. if nat_lt place kept then block_byte cells node index place else 0) (range_with_len 0 4096)

-- the last block below this size, with zeros behind the size, if the size cuts it and it has a cell
abbrev pub cut_at : Cells → ℕ → ℕ → ℕ → List (Key × Cell)
cut_at cells stamp node size =
    let last = size / 4096 in
    if not (nat_eq (size % 4096) 0) && map.contains_key cells (Block node last)
    then (Block node last, cell_of stamp (Bytes (cut_block cells node last (size % 4096)))) ∷ []
    else []

-- without the blocks from this size on
abbrev pub cut_to : Cells → ℕ → ℕ → ℕ → Cells
cut_to cells stamp node size =
    with_cells (map.retain_keys cells (λ key. not (is_past node size key))) (cut_at cells stamp node size)

-- the file at this size
abbrev pub resized : Cells → ℕ → ℕ → ℕ → Cells
resized cells stamp node size =
    if nat_eq size (size_at cells node) then cells
    else with_cells
    (if nat_lt size (size_at cells node) then cut_to cells stamp node size else cells)
    ((Node node, cell_of stamp (File size)) ∷ [])
