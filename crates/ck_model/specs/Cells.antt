-- Maps from keys to cells: what a key holds, what is put and removed, and how two maps differ.
use Rattle.std.specs.Prelude.{◌≡◌, ℕ, Bool, true, false, not, List, [], ◌∷◌, ◌++◌, Option, Some, None, nat_eq, if◌then◌else◌, map as list_map}
use Rattle.std.specs.Option.{option_and_then}
use Rattle.std.specs.FinMap as map
use Rattle.ck_model.specs.declared.key.Key.{Key}
use Rattle.ck_model.specs.declared.key.Key.TheVariants.{Node}
use Rattle.ck_model.specs.declared.cell.Cell.{Cell}
use Rattle.ck_model.specs.declared.cell.Payload.{Payload}
use Rattle.ck_model.specs.declared.cell.Payload.TheVariants.{To, File, Dir, Bytes}
use Rattle.ck_model.specs.Key.{key_cmp, is_block}

abbrev pub Cells : Type 0
Cells = map.FinMap key_cmp Cell

-- what a cell holds: None is a mark
abbrev pub Content : Type 0
Content = Option Payload

-- the node that a name's cell names
abbrev pub named_node : Content → Option ℕ
named_node (Some (To node)) = Some node
named_node (Some (File size)) = None
named_node (Some Dir) = None
named_node (Some (Bytes bytes)) = None
named_node None = None

abbrev pub is_directory : Content → Bool
is_directory (Some (To node)) = false
is_directory (Some (File size)) = false
is_directory (Some Dir) = true
is_directory (Some (Bytes bytes)) = false
is_directory None = false

-- a file's size
abbrev pub size_in : Content → ℕ
size_in (Some (To node)) = 0
size_in (Some (File size)) = size
size_in (Some Dir) = 0
size_in (Some (Bytes bytes)) = 0
size_in None = 0

-- the bytes that are held, if there are any
abbrev pub bytes_in : Content → List ℕ
bytes_in (Some (To node)) = []
bytes_in (Some (File size)) = []
bytes_in (Some Dir) = []
bytes_in (Some (Bytes bytes)) = bytes
bytes_in None = []

-- what the key holds, None also where it has no cell
abbrev pub content_at : Cells → Key → Content
content_at cells key = option_and_then (λ cell. cell.payload) (map.get cells key)

abbrev pub is_directory_at : Cells → ℕ → Bool
is_directory_at cells node = is_directory (content_at cells (Node node))

abbrev pub size_at : Cells → ℕ → ℕ
size_at cells node = size_in (content_at cells (Node node))

-- these cells put over the others
abbrev pub with_cells : Cells → List (Key × Cell) → Cells
with_cells cells [] = cells
with_cells cells (e ∷ es) = map.insert (with_cells cells es) e.0 e.1

-- the map with this cell at the key, or with none there
abbrev pub set_cell : Cells → Key → Option Cell → Cells
set_cell cells key None = map.remove cells key
set_cell cells key (Some cell) = map.insert cells key cell

-- a block's cell without its bytes
abbrev pub mark_of : Key → Cell → Cell
mark_of key cell = if is_block key then record cell { payload = None } else cell

-- the map with each block's cell as a mark
abbrev pub marked : Cells → Cells
marked cells = map.from_entries (list_map (λ e. (e.0, mark_of e.0 e.1)) (map.entries cells))

-- one has a cell and the other none, or their stamps differ
abbrev pub differs : Option Cell → Option Cell → Bool
differs None None = false
differs None (Some y) = true
differs (Some x) None = true
differs (Some x) (Some y) = not (nat_eq x.stamp y.stamp)

-- in maps of one history, equal stamps at a key mean that it holds the same
abbrev pub OfOneHistory : Cells → Cells → Type 0
OfOneHistory a b = (key : Key) → differs (map.get a key) (map.get b key) ≡ false → map.get a key ≡ map.get b key

-- from a key to its new cell, or to None where it has none any more
abbrev pub Differences : Type 0
Differences = map.FinMap key_cmp (Option Cell)

-- the keys at which two maps differ, with the second map's cells
abbrev pub differences : Cells → Cells → Differences
differences a b =
    map.retain_keys
    (map.from_entries (list_map (λ e. (e.0, Some e.1)) (map.entries b) ++ list_map (λ e. (e.0, None)) (map.entries a)))
    (λ key. differs (map.get a key) (map.get b key))

-- the keys that the second map has in another version or anew
abbrev pub is_new_in : Cells → Cells → Key → Bool
is_new_in a b key = differs (map.get a key) (map.get b key)

-- the keys that the second map lacks
abbrev pub is_gone_in : Cells → Key → Bool
is_gone_in b key = not (map.contains_key b key)

-- an entry with its block as a mark
abbrev pub mark_entry : Key × Cell → Key × Cell
mark_entry e = (e.0, mark_of e.0 e.1)
