-- The bytes of files, and the names of directories.
use Rattle.std.specs.Prelude.{ℕ, ◌-◌, ◌/◌, ◌%◌, List, min, map as list_map, slice_index, Option, None, if◌then◌else◌, nat_eq}
use Rattle.std.specs.List.{range_with_len, filter_map}
use Rattle.std.specs.Option.{option_map}
use Rattle.std.specs.FinMap as map
use Rattle.ck_model.specs.declared.key.Key.{Key}
use Rattle.ck_model.specs.declared.key.Key.TheVariants.{Name, Node, Block}
use Rattle.ck_model.specs.declared.cell.Cell.{Cell}
use Rattle.ck_model.specs.declared.child.Child.{Child}
use Rattle.ck_model.specs.Cells.{Cells, content_at, bytes_in, size_at, named_node, is_directory_at}

-- a byte of a file's block, 0 where the block has no cell
abbrev pub block_byte : Cells → ℕ → ℕ → ℕ → ℕ
block_byte cells node index at = slice_index (bytes_in (content_at cells (Block node index))) at

-- the byte at a place of a file
abbrev pub file_byte : Cells → ℕ → ℕ → ℕ
file_byte cells node at = block_byte cells node (at / 4096) (at % 4096)

-- the bytes of a file from a place on, so many of them as stand below its size
abbrev pub file_range : Cells → ℕ → ℕ → ℕ → List ℕ
file_range cells node at len = list_map (file_byte cells node) (range_with_len at (min len (size_at cells node - at)))

-- a name in this directory, and the node that it names
abbrev pub child_in : Cells → ℕ → Key × Cell → Option Child
child_in cells directory (Name other name, cell) =
    if nat_eq other directory
    then option_map (λ node. record { name = name; node = node; dir = is_directory_at cells node }) (named_node cell.payload)
    else None
child_in cells directory (Node number, cell) = None
child_in cells directory (Block number index, cell) = None

-- the names in a directory, in the order of their bytes
abbrev pub children : Cells → ℕ → List Child
children cells directory = filter_map (child_in cells directory) (map.entries cells)
