-- The blocks that a write puts.
use Rattle.std.specs.Prelude.{ℕ, List, map as list_map}
use Rattle.ck_model.specs.declared.key.Key.{Key}
use Rattle.ck_model.specs.declared.key.Key.TheVariants.{Block}
use Rattle.ck_model.specs.declared.cell.Cell.{Cell}
use Rattle.ck_model.specs.declared.cell.Payload.TheVariants.{Bytes}
use Rattle.ck_model.specs.Cells.{Cells}
use Rattle.ck_model.specs.Changes.{cell_of, block_after}

-- the blocks with these indexes, once these bytes stand at a place of the file
abbrev pub blocks_after : Cells → ℕ → ℕ → ℕ → List ℕ → List ℕ → List (Key × Cell)
blocks_after cells stamp node at bytes indexes =
    list_map (λ index. (Block node index, cell_of stamp (Bytes (block_after cells node at bytes index)))) indexes
