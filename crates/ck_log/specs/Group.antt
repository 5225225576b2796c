-- The blocks of a table that are committed together.
use Rattle.std.specs.Prelude.{◌≡◌, ◌⊎◌, [], ◌∷◌, length}
use Rattle.ck_disk.specs.Disk.{Image}
use Rattle.ck_log.specs.Layout.{Layout, table_blocks}

-- none, or all blocks of a table
abbrev pub IsWhole : Layout → Image → Type 0
IsWhole layout table = (table ≡ []) ⊎ (length table ≡ table_blocks layout.records)

-- the table after a commit of these blocks
abbrev pub table_after : Image → Image → Image
table_after before [] = before
table_after before (first ∷ rest) = first ∷ rest
