-- The table of a new volume: the counters and the root directory.
use Rattle.std.specs.Prelude.{◌⊎◌, ℕ, ◌-◌, false, IsTrue, List, ◌∷◌, ◌++◌, replicate}
use Rattle.ck_disk.specs.Disk.{Image, Meaning, Outside, Reaches}
use Rattle.ck_log.specs.Layout.{Layout, OutsideGateAndAreas, table_blocks, base_of}
use Rattle.ck_log.specs.Images.{HasTable}

-- a block of zeros
abbrev pub blank_block : List ℕ
blank_block = replicate 4096 0

-- slot 0: the kind of the counters, and 1 as the next stamp, the next id and the next file number
abbrev pub counters_slot : List ℕ
counters_slot = 1 ∷ replicate 14 0 ++ 1 ∷ replicate 3 0 ++ 1 ∷ replicate 3 0 ++ 1 ∷ replicate 104 0

-- slot 1: the kind of a node, a directory, with the number 0 and the stamp 0
abbrev pub root_slot : List ℕ
root_slot = 4 ∷ 1 ∷ replicate 126 0

-- the first of the table's blocks; the other slots are free
unfoldable pub first_block : List ℕ
first_block = counters_slot ++ root_slot ++ replicate 3840 0

-- the table in so many blocks
abbrev pub first_table : ℕ → Image
first_table count = first_block ∷ replicate (count - 1) blank_block

-- a volume as it is made
abbrev pub new_layout : ℕ → ℕ → Layout
new_layout blocks records = record { blocks = blocks; records = records; second = false }

-- While a volume is made, an image has a header from before, or it has the whole new table. Behind both areas it is an
-- image from before.
pub record WholeOrBefore (layout : Layout) (all : Image → Type 0) (image : Image) : Type 0 where
  pub header : (Reaches (OutsideGateAndAreas layout.records) all image)
      ⊎ HasTable layout (first_table (table_blocks layout.records)) image
  pub others : Reaches (Outside 0 (base_of layout.records)) all image

-- what a crash leaves while a volume is made, at any moment of it
abbrev pub FormatLeaves : Layout → Meaning → Image → Type 0
FormatLeaves layout old image = IsTrue old.tells → WholeOrBefore layout old.may_leave image
