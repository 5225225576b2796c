-- What an image of a device says of the volume on it.
use Rattle.std.specs.Prelude.{◌≡◌, ◌⊎◌, ℕ, Bool, IsTrue, ◌==◌, [], length, get_or, slice_index, take, drop}
use Rattle.ck_disk.specs.Disk.{Image, Meaning, Agrees, Reaches}
use Rattle.ck_log.specs.Layout.{Layout, OutsideGateAndAreas, table_blocks, area_at}
use Rattle.ck_log.specs.Header.{Recovered, recovered_by}

-- so many blocks from a place on
abbrev pub part : ℕ → ℕ → Image → Image
part at count image = take count (drop at image)

-- the gate, block 1, names the second area; only its first byte is looked at
abbrev pub names_second : Image → Bool
names_second image = slice_index (get_or image 1 []) 0 == 71

-- the volume that the image's header states, with the area that its gate names
abbrev pub recovered_region : Image → Recovered
recovered_region image = recovered_by (get_or image 0 []) (names_second image) (length image)

-- the table that the image has: the area that its own gate names
abbrev pub table_on : Layout → Image → Image
table_on layout image = part (area_at layout.records (names_second image)) (table_blocks layout.records) image

-- the blocks of the area that the layout itself names
abbrev pub area_of : Layout → Image → Image
area_of layout image = part (area_at layout.records layout.second) (table_blocks layout.records) image

-- the image's gate names this layout's area, and it has this table there
pub record HasTable (layout : Layout) (blocks image : Image) : Type 0 where
  pub gate : names_second image ≡ layout.second
  pub table : table_on layout image ≡ blocks

-- Each image that a crash may leave has the table that reads give, in this layout's area. It is so once a volume was
-- formatted or opened, or its table committed.
abbrev pub Settled : Layout → Meaning → Type 0
Settled layout m = IsTrue m.tells → (image : Image) → m.may_leave image → HasTable layout (table_on layout m.shows) image

-- The image has the table from before. But for the gate and the two areas it is an image from before: it has the same
-- header, and each data block as that one has it.
pub record HasBefore (layout : Layout) (before : Image) (all : Image → Type 0) (image : Image) : Type 0 where
  pub table : table_on layout image ≡ before
  pub others : Reaches (OutsideGateAndAreas layout.records) all image

-- The image has the new table. But for the gate and the two areas it is what reads gave before, so each data block is
-- there as it was written.
pub record HasAfter (layout : Layout) (after shows image : Image) : Type 0 where
  pub table : table_on layout image ≡ after
  pub others : Agrees (OutsideGateAndAreas layout.records) shows image

-- what a crash leaves at any moment of a commit after which the table is this one
abbrev pub CommitLeaves : Layout → Image → Meaning → Image → Type 0
CommitLeaves layout after old image =
    IsTrue old.tells → HasBefore layout (table_on layout old.shows) old.may_leave image ⊎ HasAfter layout after old.shows image
