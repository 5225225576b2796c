-- A read of a checkpoint's file under way: the bytes that it has, those that its next turn takes, and how many turns are left.
use Rattle.std.specs.Prelude.{◌≡◌, ◌≤◌, ◌⊎◌, ℕ, ◌+◌, ◌-◌, ◌%◌, Bool, false, List, Option, length, min, max, map as list_map, nat_le, Ok}
use Rattle.std.specs.List.{range_with_len}
use Rattle.std.specs.Option.{option_map_or}
use Rattle.ck_model.specs.Cells.{Cells, size_at}
use Rattle.ck_model.specs.Changes.{touched}
use Rattle.ck_model.specs.Contents.{file_byte, file_range}
use Rattle.ck_model.specs.Limits.{file_limit}
use Rattle.ck_model.specs.Walk.{file_at}
use Rattle.ck_read.specs.declared.progress.ReadProgress.{ReadProgress}

-- where the next byte stands in the file
abbrev pub next_place : ReadProgress → ℕ
next_place progress = progress.from + length progress.bytes

-- no byte of the range is left
abbrev pub is_through : ReadProgress → Bool
is_through progress = nat_le progress.to (next_place progress)

-- so many bytes of the range are left
abbrev pub left_len : ReadProgress → ℕ
left_len progress = progress.to - next_place progress

-- so many of them stand in the block of the next one
abbrev pub part_len : ReadProgress → ℕ
part_len progress = min (4096 - next_place progress % 4096) (left_len progress)

-- the bytes of a file from a place on, so many of them, whatever its size
abbrev pub bytes_from : Cells → ℕ → ℕ → ℕ → List ℕ
bytes_from cells node place count = list_map (file_byte cells node) (range_with_len place count)

-- the bytes of the range that stand in the block of the next one
abbrev pub next_part : Cells → ReadProgress → List ℕ
next_part cells progress = bytes_from cells progress.node (next_place progress) (part_len progress)

-- so many bytes from a place on are read in so many turns: one for each block that they touch, and one where there are none
abbrev pub turns_of : ℕ → ℕ → ℕ
turns_of place count = max 1 (length (touched place count))

abbrev pub turns_left : ReadProgress → ℕ
turns_left progress = turns_of (next_place progress) (left_len progress)

-- the turns of the whole range, and those that it has had of them
abbrev pub all_turns : ReadProgress → ℕ
all_turns progress = turns_of progress.from (progress.to - progress.from)

abbrev pub turns_had : ReadProgress → ℕ
turns_had progress = all_turns progress - turns_left progress

-- none before it was begun
abbrev pub had_by : Option ReadProgress → ℕ
had_by begun = option_map_or turns_had begun 0

-- whole blocks' parts of the range were taken, from its beginning on
pub record IsUnderWay (progress : ReadProgress) : Type 0 where
  pub within : length progress.bytes ≤ progress.to - progress.from
  pub limit : progress.to ≤ file_limit
  -- the next byte is the range's first, or begins a block, or isn't there
  pub edge : (next_place progress ≡ progress.from) ⊎ (next_place progress % 4096 ≡ 0) ⊎ (next_place progress ≡ progress.to)

-- a read from this place on that was begun and isn't through
pub record IsOnWay (at : ℕ) (progress : ReadProgress) : Type 0 where
  pub under_way : IsUnderWay progress
  pub from_is : progress.from ≡ at
  pub more : is_through progress ≡ false

-- the bytes are those that this map has from the range's beginning on, and the range ends within the file
pub record ReadFits (cells : Cells) (progress : ReadProgress) : Type 0 where
  pub under_way : IsUnderWay progress
  pub end : progress.to ≤ size_at cells progress.node
  pub bytes : progress.bytes ≡ file_range cells progress.node progress.from (length progress.bytes)

-- it reads at most so many bytes from a place on of the file that this path leads to in the map, as far as they stand below its size
pub record IsReadOf (cells : Cells) (path : List (List ℕ)) (at len : ℕ) (progress : ReadProgress) : Type 0 where
  pub file : file_at cells path ≡ Ok progress.node
  pub from : progress.from ≡ at
  pub to : progress.to ≡ min (at + len) (size_at cells progress.node)
  pub fits : ReadFits cells progress
