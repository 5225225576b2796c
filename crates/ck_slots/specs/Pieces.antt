-- Numbers in a row, in pieces.
use Rattle.std.specs.Prelude.{ℕ, suc, ◌<◌, ◌≤◌, List, [], length, take, slice_index_or}
use Rattle.std.specs.List.{concat}
use Rattle.ck_slots.specs.declared.order.Place.{Place}

-- how many numbers stand before this piece
abbrev pub offset : List (List ℕ) → ℕ → ℕ
offset pieces piece = length (concat (take piece pieces))

-- the piece with this number
abbrev pub piece_at : List (List ℕ) → ℕ → List ℕ
piece_at pieces piece = slice_index_or pieces piece []

-- there is such a piece, and the place is in it or at its end
pub record IsPlace (pieces : List (List ℕ)) (place : Place) : Type 0 where
  pub piece : place.piece < length pieces
  pub within : place.within ≤ length (piece_at pieces place.piece)

-- a number stands at the place
pub record IsTaken (pieces : List (List ℕ)) (place : Place) : Type 0 where
  pub piece : place.piece < length pieces
  pub within : place.within < length (piece_at pieces place.piece)

-- no piece but the last is empty
abbrev pub AreFilled : List (List ℕ) → Type 0
AreFilled pieces = (k : ℕ) → suc k < length pieces → 0 < length (piece_at pieces k)
