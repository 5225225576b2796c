-- The numbers of an order.
use Rattle.std.specs.Prelude.{ℕ, ◌+◌, List}
use Rattle.std.specs.List.{concat}
use Rattle.ck_slots.specs.declared.order.Place.{Place}
use Rattle.ck_slots.specs.declared.order.Order.{Order}
use Rattle.ck_slots.specs.Pieces.{offset}

-- in one row
abbrev pub numbers_in : Order → List ℕ
numbers_in order = concat order.pieces.items

-- how many of them stand before this place
abbrev pub index_in : Order → Place → ℕ
index_in order place = offset order.pieces.items place.piece + place.within
