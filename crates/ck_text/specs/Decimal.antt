-- Decimal numbers below 2^64.
use Rattle.std.specs.Prelude.{ℕ, ◌+◌, ◌-◌, ◌*◌, ◌^◌, ◌&&◌, ◌||◌, Bool, List, length, Option, Some, None, nat_eq, nat_le, nat_lt, slice_index, if◌then◌else◌}
use Rattle.std.specs.Option.{option_and_then}
use Rattle.std.specs.List.{fold}

abbrev pub is_digit : ℕ → Bool
is_digit byte = nat_le 48 byte && nat_le byte 57

-- a number, if it is below 2^64
abbrev pub bounded : ℕ → Option ℕ
bounded number = if nat_lt number (2 ^ 64) then Some number else None

-- the value with one digit more
abbrev pub next_value : Option ℕ → ℕ → Option ℕ
next_value value byte = if is_digit byte then option_and_then (λ number. bounded (number * 10 + (byte - 48))) value else None

-- more than one digit, and the first is a zero
abbrev pub needless_zero : List ℕ → Bool
needless_zero word = nat_lt 1 (length word) && nat_eq (slice_index word 0) 48

-- the number below 2^64 that a word is the decimal of
abbrev pub number_of : List ℕ → Option ℕ
number_of word = if nat_eq (length word) 0 || needless_zero word then None else fold next_value (Some 0) word
