-- Hexadecimal digits, in either case.
use Rattle.std.specs.Prelude.{◌≡◌, ℕ, ◌%◌, List, length, Option}
use Rattle.std.specs.List.{AllPass}
use Rattle.std.specs.Result.{result_ok}
use Rattle.hex.specs.Hex.{decode_of, is_hex_digit}

-- an even number of hexadecimal digits
pub record IsHex (word : List ℕ) : Type 0 where
  pub even : length word % 2 ≡ 0
  pub digits : AllPass is_hex_digit word

-- the bytes that a word spells by two digits each, where it is such a word
abbrev pub hex_value : List ℕ → Option (List ℕ)
hex_value word = result_ok (decode_of word)
