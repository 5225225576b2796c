-- Which words spell bytes.
use Rattle.std.proofs.Common.{◌≡◌, ℕ, List, Result, Ok, Err, is_some, refl, ap}
use Rattle.std.specs.Prelude.{◌↔◌, IsSome}
use Rattle.std.specs.Result.{result_ok}
use Rattle.hex.specs.Hex.{decode_of}
use Rattle.hex.specs.declared.error.FromHexError.{FromHexError}
use Rattle.hex.proofs.HexLemmas.{decode_of-ok, decode_of-digits}
use Rattle.ck_text.specs.Hexadecimal.{hex_value, IsHex}

some_is_ok : (decoded : Result (List ℕ) FromHexError) → IsSome (result_ok decoded) → (bytes : List ℕ) × (decoded ≡ Ok bytes)
some_is_ok (Ok bytes) some = (bytes, refl)
some_is_ok (Err error) some = cc some

-- a word spells bytes exactly where it is an even number of digits
pub IsSome-hex_value : (word : List ℕ) → IsSome (hex_value word) ↔ IsHex word
IsSome-hex_value word = (
  λ some.
      let found = some_is_ok (decode_of word) some in
      let parts = decode_of-ok word found.0 found.1 in
      record { even = parts.0; digits = parts.1 },
  λ is_hex. ap (λ (decoded : Result (List ℕ) FromHexError). is_some (result_ok decoded)) (decode_of-digits word is_hex.even is_hex.digits).1,
)
