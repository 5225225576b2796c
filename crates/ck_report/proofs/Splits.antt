-- Texts that are the same begin with the same words and numbers.
use Rattle.std.proofs.Common.{◌≡◌, ◌≤◌, ◌<◌, ℕ, true, List, [], ◌∷◌, ◌++◌, length, refl, ap, subst, ◌∙◌, arith}
use Rattle.std.specs.List.{AllByRecursion}
use Rattle.std.specs.Fmt.{decimal}
use Rattle.std.specs.Str.Parse.{AllDigits}
use Rattle.std.proofs.lemmas.Fmt.{decimal_injective, decimal_is_IsNumeral}
use Rattle.std.proofs.lemmas.Str.Parse.{digit_from_value}
use Rattle.std.proofs.lemmas.List.{get_or-drop}
use Rattle.std.proofs.lemmas.List.Elements.{recursion_from_All}
use Rattle.hex.specs.Hex.{IsBytes, decode_of, encode_lower, is_hex_digit}
use Rattle.hex.proofs.HexLemmas.{decode_of-encode_lower, decode_of-ok, decode_of-same}
use Rattle.ck_model.specs.Name.{IsName, IsNameByte}
use Rattle.ck_report.specs.Words.{digest_in}
use Rattle.ck_report.specs.Printed.{IsNumber}

-- the text begins with a byte that isn't such a one
abbrev pub Ends : (ℕ → Type 0) → List ℕ → Type 0
Ends P [] = ⊥
Ends P (byte ∷ rest) = P byte → ⊥

-- two texts that begin with such bytes, followed by another one
pub split : (P : ℕ → Type 0) (xs ys r s : List ℕ) → AllByRecursion P xs → AllByRecursion P ys → Ends P r → Ends P s → xs ++ r ≡ ys ++ s → (xs ≡ ys) × (r ≡ s)
split P [] [] r s all each over end h = (refl, h)
split P [] (y ∷ ys) [] s all each over end h = absurd over
split P [] (y ∷ ys) (x ∷ r) s all each over end h = let same : y ≡ x = cc in absurd (over (subst P same each.0))
split P (x ∷ xs) [] r [] all each over end h = absurd end
split P (x ∷ xs) [] r (y ∷ s) all each over end h = let same : x ≡ y = cc in absurd (end (subst P same all.0))
split P (x ∷ xs) (y ∷ ys) r s all each over end h =
    let rest : xs ++ r ≡ ys ++ s = cc in
    let below = split P xs ys r s all.1 each.1 over end rest in
    (cc, below.1)

-- a decimal digit
pub record IsDigit (byte : ℕ) : Type 0 where
  pub low : 48 ≤ byte
  pub high : byte ≤ 57

digits_each : (ds : List ℕ) → AllDigits 10 ds → AllByRecursion IsDigit ds
digits_each [] all = tt
digits_each (d ∷ ds) all = let is = digit_from_value d all.0 in (record { low = is.0; high = is.1 }, digits_each ds all.1)

pub decimal_digits : (n : ℕ) → IsNumber n → AllByRecursion IsDigit (decimal n)
decimal_digits n h = digits_each (decimal n) (decimal_is_IsNumeral n h).0.1

pub no_digit : (byte : ℕ) → byte < 48 → IsDigit byte → ⊥
no_digit byte few is = omega (arith, few, is.low)

pub no_digit_above : (byte : ℕ) → 57 < byte → IsDigit byte → ⊥
no_digit_above byte many is = omega (arith, many, is.high)

-- a number before a text that has no digit first
pub number_first : (m n : ℕ) (r s : List ℕ) → IsNumber m → IsNumber n → Ends IsDigit r → Ends IsDigit s → decimal m ++ r ≡ decimal n ++ s → (m ≡ n) × (r ≡ s)
number_first m n r s small few over end h =
    let apart = split IsDigit (decimal m) (decimal n) r s (decimal_digits m small) (decimal_digits n few) over end h in
    (decimal_injective m n small few apart.0, apart.1)

-- a number's first byte
pub first_digit : (n : ℕ) → IsNumber n → (byte : ℕ) × (rest : List ℕ) × IsDigit byte × (decimal n ≡ byte ∷ rest)
first_digit n small = from (decimal n) (decimal_is_IsNumeral n small).0.0 (decimal_digits n small)
  where
    from : (ds : List ℕ) → 0 < length ds → AllByRecursion IsDigit ds → (byte : ℕ) × (rest : List ℕ) × IsDigit byte × (ds ≡ byte ∷ rest)
    from [] some all = absurd (omega (arith, some))
    from (d ∷ ds) some all = (d, ds, all.0, refl)

-- a hexadecimal digit
abbrev IsHexDigit : ℕ → Type 0
IsHexDigit byte = is_hex_digit byte ≡ true

hex_digits : (bytes : List ℕ) → IsBytes bytes → AllByRecursion IsHexDigit (encode_lower bytes)
hex_digits bytes is = recursion_from_All IsHexDigit (encode_lower bytes) (decode_of-ok (encode_lower bytes) bytes (decode_of-encode_lower bytes is)).1

-- bytes in hexadecimal, at the end of a line
pub bytes_tell : (a b r s : List ℕ) → IsBytes a → IsBytes b → encode_lower a ++ 10 ∷ r ≡ encode_lower b ++ 10 ∷ s → (a ≡ b) × (r ≡ s)
bytes_tell a b r s is are h =
    let apart = split IsHexDigit (encode_lower a) (encode_lower b) (10 ∷ r) (10 ∷ s) (hex_digits a is) (hex_digits b are) (λ e. cc) (λ e. cc) h in
    let same = decode_of-same (encode_lower a) a b (decode_of-encode_lower a is) (ap decode_of apart.0 ∙ decode_of-encode_lower b are) in
    (same, cc)

-- the bytes of a digest are bytes
pub digest_bytes : (stream : List ℕ) → IsBytes stream → IsBytes (digest_in stream)
digest_bytes stream is i = rw (get_or-drop) (is _)

pub name_bytes : (name : List ℕ) → IsName name → AllByRecursion IsNameByte name
name_bytes name is = recursion_from_All IsNameByte name is.each

pub low_ends_name : (byte : ℕ) → byte < 33 → IsNameByte byte → ⊥
low_ends_name byte few is = omega (arith, few, is.low)

pub slash_ends_name : IsNameByte 47 → ⊥
slash_ends_name is = is.no_slash refl
