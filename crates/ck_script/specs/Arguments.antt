-- What single words stand for.
use Rattle.std.specs.Prelude.{ℕ, ◌&&◌, Bool, true, false, not, List, [], ◌∷◌, length, Option, Some, None, codes, nat_eq, nat_le, if◌then◌else◌, drop, slice_index}
use Rattle.std.specs.Option.{option_and_then}
use Rattle.std.specs.List.{list_all, slice_split}
use Rattle.std.specs.Cmp.Lexicographic.{pointwise}
use Rattle.ck_text.specs.Decimal.{number_of}
use Rattle.ck_text.specs.Hexadecimal.{hex_value}

-- the word is this text
abbrev pub is_text : List ℕ → List ℕ → Bool
is_text word text = pointwise nat_eq word text

-- a printable ASCII byte that is no space
abbrev pub is_printable : ℕ → Bool
is_printable byte = nat_le 33 byte && nat_le byte 126

abbrev pub is_slash : ℕ → Bool
is_slash byte = nat_eq byte 47

-- 1 to 40 printable bytes without a slash
abbrev pub is_name : List ℕ → Bool
is_name word = nat_le 1 (length word) && nat_le (length word) 40 && list_all (λ byte. is_printable byte && not (is_slash byte)) word

abbrev pub is_file_name : List ℕ → Bool
is_file_name word = is_name word && not (is_text word (codes ".")) && not (is_text word (codes ".."))

-- a name that doesn't begin with `-`
abbrev pub checkpoint_name : List ℕ → Option (List ℕ)
checkpoint_name word = if is_name word && not (nat_eq (slice_index word 0) 45) then Some word else None

-- file names between slashes, in a word that begins with a slash and has at most 1,024 bytes
abbrev pub names_of : List ℕ → Option (List (List ℕ))
names_of word =
    if is_slash (slice_index word 0) && nat_le (length word) 1024 && list_all is_file_name (slice_split is_slash (drop 1 word))
    then Some (slice_split is_slash (drop 1 word))
    else None

-- a slash alone is the root
abbrev pub path_of : List ℕ → Option (List (List ℕ))
path_of word = if is_text word (codes "/") then Some [] else names_of word

-- a decimal up to this limit
abbrev pub number_up_to : ℕ → List ℕ → Option ℕ
number_up_to limit word = option_and_then (λ number. if nat_le number limit then Some number else None) (number_of word)

-- an actor's number, from 1 to 64
abbrev pub actor_of : List ℕ → Option ℕ
actor_of word = option_and_then (λ number. if nat_le 1 number then Some number else None) (number_up_to 64 word)

-- places and sizes, in bytes
abbrev pub place_of : List ℕ → Option ℕ
place_of word = number_up_to 1073741824 word

-- how many bytes a fill writes, and a read or a cread gives
abbrev pub fill_length : List ℕ → Option ℕ
fill_length word = number_up_to 1048576 word

abbrev pub read_length : List ℕ → Option ℕ
read_length word = number_up_to 131072 word

-- `t:` and printable bytes, which stand for themselves, or `x:` and two hexadecimal digits for each byte
abbrev pub spelled_by : List ℕ → Option (List ℕ)
spelled_by word =
    if nat_eq (slice_index word 1) 58 && nat_eq (slice_index word 0) 116 && list_all is_printable (drop 2 word) then Some (drop 2 word)
    else if nat_eq (slice_index word 1) 58 && nat_eq (slice_index word 0) 120 then hex_value (drop 2 word)
    else None

-- at most 65,536 bytes
abbrev pub bytes_of : List ℕ → Option (List ℕ)
bytes_of word = option_and_then (λ bytes. if nat_le (length bytes) 65536 then Some bytes else None) (spelled_by word)

abbrev pub single : List ℕ → Option ℕ
single (byte ∷ []) = Some byte
single _ = None

-- two hexadecimal digits
abbrev pub byte_of : List ℕ → Option ℕ
byte_of word = option_and_then single (hex_value word)

-- one of `a` to `z`
abbrev pub letter_of : List ℕ → Option ℕ
letter_of word =
    if nat_eq (length word) 1 && nat_le 97 (slice_index word 0) && nat_le (slice_index word 0) 122
    then Some (slice_index word 0)
    else None

abbrev pub switch_of : List ℕ → Option Bool
switch_of word = if is_text word (codes "on") then Some true else if is_text word (codes "off") then Some false else None
