-- A field of some bytes: a run of them that begins at a place.
use Rattle.std.specs.Prelude.{ℕ, ◌+◌, List, ◌++◌, length, take, drop}

-- the field of `count` bytes from `at` on
abbrev pub field : List ℕ → ℕ → ℕ → List ℕ
field bytes at count = take count (drop at bytes)

-- the bytes with `text` in the field from `at` on, and all others as they were
abbrev pub with_field : List ℕ → ℕ → List ℕ → List ℕ
with_field bytes at text = take at bytes ++ text ++ drop (at + length text) bytes
