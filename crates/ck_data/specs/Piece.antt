-- The part of a block that bytes of a call stand in.
use Rattle.std.specs.Prelude.{◌≡◌, ◌≤◌, ◌<◌, ◌+◌, ◌*◌, ℕ}

-- The bytes of the block with this index from `at` on, so many of them, are those from `from` on among so many bytes that
-- stand at a place of the file; no other byte of the block is one of these.
pub record IsPiece (place len index at from count : ℕ) : Type 0 where
  pub within : at + count ≤ 4096
  pub inside : from + count ≤ len
  pub same : 0 < count → index * 4096 + at ≡ place + from
  pub low : (k : ℕ) → k < 4096 → place ≤ index * 4096 + k → index * 4096 + k < place + len → at ≤ k
  pub high : (k : ℕ) → k < 4096 → place ≤ index * 4096 + k → index * 4096 + k < place + len → k < at + count
