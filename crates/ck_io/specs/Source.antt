-- What a source of bytes means at a moment.
use Rattle.std.specs.Prelude.{ℕ, Bool, List}

pub record SourceMeaning : Type 0 where
  -- it tells what is left
  pub tells : Bool
  -- the bytes that reads will give, where it tells them
  pub left : List ℕ
  pub faults : ℕ
