-- What a sink of bytes means at a moment.
use Rattle.std.specs.Prelude.{ℕ, Bool, List}

pub record SinkMeaning : Type 0 where
  -- it tells what it holds
  pub tells : Bool
  -- the bytes that were written, where it tells them
  pub holds : List ℕ
  pub faults : ℕ
