-- A source and a sink in memory.
use Rattle.std.specs.Prelude.{ℕ, List}

pub record MemSourceState : Type 0 where
  -- the bytes that reads will give
  pub left : List ℕ
  -- a call gives at most so many
  pub piece : ℕ
  -- the numbers of the calls that fail, counted from 1
  pub fails : List ℕ
  -- how many calls were made
  pub calls : ℕ
  -- how many of them failed
  pub faults : ℕ

pub record MemSinkState : Type 0 where
  -- the bytes that were written
  pub holds : List ℕ
  -- the numbers of the calls that fail, counted from 1
  pub fails : List ℕ
  -- how many calls were made
  pub calls : ℕ
  -- how many of them failed
  pub faults : ℕ
