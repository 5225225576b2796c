-- What a clock means.
use Rattle.std.specs.Prelude.{ℕ, Bool}

pub record ClockMeaning : Type 0 where
  -- it tells that it always gives one moment
  pub tells : Bool
  -- that moment, where it tells it
  pub moment : ℕ
