-- What contracts see of a turnstile.
use Rattle.std.specs.Prelude.{ℕ, List, [], ◌∷◌}
use Rattle.atomic_table.specs.Seated.{TableId}

-- which turnstile it is, how many passes may be split off, and the origin of the value that it was made with
pub record Lock (O : Type 0) : Type 0 where
  pub identity : TableId
  pub callers : ℕ
  pub origin : O

-- what a pass knows of its turnstile
pub record Mark (O : Type 0) : Type 0 where
  pub identity : TableId
  pub origins : List O

abbrev pub mark_of : {O : Type 0} → Lock O → Mark O
mark_of lock = record { identity = lock.identity; origins = lock.origin ∷ [] }
