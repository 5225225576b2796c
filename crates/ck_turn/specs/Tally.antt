-- What contracts see of a tally.
use Rattle.std.specs.Prelude.{ℕ, List}
use Rattle.ck_turn.specs.declared.tally.Visit.{Visit}

pub record TallyState : Type 0 where
  pub owner : ℕ
  pub visits : List Visit
