-- Bytes that are taken from the front, and bytes that are added at the end.
use Rattle.std.specs.Prelude.{◌≡◌, ℕ, List, ◌++◌}

-- the bytes end with that rest
pub record EndsWith (bytes rest : List ℕ) : Type 0 where
  pub taken : List ℕ
  pub parts : bytes ≡ taken ++ rest

-- old gained the first bytes of those, from none to all of them
pub record GainsPrefix (old new bytes : List ℕ) : Type 0 where
  pub gained : List ℕ
  pub missing : List ℕ
  pub parts : bytes ≡ gained ++ missing
  pub appended : new ≡ old ++ gained
