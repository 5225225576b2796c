-- Whether there is room for what changes take.
use Rattle.std.specs.Prelude.{ℕ, Bool, ◌&&◌, nat_le}
use Rattle.ck_model.specs.declared.change.Cost.{Cost}

-- the data blocks and the records are free
abbrev pub fits_in : Cost → ℕ → ℕ → Bool
fits_in cost free spare = nat_le cost.blocks free && nat_le cost.records spare
