-- What is left to do behind everybody's back: checkpoints that are gone are removed, and the data blocks of those that keep no data are
-- given back.
use Rattle.std.specs.Prelude.{◌≡◌, ◌⊎◌, ℕ, ◌+◌, false}
use Rattle.ck_model.specs.Table.{Table}
use Rattle.ck_model.specs.Chain.{is_live}
use Rattle.ck_model.specs.Placed.{NoneGone}
use Rattle.ck_remove.specs.Gone.{left_of}
use Rattle.ck_nodata.specs.StripItem.{unstripped_count}
use Rattle.ck_nodata.specs.Stripped.{IsThrough}

-- nothing is left
pub record IsDrained (t : Table) : Type 0 where
  pub none : NoneGone t
  pub stripped : unstripped_count t ≡ 0

-- one step was taken: of a removal, or where no checkpoint was gone, a strip
abbrev pub IsStepped : Table → Table → Type 0
IsStepped old new = (left_of new + 1 ≡ left_of old) ⊎ (NoneGone old × (unstripped_count new + 1 ≡ unstripped_count old))

-- nothing is left to strip of this checkpoint: it is gone, or data is kept there, or it has no data block of its own
abbrev pub IsOver : Table → ℕ → Type 0
IsOver t id = (is_live t id ≡ false) ⊎ IsThrough t id
