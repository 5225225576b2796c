-- The table after a data block of a checkpoint that keeps no data became a mark.
use Rattle.std.specs.Prelude.{◌≡◌, ℕ, ◌+◌, true, false, ◌⊎◌}
use Rattle.std.specs.Option.{option_map}
use Rattle.ck_model.specs.declared.key.Key.{Key}
use Rattle.ck_model.specs.declared.change.Freed.{Freed}
use Rattle.ck_model.specs.Table.{Table, column, with_entry}
use Rattle.ck_model.specs.Chain.{as_mark, keeps_data}
use Rattle.ck_model.specs.Rules.{IsSound}
use Rattle.ck_model.specs.TableWorld.{world_on}
use Rattle.ck_model.specs.Values.{Store}
use Rattle.ck_model.specs.World.{Mounts}
use Rattle.ck_remove.specs.Removal.{IsFreed}
use Rattle.ck_remove.specs.Unseen.{IsUnseen}
use Rattle.ck_nodata.specs.declared.item.StripItem.{StripItem}
use Rattle.ck_nodata.specs.StripItem.{is_extent, unstripped_count}

abbrev pub stripped : Table → StripItem → Table
stripped t item = with_entry t item.id item.key (option_map as_mark (column t item.key item.id))

-- what a strip makes of a table, and the data block that it frees
pub record IsStrip (old new : Table) (item : StripItem) (result : Freed) : Type 0 where
  pub table : new ≡ stripped old item
  -- the table stands for the same world, whatever its data blocks hold
  pub world : (store : Store) (mounts : Mounts) → world_on store mounts new ≡ world_on store mounts old
  -- every reader of the primary or of a checkpoint that isn't gone sees what it saw, and nothing is more than it was
  pub unseen : IsUnseen old new
  pub sound : IsSound new
  -- one fewer is left to strip
  pub left : unstripped_count new + 1 ≡ unstripped_count old
  -- the data block that nothing names any more
  pub freed : IsFreed old new result

-- nothing of the checkpoint is stripped: it keeps data, or has no data block of its own
abbrev pub IsThrough : Table → ℕ → Type 0
IsThrough t fs = (keeps_data t fs ≡ true) ⊎ ((key : Key) → is_extent (column t key fs) ≡ false)
