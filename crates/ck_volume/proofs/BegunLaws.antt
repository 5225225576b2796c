-- What the files of a volume keep at their beginning.
use Rattle.std.proofs.Common.{◌≡◌, ℕ, IsTrue, sym, ap, subst, ◌∙◌}
use Rattle.ck_disk.specs.Disk.{Meaning, Lawful}
use Rattle.ck_model.specs.World.{World, unmounted}
use Rattle.ck_model.specs.TableWorld.{world_on}
use Rattle.ck_data.specs.Device.{store_on}
use Rattle.ck_engine.specs.declared.engine.Engine.{Engine}
use Rattle.ck_engine.specs.Engine.{table_of, data_of, world_of, KeepsWorld}
use Rattle.ck_engine.specs.Formatted.{IsFormatted, new_world}
use Rattle.ck_engine.specs.Opened.{IsBegun, IsOpened}
use Rattle.ck_engine.specs.Recovery.{Recovers}
use Rattle.ck_engine.proofs.KeptLaws.{kept-recovers}

module _ {D : Type 0} (old new : Meaning) (engine : Engine D) where
  -- they have no mounts
  begun-bare : IsBegun new engine → world_of new.shows engine ≡ unmounted (world_of new.shows engine)
  begun-bare begun = ap (λ mounts. world_on (store_on new.shows (data_of engine)) mounts (table_of engine)) begun.mounts_are

  pub opened-keeps : IsOpened old new engine → IsTrue new.tells → KeepsWorld new engine (unmounted (world_of new.shows engine))
  opened-keeps opened told = subst (λ (w : World). KeepsWorld new engine w) (begun-bare opened.begun) (opened.kept (subst IsTrue opened.any_moment.tells told))

  pub opened-recovers : Lawful new → IsOpened old new engine → IsTrue new.tells → Recovers new.shows (world_of new.shows engine)
  opened-recovers law opened told = kept-recovers new engine (world_of new.shows engine) (opened.kept (subst IsTrue opened.any_moment.tells told)) new.shows (law.shown told)

  module _ (blocks records : ℕ) (formatted : IsFormatted blocks records old new engine) where
    pub formatted-keeps : IsTrue new.tells → KeepsWorld new engine (unmounted (world_of new.shows engine))
    formatted-keeps told =
        subst (λ (w : World). KeepsWorld new engine w) (sym formatted.world ∙ begun-bare formatted.begun) (formatted.kept (subst IsTrue formatted.runs.tells told))

    pub formatted-recovers : Lawful new → IsTrue new.tells → Recovers new.shows (world_of new.shows engine)
    formatted-recovers law told =
        subst (Recovers new.shows) (sym formatted.world)
        (kept-recovers new engine (new_world blocks records) (formatted.kept (subst IsTrue formatted.runs.tells told)) new.shows (law.shown told))
