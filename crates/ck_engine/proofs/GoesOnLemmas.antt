-- A volume that goes on after a call.
use Rattle.std.proofs.Common.{◌⊎◌, inl, inr, ⊎_elim, IsTrue}
use Rattle.ck_disk.specs.Disk.{Image, Meaning, Lawful, Step, LeavesOnly}
use Rattle.ck_log.specs.Layout.{Layout, base_of}
use Rattle.ck_alloc.specs.Blocks.{Allocation}
use Rattle.ck_model.specs.World.{World}
use Rattle.ck_files.specs.Allocated.{KeepsBusy}
use Rattle.ck_engine.specs.Committed.{Keeps, OpensToEither}
use Rattle.ck_disk.specs.Runs.{OnlyReads}
use Rattle.ck_data.specs.Stored.{OnlyStores}
use Rattle.ck_engine.proofs.CommittedLemmas.{keeps-recovers, keeps-busy, keeps-stores, keeps-torn, keeps-reads, leaves_stores}
use Rattle.ck_disk.proofs.MomentLaws.{leaves_step, leaves_start}

-- either of two worlds is kept
abbrev pub KeepsEither : Layout → Allocation → Meaning → World → World → Type 0
KeepsEither layout blocks m a b = Keeps layout blocks m a ⊎ Keeps layout blocks m b

module _ (a b : World) where
  either_recovers : (layout : Layout) (blocks : Allocation) (m : Meaning) → KeepsEither layout blocks m a b → (image : Image) → m.may_leave image → OpensToEither a b image
  either_recovers layout blocks m either image left =
      ⊎_elim
      (λ (keeps : Keeps layout blocks m a). inl (keeps-recovers layout blocks m a keeps image left))
      (λ (keeps : Keeps layout blocks m b). inr (keeps-recovers layout blocks m b keeps image left))
      either

  pub either_busy : (layout : Layout) (blocks later : Allocation) (m : Meaning) → KeepsBusy blocks later → KeepsEither layout blocks m a b → KeepsEither layout later m a b
  either_busy layout blocks later m more either =
      ⊎_elim
      (λ (keeps : Keeps layout blocks m a). inl (keeps-busy layout blocks m a keeps later more))
      (λ (keeps : Keeps layout blocks m b). inr (keeps-busy layout blocks m b keeps later more))
      either

  pub either_stores : (layout : Layout) (blocks : Allocation) (m new : Meaning) → IsTrue m.tells → OnlyStores (base_of layout.records) blocks m new → KeepsEither layout blocks m a b → KeepsEither layout blocks new a b
  either_stores layout blocks m new told stores either =
      ⊎_elim
      (λ (keeps : Keeps layout blocks m a). inl (keeps-stores layout blocks m a keeps new told stores))
      (λ (keeps : Keeps layout blocks m b). inr (keeps-stores layout blocks m b keeps new told stores))
      either

  pub either_reads : (layout : Layout) (blocks : Allocation) (m new : Meaning) → OnlyReads m new → KeepsEither layout blocks m a b → KeepsEither layout blocks new a b
  either_reads layout blocks m new reads either =
      ⊎_elim
      (λ (keeps : Keeps layout blocks m a). inl (keeps-reads layout blocks m a keeps new reads))
      (λ (keeps : Keeps layout blocks m b). inr (keeps-reads layout blocks m b keeps new reads))
      either

  -- where nothing was done
  pub leaves_either_start : (layout : Layout) (blocks : Allocation) (m : Meaning) → Lawful m → KeepsEither layout blocks m a b → LeavesOnly m m (OpensToEither a b)
  leaves_either_start layout blocks m law either = leaves_start m (OpensToEither a b) law (either_recovers layout blocks m either)

  -- where a further call of the device leaves one of the two
  pub leaves_either_step : (layout : Layout) (blocks : Allocation) (old mid new : Meaning) → LeavesOnly old mid (OpensToEither a b) → Step mid new → KeepsEither layout blocks new a b → LeavesOnly old new (OpensToEither a b)
  leaves_either_step layout blocks old mid new ran step either = leaves_step old mid new (OpensToEither a b) ran step (either_recovers layout blocks new either)

  -- where data blocks are stored in free places
  pub leaves_either_stores : (layout : Layout) (blocks : Allocation) (old mid new : Meaning) → LeavesOnly old mid (OpensToEither a b) → OnlyStores (base_of layout.records) blocks mid new → KeepsEither layout blocks mid a b
      → LeavesOnly old new (OpensToEither a b)
  leaves_either_stores layout blocks old mid new ran stores either =
      leaves_stores (base_of layout.records) blocks old mid new (OpensToEither a b) ran stores (λ image from.
      ⊎_elim
      (λ (keeps : Keeps layout blocks mid a). inl (keeps-torn layout blocks mid a keeps image from))
      (λ (keeps : Keeps layout blocks mid b). inr (keeps-torn layout blocks mid b keeps image from))
      either)
