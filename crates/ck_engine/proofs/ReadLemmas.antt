-- What an event of a read of a checkpoint leaves, and what follows of its answer.
use Rattle.std.proofs.Common.{◌≡◌, ℕ, Result, Ok, Err, List, ap}
use Rattle.ck_disk.specs.Disk.{Meaning}
use Rattle.ck_disk.specs.Runs.{OnlyReads}
use Rattle.ck_model.specs.declared.reply.Reply.{Reply}
use Rattle.ck_model.specs.ReadCalls.{checkpoint_read}
use Rattle.ck_model.specs.Step.{answered}
use Rattle.ck_model.specs.World.{World}
use Rattle.ck_data.specs.declared.fault.Fault.{Fault}
use Rattle.ck_files.specs.Room.{answered_with}
use Rattle.ck_read.specs.declared.progress.ReadProgress.{ReadProgress}
use Rattle.ck_read.specs.Mounted.{IsReadIn, IsReadNow}
use Rattle.ck_engine.specs.declared.engine.Engine.{Engine}
use Rattle.ck_engine.specs.declared.reads.ReadAnswer.{ReadAnswer}
use Rattle.ck_engine.specs.declared.reads.ReadAnswer.TheVariants.{More, Replied}
use Rattle.ck_engine.specs.Engine.{disk_of, layout_of, table_of, blocks_of, IsWhole, GoesOn}
use Rattle.ck_engine.specs.ReadAnswer.{IfMore, IfReplied}
use Rattle.ck_engine.proofs.AttemptLemmas.{reads-goes}

-- ---- what it leaves

module _ {D : Type 0} (old new : Meaning) (before after : Engine D) (reads : OnlyReads old new) (others : after ≡ record before { disk = disk_of after }) where
  pub device-goes : IsWhole old before → GoesOn old new before after
  device-goes whole = reads-goes old new before after whole reads (ap layout_of others) (ap table_of others) (ap blocks_of others) (ap (λ (engine : Engine D). engine.stripped) others)

-- ---- what its answer says

if_replied_map : (P Q : Reply → Type 0) (r : Result ReadAnswer Fault) → ((reply : Reply) → P reply → Q reply) → IfReplied r P → IfReplied r Q
if_replied_map P Q (Ok (More read)) f p = tt
if_replied_map P Q (Ok (Replied reply)) f p = f reply p
if_replied_map P Q (Err why) f p = tt

if_more_map : (P Q : ReadProgress → Type 0) (r : Result ReadAnswer Fault) → ((read : ReadProgress) → P read → Q read) → IfMore r P → IfMore r Q
if_more_map P Q (Ok (More read)) f p = f read p
if_more_map P Q (Ok (Replied reply)) f p = tt
if_more_map P Q (Err why) f p = tt

module _ (r : Result ReadAnswer Fault) (read : ReadProgress) where
  -- where what is known says that the read is one of this call
  module _ (w : World) (Told Known : Type 0) (actor letter : ℕ) (path : List (List ℕ)) (at len : ℕ) (known : Known → IsReadIn w actor letter path at len read) where
    pub replied_of : IfReplied r (λ reply. Told → (actor letter : ℕ) (path : List (List ℕ)) (at len : ℕ) → IsReadIn w actor letter path at len read → answered w (checkpoint_read w actor letter path at len) ≡ answered_with reply w)
        → IfReplied r (λ reply. Told → Known → answered w (checkpoint_read w actor letter path at len) ≡ answered_with reply w)
    replied_of = if_replied_map _ _ r (λ reply all told k. all told actor letter path at len (known k))

    pub fits_of : IfMore r (λ later. Told → (actor letter : ℕ) (path : List (List ℕ)) (at len : ℕ) → IsReadIn w actor letter path at len read → IsReadNow w actor letter path at len later)
        → IfMore r (λ later. Told → Known → IsReadNow w actor letter path at len later)
    fits_of = if_more_map _ _ r (λ later all told k. all told actor letter path at len (known k))
