-- Whether an event answered its call, and what it leaves where there is more to do of it.
use Rattle.std.specs.Prelude.{◌≡◌, ◌⊎◌, ⊤, ℕ, ◌+◌, None, IsTrue}
use Rattle.ck_disk.specs.Disk.{Meaning}
use Rattle.ck_disk.specs.Runs.{OnlyReads}
use Rattle.ck_disk.specs.declared.disk.Disk.{Ghosts}
use Rattle.ck_model.specs.declared.call.Call.{Call}
use Rattle.ck_model.specs.declared.reply.Reply.{Reply}
use Rattle.ck_model.specs.World.{World, unmounted}
use Rattle.ck_read.specs.declared.progress.ReadProgress.{ReadProgress}
use Rattle.ck_engine.specs.declared.reads.ReadAnswer.{ReadAnswer}
use Rattle.ck_engine.specs.declared.reads.ReadAnswer.TheVariants as turn
use Rattle.ck_engine.specs.Engine as files
use Rattle.ck_volume.specs.Present as now
use Rattle.ck_nodata.specs.StripItem.{unstripped_count}
use Rattle.ck_files.specs.Drained.{IsOver}
use Rattle.ck_volume.specs.declared.event.Progress.{Progress}
use Rattle.ck_volume.specs.declared.event.Progress.TheVariants as progress
use Rattle.ck_volume.specs.declared.event.Turn.{Turn}
use Rattle.ck_volume.specs.declared.event.Turn.TheVariants.{More, Answered}
use Rattle.ck_volume.specs.declared.volume.Volume.{Volume}
use Rattle.ck_volume.specs.Progress.{had_of, FitsHistory, IsBegunFor}
use Rattle.ck_volume.specs.Volume.{broken_of, disk_of, origin_of, table_of, mounts_of, history_of, told_of, world_of, KeepsLog}

abbrev pub OnAnswered : Turn → Type 0 → Type 0
OnAnswered More X = ⊤
OnAnswered Answered X = X

abbrev pub OnMore : Turn → Type 0 → Type 0
OnMore More X = X
OnMore Answered X = ⊤

-- A call's entry comes where it is answered, and where it begins to strip; a turn that strips on has none.
abbrev pub OnEntry : Progress → Turn → Progress → Type 0 → Type 0
OnEntry (progress.Strip id) turn now X = ⊤
OnEntry progress.Fresh Answered now X = X
OnEntry progress.Fresh More (progress.Strip id) X = X
OnEntry progress.Fresh More now X = ⊤
OnEntry (progress.Read read) Answered now X = X
OnEntry (progress.Read read) More now X = ⊤

-- what was on its way wasn't a strip
abbrev pub UnlessStrip : Progress → Type 0 → Type 0
UnlessStrip progress.Fresh X = X
UnlessStrip (progress.Read read) X = X
UnlessStrip (progress.Strip id) X = ⊤

-- it was a strip of the checkpoint with this id
abbrev pub OnStrip : Progress → (ℕ → Type 0) → Type 0
OnStrip progress.Fresh P = ⊤
OnStrip (progress.Read read) P = ⊤
OnStrip (progress.Strip id) P = P id

-- the call goes on, and doesn't strip
abbrev pub OnReading : Turn → Progress → Type 0 → Type 0
OnReading Answered now X = ⊤
OnReading More progress.Fresh X = X
OnReading More (progress.Read read) X = X
OnReading More (progress.Strip id) X = ⊤

-- how many entries a call has where its next turn comes
abbrev pub entries_had : Progress → ℕ
entries_had progress.Fresh = 0
entries_had (progress.Read read) = 0
entries_had (progress.Strip id) = 1

-- a reply, and a read that goes on
abbrev pub OnReply : ReadAnswer → (Reply → Type 0) → Type 0
OnReply (turn.More read) P = ⊤
OnReply (turn.Replied reply) P = P reply

abbrev pub OnRead : ReadAnswer → (ReadProgress → Type 0) → Type 0
OnRead (turn.More read) P = P read
OnRead (turn.Replied reply) P = ⊤

-- the device was read, and a crash leaves what it left before
pub record IsReading {D : Type 0} (old new : Meaning) (before after : now.Present D) : Type 0 where
  pub world : IsTrue old.tells → now.world_of new.shows after ≡ now.world_of old.shows before
  pub table : files.table_of after.engine ≡ files.table_of before.engine
  pub mounts : files.mounts_of after.engine ≡ files.mounts_of before.engine
  pub device : OnlyReads old new
  pub survives : now.Survives old new before
  pub kept : IsTrue old.tells → (w : World) → now.KeepsWorld old before w → now.KeepsWorld new after w ⊎ now.KeepsWorld new after (unmounted (now.world_of old.shows before))

-- One block more of a checkpoint was read, and the read goes on to fit its call. The device was read, and nothing else changed.
pub record GoesOn {D : Type 0} {g : Ghosts D} (means : D → Meaning) (before after : Volume D g) (actor : ℕ) (call : Call) (was now : Progress) : Type 0 where
  pub log : KeepsLog before after
  pub world : IsTrue (means (disk_of before)).tells → world_of (means (disk_of after)).shows after ≡ world_of (means (disk_of before)).shows before
  pub table : table_of after ≡ table_of before
  pub mounts : mounts_of after ≡ mounts_of before
  pub device : OnlyReads (means (disk_of before)) (means (disk_of after))
  pub begun : IsBegunFor call now
  pub turns : had_of now ≡ had_of was + 1
  pub fits : FitsHistory (means (origin_of after)) (told_of after) (history_of after) actor call now

-- One data block more was stripped, and the call goes on; or it is through, and none of its checkpoint's is left. The device isn't
-- called, and no entry comes.
pub record StripsOn {D : Type 0} {g : Ghosts D} (means : D → Meaning) (before after : Volume D g) (id : ℕ) (turn : Turn) (now : Progress) : Type 0 where
  pub log : KeepsLog before after
  pub world : world_of (means (disk_of before)).shows after ≡ world_of (means (disk_of before)).shows before
  pub mounts : mounts_of after ≡ mounts_of before
  pub disk : disk_of after ≡ disk_of before
  pub more : OnMore turn ((now ≡ progress.Strip id) × (unstripped_count (table_of after) + 1 ≡ unstripped_count (table_of before)))
  pub over : OnAnswered turn (broken_of after ≡ None → IsOver (table_of after) id)
