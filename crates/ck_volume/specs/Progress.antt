-- How far a call has come that takes more than one event.
use Rattle.std.specs.Prelude.{◌≡◌, ⊤, ℕ, true, List, Option, Some, None, Ok, IsTrue, length, slice_get, take}
use Rattle.ck_disk.specs.Disk.{Meaning}
use Rattle.ck_model.specs.declared.call.Call.{Call}
use Rattle.ck_model.specs.declared.call.Call.TheVariants.{Cread, Nodata}
use Rattle.ck_model.specs.declared.entry.Entry.{Entry}
use Rattle.ck_model.specs.declared.reply.Reply.{Reply}
use Rattle.ck_model.specs.declared.reply.Reply.TheVariants.{Bytes}
use Rattle.ck_model.specs.CheckpointCalls.{checkpoint_named}
use Rattle.ck_model.specs.History.{CallsBy, numbers_of, state}
use Rattle.ck_model.specs.Streams.{Texts}
use Rattle.ck_model.specs.World.{World, Checkpoint}
use Rattle.ck_laws.specs.Fits.{Reading, Fits}
use Rattle.ck_read.specs.declared.progress.ReadProgress.{ReadProgress}
use Rattle.ck_read.specs.Mounted.{IsReadIn, IsReadNow}
use Rattle.ck_read.specs.Progress.{turns_had, turns_of, IsOnWay}
use Rattle.ck_engine.specs.Recovery.{Recovers}
use Rattle.ck_volume.specs.declared.event.Progress.{Progress}
use Rattle.ck_volume.specs.declared.event.Progress.TheVariants as progress
use Rattle.ck_volume.specs.Told.{AreAnswered}

abbrev pub reading_of : ReadProgress → Reading
reading_of read = record { ckpt = read.ckpt; node = read.node; from = read.from; to = read.to; bytes = read.bytes }

-- the read that is on its way
abbrev pub read_of : Progress → Option ReadProgress
read_of progress.Fresh = None
read_of (progress.Read read) = Some read
read_of (progress.Strip id) = None

-- the checkpoint that is stripped
abbrev pub strip_of : Progress → Option ℕ
strip_of progress.Fresh = None
strip_of (progress.Read read) = None
strip_of (progress.Strip id) = Some id

-- how many events of a read there were
abbrev pub had_of : Progress → ℕ
had_of progress.Fresh = 0
had_of (progress.Read read) = turns_had read
had_of (progress.Strip id) = 0

-- only a read of a checkpoint is read on, from its place on
abbrev pub IsOfCall : Call → ReadProgress → Type 0
IsOfCall (Cread letter path at len) read = IsOnWay at read
IsOfCall _ read = ⊥

-- only a conversion step by step goes on to strip
abbrev pub IsSynchronous : Call → Type 0
IsSynchronous (Nodata name true) = ⊤
IsSynchronous _ = ⊥

abbrev pub IsBegunFor : Call → Progress → Type 0
IsBegunFor call progress.Fresh = ⊤
IsBegunFor call (progress.Read read) = IsOfCall call read
IsBegunFor call (progress.Strip id) = IsSynchronous call

-- The history has the entry of the actor's last call, and the checkpoint with the call's name had this id before it.
pub record StripsNamed (texts : Texts) (calls : CallsBy) (w : World) (history : List Entry) (actor : ℕ) (name : List ℕ) (id : ℕ) : Type 0 where
  pub number : ℕ
  pub entry : Entry
  pub there : slice_get history number ≡ Some entry
  pub own : entry.actor ≡ actor
  pub seq : entry.seq ≡ length (numbers_of history actor)
  pub checkpoint : Checkpoint
  pub named : checkpoint_named (state texts calls w (take number history)) name ≡ Ok checkpoint
  pub id_is : checkpoint.id ≡ id

-- only a conversion step by step strips its checkpoint
abbrev pub FitsStrip : Texts → CallsBy → World → List Entry → ℕ → Call → ℕ → Type 0
FitsStrip texts calls w history actor (Nodata name true) id = StripsNamed texts calls w history actor name id
FitsStrip texts calls w history actor _ id = ⊥

-- Where the device tells what it holds, what was read fits the actor's call in this history of what the origin recovers to, or what is
-- stripped is the call's checkpoint, whatever the texts of streams are.
abbrev pub FitsHistory : Meaning → List Call → List Entry → ℕ → Call → Progress → Type 0
FitsHistory origin told history actor call progress.Fresh = ⊤
FitsHistory origin told history actor call (progress.Read read) =
    IsTrue origin.tells → (w : World) → Recovers origin.shows w → (texts : Texts) (calls : CallsBy) → AreAnswered calls told history →
    Fits texts calls w history actor call (reading_of read)
FitsHistory origin told history actor call (progress.Strip id) =
    IsTrue origin.tells → (w : World) → Recovers origin.shows w → (texts : Texts) (calls : CallsBy) → AreAnswered calls told history →
    FitsStrip texts calls w history actor call id

-- what was read fits an actor's call in this world
abbrev pub IsOfWorld : World → ℕ → Call → ReadProgress → Type 0
IsOfWorld w actor (Cread letter path at len) read = IsReadIn w actor letter path at len read
IsOfWorld w actor _ read = ⊥

abbrev pub FitsWorld : World → ℕ → Call → Progress → Type 0
FitsWorld w actor call progress.Fresh = ⊤
FitsWorld w actor call (progress.Read read) = IsOfWorld w actor call read
FitsWorld w actor call (progress.Strip id) = ⊥

-- its checkpoint stands there with its data
abbrev pub IsNowOf : World → ℕ → Call → ReadProgress → Type 0
IsNowOf w actor (Cread letter path at len) read = IsReadNow w actor letter path at len read
IsNowOf w actor _ read = ⊥

abbrev pub FitsNow : World → ℕ → Call → Progress → Type 0
FitsNow w actor call progress.Fresh = ⊥
FitsNow w actor call (progress.Read read) = IsNowOf w actor call read
FitsNow w actor call (progress.Strip id) = ⊥

-- bytes of a checkpoint are given at the event that takes the last block of them, which has this number, counted from 1
abbrev pub IsLastOf : Call → Reply → ℕ → Type 0
IsLastOf (Cread letter path at len) (Bytes bytes) count = count ≡ turns_of at (length bytes)
IsLastOf _ _ count = ⊤
