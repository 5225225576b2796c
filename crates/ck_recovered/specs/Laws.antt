-- What holds of every volume that opens, and of its histories.
use Rattle.std.specs.Prelude.{◌≡◌, ℕ, IsTrue, List, Some}
use Rattle.std.specs.List.{AllByRecursion}
use Rattle.std.specs.Option.{option_map}
use Rattle.ck_disk.specs.Disk.{Image, Meaning, AreBlocks}
use Rattle.ck_model.specs.declared.entry.Entry.{Entry}
use Rattle.ck_model.specs.Cells.{Cells, OfOneHistory}
use Rattle.ck_model.specs.World.{World, shown_by}
use Rattle.ck_model.specs.Streams.{Texts, image as contents_of, changed as map_changes, applied}
use Rattle.ck_model.specs.History.{CallsBy, IsLegal, state}
use Rattle.ck_laws.specs.Laws.{IsWorld, KeptData, frozen}
use Rattle.ck_stream.specs.declared.stream.Full.{Full}
use Rattle.ck_stream.specs.declared.stream.Changed.{Changed}
use Rattle.ck_stream.specs.declared.stream.Stream.TheVariants as stream
use Rattle.ck_stream.specs.Written.{text}
use Rattle.ck_stream.specs.Right.{IsFull, contents, changes}
use Rattle.ck_stream.specs.Texts.{texts as spelled}
use Rattle.ck_engine.specs.Recovery.{Recovers}

-- an image of blocks that opens to this world
pub record IsVolume (image : Image) (w : World) : Type 0 where
  pub blocks : AreBlocks image
  pub opens : Recovers image w

-- what an image opens to is a world as every volume has it
abbrev pub VolumesOpen : Type 0
VolumesOpen = (image : Image) (w : World) → IsVolume image w → IsWorld w

-- what a crash may leave, now or since an earlier moment, consists of blocks where it opens
abbrev pub CrashesOpen : Meaning → Type 0
CrashesOpen m = (t : ℕ) (image : Image) (w : World) → m.left_since t image → Recovers image w → IsVolume image w

-- and so does what reads give
abbrev pub ReadsOpen : Meaning → Type 0
ReadsOpen m = IsTrue m.tells → (w : World) → Recovers m.shows w → IsVolume m.shows w

-- the history is legal from the world that an image opens to
pub record IsHistory (texts : Texts) (calls : CallsBy) (w : World) (history : List Entry) : Type 0 where
  pub image : Image
  pub volume : IsVolume image w
  pub legal : IsLegal texts calls w history

-- the world after it is one as every volume has it
abbrev pub OpenedWorldsStay : Type 0
OpenedWorldsStay =
    (texts : Texts) (calls : CallsBy) (w : World) (history : List Entry) → IsHistory texts calls w history →
    IsWorld (state texts calls w history)

-- a checkpoint that stands has the map that was frozen under its id, with marks in place of blocks where it is nodata
abbrev pub OpenedMapsStay : Type 0
OpenedMapsStay =
    (texts : Texts) (calls : CallsBy) (w : World) (history : List Entry) → IsHistory texts calls w history →
    AllByRecursion
    (λ checkpoint. option_map (shown_by checkpoint.kind) (frozen texts calls w history checkpoint.id) ≡ Some checkpoint.cells)
    (state texts calls w history).checkpoints

-- two maps that were frozen in a history, with their data
pub record AreFrozen (texts : Texts) (calls : CallsBy) (w : World) (history : List Entry) (id later : ℕ) (a b : Cells) : Type 0 where
  pub in_history : IsHistory texts calls w history
  pub keeps : KeptData w id
  pub later_keeps : KeptData w later
  pub map : frozen texts calls w history id ≡ Some a
  pub later_map : frozen texts calls w history later ≡ Some b

-- they are of one history
abbrev pub OpenedMapsAgree : Type 0
OpenedMapsAgree =
    (texts : Texts) (calls : CallsBy) (w : World) (history : List Entry) (id later : ℕ) (a b : Cells) →
    AreFrozen texts calls w history id later a b → OfOneHistory a b

-- what changed from one to the other, applied to the first one's contents, gives the second one's
abbrev pub OpenedChangesApply : Type 0
OpenedChangesApply =
    (texts : Texts) (calls : CallsBy) (w : World) (history : List Entry) (id later : ℕ) (a b : Cells) →
    AreFrozen texts calls w history id later a b → applied (contents_of a) (map_changes a b) ≡ contents_of b

-- and the full stream of one, with the backup from it to the other applied to it, is the other's full stream, byte for
-- byte
abbrev pub OpenedBackupsApply : Type 0
OpenedBackupsApply =
    (calls : CallsBy) (w : World) (history : List Entry) (id later : ℕ) (a b : Cells) →
    AreFrozen spelled calls w history id later a b →
    (full next : Full) (changed : Changed) → contents full.items ≡ contents_of a → changes changed.items ≡ map_changes a b →
    IsFull next → next.id ≡ changed.to → contents next.items ≡ applied (contents full.items) (changes changed.items) →
    text (stream.Full next) ≡ spelled.full changed.to (contents_of b)
