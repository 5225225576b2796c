-- Whether a read of a frozen file that is on its way fits a history.
use Rattle.std.specs.Prelude.{◌≡◌, ◌≤◌, ℕ, ◌+◌, ◌-◌, List, [], ◌++◌, Some, Ok, length, min}
use Rattle.std.specs.FinMap as map
use Rattle.ck_model.specs.declared.call.Call.{Call}
use Rattle.ck_model.specs.declared.call.Call.TheVariants.{Cread}
use Rattle.ck_model.specs.declared.entry.Entry.{Entry}
use Rattle.ck_model.specs.Cells.{Cells, size_at}
use Rattle.ck_model.specs.Contents.{file_range}
use Rattle.ck_model.specs.History.{CallsBy, numbers_of, state}
use Rattle.ck_model.specs.Streams.{Texts}
use Rattle.ck_model.specs.Walk.{file_at}
use Rattle.ck_model.specs.World.{World}
use Rattle.ck_laws.specs.Laws.{frozen}

-- a file of a checkpoint, a range of it, and the bytes that were read so far
pub record Reading : Type 0 where
  pub ckpt : ℕ
  pub node : ℕ
  pub from : ℕ
  pub to : ℕ
  pub bytes : List ℕ

-- it reads, of the file that this path leads to in the map, at most so many bytes from a place on, as far as they stand below its
-- size, and has the first of them
pub record IsReadingOf (cells : Cells) (path : List (List ℕ)) (at len : ℕ) (reading : Reading) : Type 0 where
  pub file : file_at cells path ≡ Ok reading.node
  pub from_is : reading.from ≡ at
  pub to_is : reading.to ≡ min (at + len) (size_at cells reading.node)
  pub within : length reading.bytes ≤ reading.to - reading.from
  pub bytes_are : reading.bytes ≡ file_range cells reading.node reading.from (length reading.bytes)

-- it does so in the map that was frozen for the checkpoint that the actor's letter stands for after the history
pub record FitsCall (texts : Texts) (calls : CallsBy) (w : World) (history : List Entry) (actor letter : ℕ) (path : List (List ℕ)) (at len : ℕ) (reading : Reading) : Type 0 where
  pub mounted : map.get (state texts calls w history).mounts (actor, letter) ≡ Some reading.ckpt
  pub cells : Cells
  pub cells_are : frozen texts calls w history reading.ckpt ≡ Some cells
  pub read : IsReadingOf cells path at len reading

-- only a call that reads a frozen file has such a reading
abbrev pub Fits : Texts → CallsBy → World → List Entry → ℕ → Call → Reading → Type 0
Fits texts calls w history actor (Cread letter path at len) reading = FitsCall texts calls w history actor letter path at len reading
Fits texts calls w history actor _ reading = ⊥

-- what fits a history fits each longer one that has no further entry of the actor
abbrev pub FitsLast : Type 0
FitsLast =
    (texts : Texts) (calls : CallsBy) (w : World) (history more : List Entry) (actor : ℕ) (call : Call) (reading : Reading) → numbers_of more actor ≡ [] →
    Fits texts calls w history actor call reading → Fits texts calls w (history ++ more) actor call reading
