-- Which records and ids a stream may have.
use Rattle.std.specs.Prelude.{◌≡◌, ◌≤◌, ◌<◌, ◌^◌, true, List, [], ◌∷◌, length, map as list_map, Option, Some, None, ⊤}
use Rattle.std.specs.List.{AllByRecursion}
use Rattle.std.specs.FinMap.{is_sorted}
use Rattle.ck_model.specs.declared.key.Key.{Key}
use Rattle.ck_model.specs.declared.key.Key.TheVariants.{Name, Node, Block}
use Rattle.ck_model.specs.declared.cell.Payload.{Payload}
use Rattle.ck_model.specs.declared.cell.Payload.TheVariants.{To, File, Dir, Bytes}
use Rattle.ck_model.specs.Key.{key_cmp}
use Rattle.ck_model.specs.Held.{IsWord, IsKey}
use Rattle.ck_model.specs.Cells.{Content}
use Rattle.ck_model.specs.Limits.{block_len, file_limit}
use Rattle.ck_stream.specs.declared.item.Item.{Item}
use Rattle.ck_stream.specs.declared.item.Item.TheVariants.{Put, Removed}
use Rattle.ck_stream.specs.declared.stream.Full.{Full}
use Rattle.ck_stream.specs.declared.stream.Changed.{Changed}
use Rattle.ck_stream.specs.declared.stream.Stream.{Stream}
use Rattle.ck_stream.specs.declared.stream.Stream.TheVariants as stream

-- what such a key may hold: a name a node, a node a file or a directory, a block its bytes
abbrev pub Holds : Key → Payload → Type 0
Holds (Name directory name) (To node) = IsWord node
Holds (Node node) (File size) = size ≤ file_limit
Holds (Node node) Dir = ⊤
Holds (Block node index) (Bytes bytes) = length bytes ≡ block_len
Holds _ _ = ⊥

abbrev pub key_of : Item → Key
key_of (Put key payload) = key
key_of (Removed key) = key

abbrev pub IsItem : Item → Type 0
IsItem (Put key payload) = IsKey key × Holds key payload
IsItem (Removed key) = IsKey key

abbrev pub IsPut : Item → Type 0
IsPut (Put key payload) = ⊤
IsPut (Removed key) = ⊥

-- a key, and what it has from then on; None stands for nothing any more
abbrev pub change_of : Item → Key × Option Content
change_of (Put key payload) = (key, Some (Some payload))
change_of (Removed key) = (key, None)

abbrev pub changes : List Item → List (Key × Option Content)
changes items = list_map change_of items

-- the keys that are put, and what they have
abbrev pub contents : List Item → List (Key × Content)
contents [] = []
contents (Put key payload ∷ items) = (key, Some payload) ∷ contents items
contents (Removed key ∷ items) = contents items

-- the records are right, and their keys strictly ascend
pub record AreItems (items : List Item) : Type 0 where
  pub each : AllByRecursion IsItem items
  pub ascend : is_sorted key_cmp (changes items) ≡ true

-- a checkpoint's id, and what it holds
pub record IsFull (full : Full) : Type 0 where
  pub some : 1 ≤ full.id
  pub id : IsWord full.id
  pub items : AreItems full.items
  pub puts : AllByRecursion IsPut full.items
  pub few : length full.items < 2 ^ 64

-- the ids of two checkpoints, and what changed from the earlier to the later
pub record IsChanged (changed : Changed) : Type 0 where
  pub some : 1 ≤ changed.from
  pub order : changed.from ≤ changed.to
  pub later : IsWord changed.to
  pub items : AreItems changed.items
  pub few : length changed.items < 2 ^ 64

abbrev pub IsStream : Stream → Type 0
IsStream (stream.Full full) = IsFull full
IsStream (stream.Changed changed) = IsChanged changed
