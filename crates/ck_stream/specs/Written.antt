-- The bytes of a stream. Numbers stand high byte first.
use Rattle.std.specs.Prelude.{◌≡◌, ◌≤◌, ◌-◌, ℕ, List, [], ◌∷◌, ◌++◌, length, take, drop}
use Rattle.std.specs.List.{flat_map}
use Rattle.std.specs.Int.{w32, w64, to_be_bytes}
use Rattle.sha2.specs.Sha256.{sha256}
use Rattle.ck_model.specs.declared.key.Key.{Key}
use Rattle.ck_model.specs.declared.key.Key.TheVariants.{Name, Node, Block}
use Rattle.ck_model.specs.declared.cell.Payload.{Payload}
use Rattle.ck_model.specs.declared.cell.Payload.TheVariants.{To, File, Dir, Bytes}
use Rattle.ck_stream.specs.declared.item.Item.{Item}
use Rattle.ck_stream.specs.declared.item.Item.TheVariants.{Put, Removed}
use Rattle.ck_stream.specs.declared.stream.Stream.{Stream}
use Rattle.ck_stream.specs.declared.stream.Stream.TheVariants as stream

-- a name with its directory before it, a node, or a block by node and index
abbrev pub key_text : Key → List ℕ
key_text (Name directory name) = to_be_bytes w32 directory ++ length name ∷ name
key_text (Node node) = to_be_bytes w32 node
key_text (Block node index) = to_be_bytes w32 node ++ to_be_bytes w32 index

-- the node that is named, a size, nothing for a directory, or a block's bytes
abbrev pub payload_text : Payload → List ℕ
payload_text (To node) = to_be_bytes w32 node
payload_text (File size) = to_be_bytes w64 size
payload_text Dir = []
payload_text (Bytes bytes) = bytes

abbrev pub put_tag : Payload → ℕ
put_tag (To node) = 1
put_tag (File size) = 2
put_tag Dir = 3
put_tag (Bytes bytes) = 4

abbrev pub removed_tag : Key → ℕ
removed_tag (Name directory name) = 5
removed_tag (Node node) = 6
removed_tag (Block node index) = 7

-- one record
abbrev pub item_text : Item → List ℕ
item_text (Put key payload) = put_tag payload ∷ key_text key ++ payload_text payload
item_text (Removed key) = removed_tag key ∷ key_text key

abbrev pub items_text : List Item → List ℕ
items_text items = flat_map item_text items

-- `CKFULL01`, and `CKDIFF01`
abbrev pub full_magic : List ℕ
full_magic = 67 ∷ 75 ∷ 70 ∷ 85 ∷ 76 ∷ 76 ∷ 48 ∷ 49 ∷ []

abbrev pub changed_magic : List ℕ
changed_magic = 67 ∷ 75 ∷ 68 ∷ 73 ∷ 70 ∷ 70 ∷ 48 ∷ 49 ∷ []

-- the magic and the ids
abbrev pub header_text : Stream → List ℕ
header_text (stream.Full full) = full_magic ++ to_be_bytes w32 full.id
header_text (stream.Changed changed) =
    changed_magic ++ (to_be_bytes w32 changed.from ++ to_be_bytes w32 changed.to)

abbrev pub items_of : Stream → List Item
items_of (stream.Full full) = full.items
items_of (stream.Changed changed) = changed.items

-- a record of its own at the end: how many there were
abbrev pub end_text : ℕ → List ℕ
end_text count = 0 ∷ to_be_bytes w64 count

-- all that the digest covers
unfoldable pub body : Stream → List ℕ
body s = header_text s ++ (items_text (items_of s) ++ end_text (length (items_of s)))

-- the bytes of a stream
unfoldable pub text : Stream → List ℕ
text s = body s ++ sha256 (body s)

-- the bytes from one place to another are these
pub record StandsIn (bytes : List ℕ) (from to : ℕ) (part : List ℕ) : Type 0 where
  pub order : from ≤ to
  pub within : to ≤ length bytes
  pub same : take (to - from) (drop from bytes) ≡ part
