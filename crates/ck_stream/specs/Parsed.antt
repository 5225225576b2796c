-- How a stream is read: field after field, each as soon as it is whole, up to the first fault.
use Rattle.std.specs.Prelude.{◌≡◌, ℕ, zero, suc, ◌+◌, ◌-◌, Bool, true, false, ◌&&◌, ◌||◌, not, List, [], ◌∷◌, length, take, drop, Option, Some, None, Result, Ok, Err, nat_lt, nat_le, nat_eq, if◌then◌else◌, ⊤}
use Rattle.std.specs.List.{list_all}
use Rattle.std.specs.Cmp.Lexicographic.{pointwise}
use Rattle.std.specs.Int.{Width, w32, w64, byte_len, from_be_bytes}
use Rattle.std.specs.Ordering.{is_lt}
use Rattle.sha2.specs.Sha256.{sha256}
use Rattle.ck_model.specs.declared.key.Key.{Key}
use Rattle.ck_model.specs.declared.key.Key.TheVariants.{Name, Node, Block}
use Rattle.ck_model.specs.declared.cell.Payload.TheVariants.{To, File, Dir, Bytes}
use Rattle.ck_model.specs.Key.{key_cmp}
use Rattle.ck_model.specs.Held.{index_limit}
use Rattle.ck_model.specs.Limits.{file_limit, block_len}
use Rattle.ck_stream.specs.declared.item.Item.{Item}
use Rattle.ck_stream.specs.declared.item.Item.TheVariants.{Put, Removed}
use Rattle.ck_stream.specs.declared.fault.Flaw.{Flaw}
use Rattle.ck_stream.specs.declared.fault.Flaw.TheVariants as flaw
use Rattle.ck_stream.specs.declared.fault.StreamFault.{StreamFault}
use Rattle.ck_stream.specs.declared.fault.StreamFault.TheVariants as fault
use Rattle.ck_stream.specs.declared.tag.Tag.{Tag}
use Rattle.ck_stream.specs.declared.tag.Tag.TheVariants as tag
use Rattle.ck_stream.specs.declared.tag.Header.{Header}
use Rattle.ck_stream.specs.declared.tag.Header.TheVariants as header
use Rattle.ck_stream.specs.declared.stream.Stream.{Stream}
use Rattle.ck_stream.specs.declared.stream.Stream.TheVariants as stream
use Rattle.ck_stream.specs.Written.{full_magic, changed_magic}
use Rattle.ck_stream.specs.Right.{key_of}

infixl 10 ◌>>=◌
abbrev pub ◌>>=◌ : {A B E : Type 0} → Result A E → (A → Result B E) → Result B E
(Ok x) >>= f = f x
(Err e) >>= f = Err e

-- what a call answered is what reading gives, unless memory ran out
abbrev pub HasFlaw : {Y : Type 0} → Flaw → Result Y Flaw → Type 0
HasFlaw flaw.Short read = read ≡ Err flaw.Short
HasFlaw flaw.Wrong read = read ≡ Err flaw.Wrong
HasFlaw flaw.NoMemory read = ⊤

abbrev pub Reads : {X Y : Type 0} → (X → Y) → Result X Flaw → Result Y Flaw → Type 0
Reads view (Ok x) read = read ≡ Ok (view x)
Reads view (Err why) read = HasFlaw why read

-- the same of a call that takes no memory: its faults are reading's too
abbrev pub Finds : {X Y E : Type 0} → (X → Y) → Result X E → Result Y E → Type 0
Finds view (Ok x) read = read ≡ Ok (view x)
Finds view (Err why) read = read ≡ Err why

-- ---- fields: a value, and the bytes behind it

abbrev pub number_at : Width → List ℕ → Result (ℕ × List ℕ) Flaw
number_at w bytes =
    if nat_lt (length bytes) (byte_len w) then Err flaw.Short
    else Ok (from_be_bytes w (take (byte_len w) bytes), drop (byte_len w) bytes)

-- so many bytes
abbrev pub run_at : ℕ → List ℕ → Result (List ℕ × List ℕ) Flaw
run_at count bytes =
    if nat_lt (length bytes) count then Err flaw.Short else Ok (take count bytes, drop count bytes)

-- a printable ASCII byte that is no space and no slash
abbrev pub is_name_byte : ℕ → Bool
is_name_byte byte = nat_le 33 byte && nat_le byte 126 && not (nat_eq byte 47)

-- 1 to 40 such bytes, neither `.` nor `..`
abbrev pub is_file_name : List ℕ → Bool
is_file_name bytes =
    nat_le 1 (length bytes) && nat_le (length bytes) 40 && list_all is_name_byte bytes
    && not (pointwise nat_eq bytes (46 ∷ [])) && not (pointwise nat_eq bytes (46 ∷ 46 ∷ []))

abbrev pub file_name_in : List ℕ × List ℕ → Result (List ℕ × List ℕ) Flaw
file_name_in run = if is_file_name run.0 then Ok run else Err flaw.Wrong

-- as many bytes as the first one says; the length is looked at before them
unfoldable pub counted_at : List ℕ → Result (List ℕ × List ℕ) Flaw
counted_at [] = Err flaw.Short
counted_at (count ∷ bytes) =
    if nat_eq count 0 || nat_lt 40 count then Err flaw.Wrong else run_at count bytes

unfoldable pub file_name_at : List ℕ → Result (List ℕ × List ℕ) Flaw
file_name_at bytes = do
  run ← counted_at bytes
  file_name_in run

-- the index of a block, of which a file has so many at most
abbrev pub index_in : ℕ × List ℕ → Result (ℕ × List ℕ) Flaw
index_in index = if nat_lt index.0 index_limit then Ok index else Err flaw.Wrong

unfoldable pub index_at : List ℕ → Result (ℕ × List ℕ) Flaw
index_at bytes = do
  index ← number_at w32 bytes
  index_in index

-- the size of a file
abbrev pub size_in : ℕ × List ℕ → Result (ℕ × List ℕ) Flaw
size_in size = if nat_le size.0 file_limit then Ok size else Err flaw.Wrong

unfoldable pub size_at : List ℕ → Result (ℕ × List ℕ) Flaw
size_at bytes = do
  size ← number_at w64 bytes
  size_in size

-- ---- records

-- which record begins with this tag; a full stream has none that removes
abbrev pub tag_at : Bool → ℕ → Result Tag Flaw
tag_at full number =
    if nat_eq number 1 then Ok tag.Name
    else if nat_eq number 2 then Ok tag.File
    else if nat_eq number 3 then Ok tag.Dir
    else if nat_eq number 4 then Ok tag.Block
    else if full then Err flaw.Wrong
    else if nat_eq number 5 then Ok tag.RemovedName
    else if nat_eq number 6 then Ok tag.RemovedNode
    else if nat_eq number 7 then Ok tag.RemovedBlock
    else Err flaw.Wrong

unfoldable pub name_at : List ℕ → Result (Key × List ℕ) Flaw
name_at bytes = do
  directory ← number_at w32 bytes
  name ← file_name_at directory.1
  Ok (Name directory.0 name.0, name.1)

unfoldable pub node_at : List ℕ → Result (Key × List ℕ) Flaw
node_at bytes = do
  node ← number_at w32 bytes
  Ok (Node node.0, node.1)

unfoldable pub block_at : List ℕ → Result (Key × List ℕ) Flaw
block_at bytes = do
  node ← number_at w32 bytes
  index ← index_at node.1
  Ok (Block node.0 index.0, index.1)

unfoldable pub key_at : Tag → List ℕ → Result (Key × List ℕ) Flaw
key_at tag.Name bytes = name_at bytes
key_at tag.File bytes = node_at bytes
key_at tag.Dir bytes = node_at bytes
key_at tag.Block bytes = block_at bytes
key_at tag.RemovedName bytes = name_at bytes
key_at tag.RemovedNode bytes = node_at bytes
key_at tag.RemovedBlock bytes = block_at bytes

unfoldable pub named_at : Key → List ℕ → Result (Item × List ℕ) Flaw
named_at key bytes = do
  node ← number_at w32 bytes
  Ok (Put key (To node.0), node.1)

unfoldable pub file_at : Key → List ℕ → Result (Item × List ℕ) Flaw
file_at key bytes = do
  size ← size_at bytes
  Ok (Put key (File size.0), size.1)

unfoldable pub bytes_at : Key → List ℕ → Result (Item × List ℕ) Flaw
bytes_at key bytes = do
  run ← run_at block_len bytes
  Ok (Put key (Bytes run.0), run.1)

-- what stands behind the key
unfoldable pub item_at : Tag → Key → List ℕ → Result (Item × List ℕ) Flaw
item_at tag.Name key bytes = named_at key bytes
item_at tag.File key bytes = file_at key bytes
item_at tag.Dir key bytes = Ok (Put key Dir, bytes)
item_at tag.Block key bytes = bytes_at key bytes
item_at tag.RemovedName key bytes = Ok (Removed key, bytes)
item_at tag.RemovedNode key bytes = Ok (Removed key, bytes)
item_at tag.RemovedBlock key bytes = Ok (Removed key, bytes)

-- whether a key may stand behind this one
abbrev pub follows : Option Key → Key → Bool
follows None key = true
follows (Some last) key = is_lt (key_cmp last key)

-- the order is looked at before what stands behind the key
abbrev pub item_in : Option Key → Tag → Key × List ℕ → Result (Item × List ℕ) Flaw
item_in last tag key = if follows last key.0 then item_at tag key.0 key.1 else Err flaw.Wrong

unfoldable pub record_at : Bool → Option Key → ℕ → List ℕ → Result (Item × List ℕ) Flaw
record_at full last number bytes = do
  tag ← tag_at full number
  key ← key_at tag bytes
  item_in last tag key

-- ---- the header

abbrev pub id_in : ℕ × List ℕ → Result (ℕ × List ℕ) Flaw
id_in id = if nat_eq id.0 0 then Err flaw.Wrong else Ok id

unfoldable pub id_at : List ℕ → Result (ℕ × List ℕ) Flaw
id_at bytes = do
  id ← number_at w32 bytes
  id_in id

unfoldable pub full_header_at : List ℕ → Result (Header × List ℕ) Flaw
full_header_at bytes = do
  id ← id_at bytes
  Ok (header.Full id.0, id.1)

-- the earlier id isn't above the later
abbrev pub later_in : ℕ → ℕ × List ℕ → Result (Header × List ℕ) Flaw
later_in earlier later =
    if nat_lt later.0 earlier then Err flaw.Wrong else Ok (header.Changed earlier later.0, later.1)

unfoldable pub changed_header_at : List ℕ → Result (Header × List ℕ) Flaw
changed_header_at bytes = do
  earlier ← id_at bytes
  later ← number_at w32 earlier.1
  later_in earlier.0 later

abbrev pub magic_in : List ℕ × List ℕ → Result (Header × List ℕ) Flaw
magic_in magic =
    if pointwise nat_eq magic.0 full_magic then full_header_at magic.1
    else if pointwise nat_eq magic.0 changed_magic then changed_header_at magic.1
    else Err flaw.Wrong

unfoldable pub header_at : List ℕ → Result (Header × List ℕ) Flaw
header_at bytes = do
  magic ← run_at 8 bytes
  magic_in magic

abbrev pub is_full : Header → Bool
is_full (header.Full id) = true
is_full (header.Changed earlier later) = false

-- the stream with this header and these records
abbrev pub made : Header → List Item → Stream
made (header.Full id) items = stream.Full (record { id = id; items = items })
made (header.Changed earlier later) items =
    stream.Changed (record { from = earlier; to = later; items = items })

-- ---- the end

abbrev pub count_in : ℕ → ℕ × List ℕ → Result (List ℕ) Flaw
count_in count number = if nat_eq number.0 count then Ok number.1 else Err flaw.Wrong

-- the number of records, and the digest that is kept
unfoldable pub end_at : ℕ → List ℕ → Result (List ℕ × List ℕ) Flaw
end_at count bytes = do
  number ← number_at w64 bytes
  rest ← count_in count number
  run_at 32 rest

-- ---- the stream, with the places of its faults

-- a part that is too short is one of the whole input, which has so many bytes, and a wrong one
-- stands at its place
abbrev pub fault_at : ℕ → ℕ → Flaw → StreamFault
fault_at total place flaw.Short = fault.Truncated total
fault_at total place flaw.Wrong = fault.NotStream place
fault_at total place flaw.NoMemory = fault.NoMemory

abbrev pub located : {A : Type 0} → ℕ → ℕ → Result A Flaw → Result A StreamFault
located total place (Ok x) = Ok x
located total place (Err why) = Err (fault_at total place why)

-- the records up to the end's tag, of which there are at most so many: each has a byte at least
unfoldable pub items_at : ℕ → ℕ → Bool → Option Key → List ℕ → Result (List Item × List ℕ) StreamFault
items_at zero total full last bytes = Err (fault.Truncated total)
items_at (suc n) total full last [] = Err (fault.Truncated total)
items_at (suc n) total full last (zero ∷ bytes) = Ok ([], bytes)
items_at (suc n) total full last (suc number ∷ bytes) = do
  first ← located total (total - suc (length bytes)) (record_at full last (suc number) bytes)
  others ← items_at n total full (Some (key_of first.0)) first.1
  Ok (first.0 ∷ others.0, others.1)

-- all bytes from a place on, up to the digest that stands before the rest
abbrev pub signed : List ℕ → ℕ → List ℕ
signed bytes rest = take (length bytes - (rest + 32)) bytes

abbrev pub digest_in : {A : Type 0} → List ℕ → List ℕ → A → Result A StreamFault
digest_in kept found read = if pointwise nat_eq kept found then Ok read else Err (fault.Digest kept found)

-- the stream that begins at this place, and the place behind it
unfoldable pub stream_at : List ℕ → ℕ → Result (Stream × ℕ) StreamFault
stream_at bytes at = do
  head ← located (length bytes) at (header_at (drop at bytes))
  items ← items_at (length head.1) (length bytes) (is_full head.0) None head.1
  end ← located (length bytes) (length bytes - suc (length items.1)) (end_at (length items.0) items.1)
  digest_in end.0 (sha256 (signed (drop at bytes) (length end.1)))
      (made head.0 items.0, length bytes - length end.1)

-- what a call answered is what reading gives, unless memory ran out
abbrev pub HasFault : {Y : Type 0} → StreamFault → Result Y StreamFault → Type 0
HasFault (fault.NotStream place) read = read ≡ Err (fault.NotStream place)
HasFault (fault.Truncated total) read = read ≡ Err (fault.Truncated total)
HasFault (fault.Digest kept found) read = read ≡ Err (fault.Digest kept found)
HasFault fault.NoMemory read = ⊤

abbrev pub Gives : {X Y : Type 0} → (X → Y) → Result X StreamFault → Result Y StreamFault → Type 0
Gives view (Ok x) read = read ≡ Ok (view x)
Gives view (Err why) read = HasFault why read
