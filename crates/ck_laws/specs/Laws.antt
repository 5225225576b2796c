-- What follows of the definitions alone.
use Rattle.std.specs.Prelude.{◌≡◌, ◌≢◌, ◌≤◌, ◌<◌, ⊤, ℕ, ◌+◌, false, List, [], ◌∷◌, ◌++◌, length, Option, Some, None, IfSome, nat_eq, if◌then◌else◌, find}
use Rattle.std.specs.List.{AllByRecursion}
use Rattle.std.specs.Option.{option_map, option_or, option_map_or}
use Rattle.std.specs.FinMap as map
use Rattle.ck_model.specs.declared.key.Key.{Key}
use Rattle.ck_model.specs.declared.cell.Cell.{Cell}
use Rattle.ck_model.specs.declared.cell.Payload.TheVariants.{To, File, Dir, Bytes}
use Rattle.ck_model.specs.declared.call.Call.{Call}
use Rattle.ck_model.specs.declared.checkpoint.Kind.{Kind}
use Rattle.ck_model.specs.declared.checkpoint.Kind.TheVariants.{Keeping}
use Rattle.ck_model.specs.declared.checkpoint.Limits.{Limits}
use Rattle.ck_model.specs.declared.entry.Entry.{Entry}
use Rattle.ck_model.specs.Cells.{Cells, Content, OfOneHistory}
use Rattle.ck_model.specs.Table.{Table, IsTable}
use Rattle.ck_model.specs.Rules.{KeyBelow, IsOrderly}
use Rattle.ck_model.specs.Values.{Store}
use Rattle.ck_model.specs.TableWorld.{world_on}
use Rattle.ck_model.specs.World.{World, Checkpoint, Mounts, empty_world, has_id, shown_by}
use Rattle.ck_model.specs.Streams.{Texts, image, changed, applied}
use Rattle.ck_model.specs.Step.{step}
use Rattle.ck_laws.specs.Tree.{IsGrown}
use Rattle.ck_model.specs.History.{Past, CallsBy, begun, past_after, IsLegal, state, created_id, numbers_of}

-- the ids of these checkpoints rise from this number on, and are below the next id
abbrev pub IdsRise : ℕ → List Checkpoint → ℕ → Type 0
IdsRise least [] next = least ≤ next
IdsRise least (checkpoint ∷ newer) next = (least ≤ checkpoint.id) × IdsRise (checkpoint.id + 1) newer next

-- the checkpoints stand by their ids, and a nodata one has marks in place of blocks
pub record IsOrdered (w : World) : Type 0 where
  pub ids : IdsRise 1 w.checkpoints w.next.id
  pub marks : AllByRecursion (λ checkpoint. shown_by checkpoint.kind checkpoint.cells ≡ checkpoint.cells) w.checkpoints

-- each cell's stamp is below this one
abbrev pub StampsBelow : ℕ → Cells → Type 0
StampsBelow next cells = (key : Key) (cell : Cell) → map.get cells key ≡ Some cell → cell.stamp < next

-- the node that a name names is below this number
abbrev pub ContentBelow : ℕ → Content → Type 0
ContentBelow next (Some (To node)) = node < next
ContentBelow next (Some (File size)) = ⊤
ContentBelow next (Some Dir) = ⊤
ContentBelow next (Some (Bytes bytes)) = ⊤
ContentBelow next None = ⊤

-- the numbers of all files and directories are
abbrev pub NumbersBelow : ℕ → Cells → Type 0
NumbersBelow next cells = (key : Key) (cell : Cell) → map.get cells key ≡ Some cell → KeyBelow next key × ContentBelow next cell.payload

-- bytes that are held are those of a whole block
abbrev pub IsWhole : Content → Type 0
IsWhole (Some (To node)) = ⊤
IsWhole (Some (File size)) = ⊤
IsWhole (Some Dir) = ⊤
IsWhole (Some (Bytes bytes)) = length bytes ≡ 4096
IsWhole None = ⊤

-- each payload of bytes has 4,096 of them
abbrev pub HasBlocks : Cells → Type 0
HasBlocks cells = (key : Key) (cell : Cell) → map.get cells key ≡ Some cell → IsWhole cell.payload

-- a map of this kind and that of a checkpoint are of one history, each as the other's kind shows it
abbrev pub Agree : Kind → Cells → Checkpoint → Type 0
Agree kind cells checkpoint = OfOneHistory (shown_by checkpoint.kind cells) (shown_by kind checkpoint.cells)

-- each two of these, the older one first
abbrev pub EachTwo : (Checkpoint → Checkpoint → Type 0) → List Checkpoint → Type 0
EachTwo R [] = ⊤
EachTwo R (checkpoint ∷ newer) = AllByRecursion (R checkpoint) newer × EachTwo R newer

-- what holds of every world that a volume has
pub record IsWorld (w : World) : Type 0 where
  pub order : IsOrdered w
  pub names : EachTwo (λ older newer. older.name ≢ newer.name) w.checkpoints
  -- no stamp or number that a map has is still to be given
  pub stamps : StampsBelow w.next.stamp w.primary
  pub frozen_stamps : AllByRecursion (λ checkpoint. StampsBelow w.next.stamp checkpoint.cells) w.checkpoints
  pub numbers : NumbersBelow w.next.number w.primary
  pub frozen_numbers : AllByRecursion (λ checkpoint. NumbersBelow w.next.number checkpoint.cells) w.checkpoints
  -- bytes stand in whole blocks
  pub payloads : HasBlocks w.primary
  pub frozen_payloads : AllByRecursion (λ checkpoint. HasBlocks checkpoint.cells) w.checkpoints
  -- equal stamps at a key mean equal cells, in all maps, but for marks
  pub versions : AllByRecursion (Agree Keeping w.primary) w.checkpoints
  pub frozen_versions : EachTwo (λ older newer. Agree older.kind older.cells newer) w.checkpoints

-- the empty world is one
abbrev pub WorldsBegin : Type 0
WorldsBegin = (limits : Limits) → IsWorld (empty_world limits)

-- the data blocks below this number have 4,096 bytes each
abbrev pub StoresBlocks : ℕ → Store → Type 0
StoresBlocks blocks store = (block : ℕ) → block < blocks → length (store block) ≡ 4096

-- every table that obeys the rules stands for one, over data blocks of that length
abbrev pub TablesStand : Type 0
TablesStand =
    (store : Store) (mounts : Mounts) (t : Table) → IsTable t → IsOrderly t → StoresBlocks t.blocks store → IsWorld (world_on store mounts t)

-- whose checkpoints stand in order, however long the blocks are
abbrev pub TablesAreOrdered : Type 0
TablesAreOrdered = (store : Store) (mounts : Mounts) (t : Table) → IsTable t → IsOrderly t → IsOrdered (world_on store mounts t)

-- every call leaves one
abbrev pub CallsKeepWorlds : Type 0
CallsKeepWorlds = (texts : Texts) (w : World) (actor at : ℕ) (call : Call) → IsWorld w → IsWorld (step texts w actor at call).next

-- and so does every legal history
abbrev pub WorldsStay : Type 0
WorldsStay =
    (texts : Texts) (calls : CallsBy) (w : World) (history : List Entry) → IsWorld w → IsLegal texts calls w history →
    IsWorld (state texts calls w history)

-- which keeps the order of the checkpoints and the marks by itself
abbrev pub OrderStays : Type 0
OrderStays =
    (texts : Texts) (calls : CallsBy) (w : World) (history : List Entry) → IsOrdered w → IsLegal texts calls w history →
    IsOrdered (state texts calls w history)

-- the primary map at the entry that created the checkpoint with this id
abbrev pub frozen_from : Texts → CallsBy → Past → List Entry → ℕ → Option Cells
frozen_from texts calls past [] id = None
frozen_from texts calls past (entry ∷ entries) id =
    if option_map_or (nat_eq id) (created_id entry.reply) false
    then Some past.world.primary
    else frozen_from texts calls (past_after texts calls past entry) entries id

-- the map that was frozen under this id: a checkpoint's of the world at the beginning, or of one created since
abbrev pub frozen : Texts → CallsBy → World → List Entry → ℕ → Option Cells
frozen texts calls w history id =
    option_or (option_map (λ checkpoint. checkpoint.cells) (find (has_id id) w.checkpoints)) (frozen_from texts calls (begun w) history id)

-- a checkpoint that stands has the map that was frozen under its id, with marks in place of blocks where it is nodata
abbrev pub FrozenMapsStay : Type 0
FrozenMapsStay =
    (texts : Texts) (calls : CallsBy) (w : World) (history : List Entry) → IsOrdered w → IsLegal texts calls w history →
    AllByRecursion
    (λ checkpoint. option_map (shown_by checkpoint.kind) (frozen texts calls w history checkpoint.id) ≡ Some checkpoint.cells)
    (state texts calls w history).checkpoints

-- of a checkpoint that stands with its data, that is the checkpoint's map
abbrev pub KeptMapsAreFrozen : Type 0
KeptMapsAreFrozen =
    (texts : Texts) (calls : CallsBy) (w : World) (history : List Entry) → IsOrdered w → IsLegal texts calls w history →
    (id : ℕ) (checkpoint : Checkpoint) → find (has_id id) (state texts calls w history).checkpoints ≡ Some checkpoint → checkpoint.kind ≡ Keeping →
    frozen texts calls w history id ≡ Some checkpoint.cells

-- what was frozen under an id stays so, however a history goes on
abbrev pub FrozenMapsLast : Type 0
FrozenMapsLast =
    (texts : Texts) (calls : CallsBy) (w : World) (history more : List Entry) (id : ℕ) (cells : Cells) →
    frozen texts calls w history id ≡ Some cells → frozen texts calls w (history ++ more) id ≡ Some cells

-- an actor's letter stands for the same id until an entry of that actor comes
abbrev pub MountsLast : Type 0
MountsLast =
    (texts : Texts) (calls : CallsBy) (w : World) (history more : List Entry) (actor letter : ℕ) → numbers_of more actor ≡ [] →
    map.get (state texts calls w (history ++ more)).mounts (actor, letter) ≡ map.get (state texts calls w history).mounts (actor, letter)

-- the checkpoint with this id isn't one that is nodata in this world
abbrev pub KeptData : World → ℕ → Type 0
KeptData w id = IfSome (find (has_id id) w.checkpoints) (λ checkpoint. checkpoint.kind ≡ Keeping)

-- what was frozen under two ids, with its data, is of one history
abbrev pub FrozenMapsAgree : Type 0
FrozenMapsAgree =
    (texts : Texts) (calls : CallsBy) (w : World) (history : List Entry) → IsWorld w → IsLegal texts calls w history →
    (id later : ℕ) (a b : Cells) → KeptData w id → KeptData w later →
    frozen texts calls w history id ≡ Some a → frozen texts calls w history later ≡ Some b → OfOneHistory a b

-- what changed from one map to another, applied to the first one's image, gives the second one's
abbrev pub ChangesApply : Type 0
ChangesApply = (a b : Cells) → OfOneHistory a b → applied (image a) (changed a b) ≡ image b

-- so it does for any two maps that were frozen in one history, with their data
abbrev pub FrozenChangesApply : Type 0
FrozenChangesApply =
    (texts : Texts) (calls : CallsBy) (w : World) (history : List Entry) → IsWorld w → IsLegal texts calls w history →
    (id later : ℕ) (a b : Cells) → KeptData w id → KeptData w later →
    frozen texts calls w history id ≡ Some a → frozen texts calls w history later ≡ Some b → applied (image a) (changed a b) ≡ image b

-- the primary map and those of all checkpoints are trees
pub record HasTrees (w : World) : Type 0 where
  pub primary : IsGrown w.next.number w.primary
  pub checkpoints : AllByRecursion (λ checkpoint. IsGrown w.next.number checkpoint.cells) w.checkpoints

-- the empty world has trees
abbrev pub TreesBegin : Type 0
TreesBegin = (limits : Limits) → HasTrees (empty_world limits)

-- every call leaves trees
abbrev pub CallsKeepTrees : Type 0
CallsKeepTrees =
    (texts : Texts) (w : World) (actor at : ℕ) (call : Call) → IsOrdered w → HasTrees w → HasTrees (step texts w actor at call).next

-- and so does every legal history
abbrev pub TreesStay : Type 0
TreesStay =
    (texts : Texts) (calls : CallsBy) (w : World) (history : List Entry) → IsOrdered w → HasTrees w → IsLegal texts calls w history →
    HasTrees (state texts calls w history)
