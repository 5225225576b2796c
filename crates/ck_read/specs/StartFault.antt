-- Which file of a checkpoint is read, or why none is.
use Rattle.std.specs.Prelude.{ℕ, not, Option, Result, Ok, Err, if◌then◌else◌}
use Rattle.std.specs.Option.{option_map, option_and_then}
use Rattle.ck_model.specs.declared.path.WalkFault.{WalkFault}
use Rattle.ck_model.specs.declared.path.WalkFault.TheVariants as walk
use Rattle.ck_model.specs.declared.cell.Cell.{Cell}
use Rattle.ck_model.specs.declared.held.Held.{Held}
use Rattle.ck_model.specs.declared.reply.Reply.{Reply}
use Rattle.ck_model.specs.declared.reply.Reply.TheVariants as reply
use Rattle.ck_model.specs.Cells.{Cells, Content, is_directory, is_directory_at, size_in}
use Rattle.ck_model.specs.Chain.{is_live, is_live_data}
use Rattle.ck_model.specs.Table.{Table}
use Rattle.ck_model.specs.Values.{Store, cell_on}
use Rattle.ck_read.specs.declared.fault.StartFault.{StartFault}
use Rattle.ck_read.specs.declared.fault.StartFault.TheVariants.{Gone, NoData, NotFound, NotDir, IsDir, NoMemory}

abbrev pub fault_of : WalkFault → StartFault
fault_of walk.NotFound = NotFound
fault_of walk.NotDir = NotDir

-- a refusal of a read of this checkpoint has the reply of its name
abbrev pub reply_of : ℕ → StartFault → Reply
reply_of ckpt Gone = reply.Gone ckpt
reply_of ckpt NoData = reply.NoData ckpt
reply_of ckpt NotFound = reply.NotFound
reply_of ckpt NotDir = reply.NotDir
reply_of ckpt IsDir = reply.IsDir
reply_of ckpt NoMemory = reply.NoMemory

-- a walk's node, which isn't a directory of this map
abbrev pub file_in : Cells → Result ℕ WalkFault → Result ℕ StartFault
file_in cells (Ok node) = if is_directory_at cells node then Err IsDir else Ok node
file_in cells (Err why) = Err (fault_of why)

-- the file that a walk found in a checkpoint with this map, or the first refusal
abbrev pub file_read : Table → Cells → ℕ → Result ℕ WalkFault → Result ℕ StartFault
file_read t cells ckpt found =
    if not (is_live t ckpt) then Err Gone else
    (if not (is_live_data t ckpt) then Err NoData else file_in cells found)

-- what a value holds over these data blocks
abbrev pub content_on : Store → Option Held → Content
content_on store held = option_and_then (λ (cell : Cell). cell.payload) (option_map (cell_on store) held)

-- the size of what isn't a directory
abbrev pub file_size : Content → Result ℕ StartFault
file_size content = if is_directory content then Err IsDir else Ok (size_in content)
