-- The words of calls and replies.
use Rattle.std.specs.Prelude.{ℕ, Bool, List, [], ◌∷◌, ◌++◌, length, if◌then◌else◌, codes, drop, ◌-◌}
use Rattle.std.specs.List.{flat_map}
use Rattle.std.specs.Fmt.{decimal}
use Rattle.hex.specs.Hex.{encode_lower}
use Rattle.ck_model.specs.declared.call.Call.{Call}
use Rattle.ck_model.specs.declared.call.Call.TheVariants.{Make, Mkdir, Rm, Rmdir, Mv, Write, Fill, Trunc, Read, List as Ls, Stat, Create, Remove, Nodata, Removable, Ckpts, Mount, Umount, Cread, Clist, Restore, Backup, Full, Info, Sync}
use Rattle.ck_model.specs.declared.checkpoint.CkptLine.{CkptLine}
use Rattle.ck_model.specs.declared.checkpoint.State.{State}
use Rattle.ck_model.specs.declared.checkpoint.State.TheVariants as state
use Rattle.ck_model.specs.declared.child.Child.{Child}
use Rattle.ck_model.specs.declared.reply.SpaceOf.{SpaceOf}
use Rattle.ck_model.specs.declared.reply.SpaceOf.TheVariants as space
use Rattle.ck_model.specs.declared.reply.Reply.{Reply}
use Rattle.ck_model.specs.declared.reply.Reply.TheVariants as reply
use Rattle.ck_model.specs.Path.{path_text}

-- a space, and the text
abbrev pub spaced : List ℕ → List ℕ
spaced text = 32 ∷ text

abbrev pub path_words : List (List ℕ) → List ℕ
path_words path = spaced (path_text path)

abbrev pub number_words : ℕ → List ℕ
number_words number = spaced (decimal number)

-- bytes in hexadecimal
abbrev pub bytes_words : List ℕ → List ℕ
bytes_words bytes = spaced (codes "x:" ++ encode_lower bytes)

abbrev pub flag_words : Bool → List ℕ → List ℕ
flag_words flag text = if flag then spaced text else []

-- the words of a call, as a script has them
abbrev pub call_words : Call → List ℕ
call_words (Make path) = codes "make" ++ path_words path
call_words (Mkdir path) = codes "mkdir" ++ path_words path
call_words (Rm path) = codes "rm" ++ path_words path
call_words (Rmdir path) = codes "rmdir" ++ path_words path
call_words (Mv path new_path) = codes "mv" ++ path_words path ++ path_words new_path
call_words (Write path at bytes) = codes "write" ++ path_words path ++ number_words at ++ bytes_words bytes
call_words (Fill path at len byte) = codes "fill" ++ path_words path ++ number_words at ++ number_words len ++ spaced (encode_lower (byte ∷ []))
call_words (Trunc path size) = codes "trunc" ++ path_words path ++ number_words size
call_words (Read path at len) = codes "read" ++ path_words path ++ number_words at ++ number_words len
call_words (Ls path) = codes "ls" ++ path_words path
call_words (Stat path) = codes "stat" ++ path_words path
call_words (Create name nodata removable) = codes "create" ++ flag_words nodata (codes "-n") ++ flag_words removable (codes "-r") ++ spaced name
call_words (Remove name) = codes "remove" ++ spaced name
call_words (Nodata name synchronous) = codes "nodata" ++ flag_words synchronous (codes "-s") ++ spaced name
call_words (Removable name on) = codes "removable" ++ spaced name ++ (if on then codes " on" else codes " off")
call_words Ckpts = codes "ckpts"
call_words (Mount letter name) = codes "mount" ++ spaced (letter ∷ []) ++ spaced name
call_words (Umount letter) = codes "umount" ++ spaced (letter ∷ [])
call_words (Cread letter path at len) = codes "cread" ++ spaced (letter ∷ []) ++ path_words path ++ number_words at ++ number_words len
call_words (Clist letter path) = codes "cls" ++ spaced (letter ∷ []) ++ path_words path
call_words (Restore name) = codes "restore" ++ spaced name
call_words (Backup letter later_letter) = codes "backup" ++ spaced (letter ∷ []) ++ spaced (later_letter ∷ [])
call_words (Full letter) = codes "full" ++ spaced (letter ∷ [])
call_words Info = codes "info"
call_words Sync = codes "sync"

-- a name in a directory, a directory's with a slash behind
abbrev pub child_words : Child → List ℕ
child_words child = spaced child.name ++ (if child.dir then 47 ∷ [] else [])

abbrev pub state_word : State → List ℕ
state_word state.Keeping = codes "data"
state_word state.Nodata = codes "nodata"
state_word state.Delayed = codes "delayed"

abbrev pub keep_word : Bool → List ℕ
keep_word removable = if removable then codes "removable" else codes "keep"

-- a checkpoint in a listing
abbrev pub line_words : CkptLine → List ℕ
line_words line =
    number_words line.id ++ codes ":" ++ state_word line.state ++ codes ":" ++ keep_word line.removable
    ++ codes ":" ++ decimal line.ctime ++ codes ":" ++ line.name

abbrev pub space_word : SpaceOf → List ℕ
space_word space.Blocks = codes "blocks"
space_word space.Records = codes "records"

-- so much of so much
abbrev pub share_words : List ℕ → ℕ → ℕ → List ℕ
share_words text used limit = text ++ number_words used ++ codes " of" ++ number_words limit

-- the digest at a stream's end
abbrev pub digest_in : List ℕ → List ℕ
digest_in stream = drop (length stream - 32) stream

abbrev pub checkpoints_words : ℕ → List ℕ
checkpoints_words checkpoints = codes " checkpoints" ++ number_words checkpoints

-- what is in use
unfoldable pub counts_words : ℕ → ℕ → ℕ → ℕ → ℕ → List ℕ
counts_words held blocks records limit checkpoints =
    share_words (codes "Ok held") held blocks ++ share_words (codes " records") records limit ++ checkpoints_words checkpoints

-- a stream's records and its digest
unfoldable pub stream_words : ℕ → List ℕ → List ℕ
stream_words records stream = codes "Ok records" ++ number_words records ++ codes " sha256 " ++ encode_lower (digest_in stream)

-- the words of a reply
abbrev pub reply_words : Reply → List ℕ
reply_words reply.Done = codes "Ok"
reply_words reply.Delayed = codes "Ok delayed"
reply_words (reply.Bytes bytes) = codes "Ok" ++ bytes_words bytes
reply_words (reply.Names children) = codes "Ok" ++ number_words (length children) ++ flat_map child_words children
reply_words (reply.StatFile node size) = codes "Ok file" ++ number_words node ++ number_words size
reply_words (reply.StatDir node count) = codes "Ok dir" ++ number_words node ++ number_words count
reply_words (reply.Created id) = codes "Ok id" ++ number_words id
reply_words (reply.Listing lines) = codes "Ok" ++ number_words (length lines) ++ flat_map line_words lines
reply_words (reply.Info held blocks records limit checkpoints) = counts_words held blocks records limit checkpoints
reply_words (reply.Streamed records stream) = stream_words records stream
reply_words reply.NotFound = codes "NotFound"
reply_words reply.NotDir = codes "NotDir"
reply_words reply.IsDir = codes "IsDir"
reply_words reply.Exists = codes "Exists"
reply_words reply.NotEmpty = codes "NotEmpty"
reply_words reply.Root = codes "Root"
reply_words (reply.TooBig size limit) = codes "TooBig" ++ number_words size ++ number_words limit
reply_words reply.NoCkpt = codes "NoCkpt"
reply_words (reply.TooMany limit) = codes "TooMany" ++ number_words limit
reply_words reply.Spent = codes "Spent"
reply_words reply.InUse = codes "InUse"
reply_words reply.NotMounted = codes "NotMounted"
reply_words (reply.Gone id) = codes "Gone" ++ number_words id
reply_words (reply.NoData id) = codes "NoData" ++ number_words id
reply_words (reply.NotNewer first second) = codes "NotNewer" ++ number_words first ++ number_words second
reply_words reply.NotData = codes "NotData"
reply_words (reply.NoSpace what held need limit) =
    codes "NoSpace" ++ spaced (space_word what) ++ number_words held ++ number_words need ++ number_words limit
reply_words reply.ReadFault = codes "ReadFault"
reply_words reply.WriteFault = codes "WriteFault"
reply_words (reply.Broken entries) = codes "Broken" ++ number_words entries
reply_words reply.NoMemory = codes "NoMemory"
