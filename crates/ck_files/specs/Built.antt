-- The calls that a volume has today.
use Rattle.std.specs.Prelude.{◌≤◌, ⊤, Bool, true, false}
use Rattle.ck_model.specs.declared.call.Call.{Call}
use Rattle.ck_model.specs.declared.call.Call.TheVariants.{Make, Mkdir, Rm, Rmdir, Mv, Write, Fill, Trunc, Read, List as Ls, Stat, Create, Remove, Nodata, Removable, Ckpts, Mount, Umount, Cread, Clist, Info, Sync}
use Rattle.ck_model.specs.Limits.{file_limit}
use Rattle.ck_model.specs.Name.{IsCheckpointName}

-- all calls but restore, backup and full; places and sizes are within the limit of a file's size
abbrev pub IsBuilt : Call → Type 0
IsBuilt (Make path) = ⊤
IsBuilt (Mkdir path) = ⊤
IsBuilt (Rm path) = ⊤
IsBuilt (Rmdir path) = ⊤
IsBuilt (Mv path new_path) = ⊤
IsBuilt (Write path place bytes) = place ≤ file_limit
IsBuilt (Fill path place len byte) = place ≤ file_limit
IsBuilt (Trunc path size) = size ≤ file_limit
IsBuilt (Read path place len) = place ≤ file_limit
IsBuilt (Ls path) = ⊤
IsBuilt (Stat path) = ⊤
IsBuilt (Create name nodata removable) = IsCheckpointName name
IsBuilt (Remove name) = ⊤
IsBuilt (Nodata name synchronous) = ⊤
IsBuilt (Removable name on) = ⊤
IsBuilt Ckpts = ⊤
IsBuilt (Mount letter name) = ⊤
IsBuilt (Umount letter) = ⊤
IsBuilt (Cread letter path place len) = place ≤ file_limit
IsBuilt (Clist letter path) = ⊤
IsBuilt Info = ⊤
IsBuilt Sync = ⊤
IsBuilt _ = ⊥

-- those of them that are answered without the device, change no file and need no room
abbrev pub IsQuiet : Call → Type 0
IsQuiet (Ls path) = ⊤
IsQuiet (Stat path) = ⊤
IsQuiet (Remove name) = ⊤
IsQuiet (Nodata name synchronous) = ⊤
IsQuiet (Removable name on) = ⊤
IsQuiet Ckpts = ⊤
IsQuiet (Mount letter name) = ⊤
IsQuiet (Umount letter) = ⊤
IsQuiet (Clist letter path) = ⊤
IsQuiet Info = ⊤
IsQuiet _ = ⊥

-- a read of a mounted checkpoint
abbrev pub is_cread : Call → Bool
is_cread (Cread letter path place len) = true
is_cread _ = false
