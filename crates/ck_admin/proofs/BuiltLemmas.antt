-- The calls that a script may have are those that a volume has.
use Rattle.std.proofs.Common.{IsTrue, List, [], ◌∷◌}
use Rattle.std.specs.List.{AllByRecursion}
use Rattle.ck_model.specs.declared.call.Call.{Call}
use Rattle.ck_model.specs.declared.call.Call.TheVariants.{Make, Mkdir, Rm, Rmdir, Mv, Write, Fill, Trunc, Read, List as Ls, Stat, Create, Remove, Nodata, Removable, Ckpts, Mount, Umount, Cread, Clist, Restore, Backup, Full, Info, Sync}
use Rattle.ck_script.specs.declared.form.Form.TheVariants.{Called}
use Rattle.ck_script.specs.declared.line.Line.{Line}
use Rattle.ck_script.specs.Built.{is_built_call, is_built}
use Rattle.ck_script.specs.Names.{HasValidName, HaveValidNames}
use Rattle.ck_script.specs.Places.{HasPlaces, HavePlaces}
use Rattle.ck_files.specs.Built.{IsBuilt}

built_call : (call : Call) → IsTrue (is_built_call call) → HasValidName call → HasPlaces call → IsBuilt call
built_call (Make path) h valid within = tt
built_call (Mkdir path) h valid within = tt
built_call (Rm path) h valid within = tt
built_call (Rmdir path) h valid within = tt
built_call (Mv path new_path) h valid within = tt
built_call (Write path place bytes) h valid within = within
built_call (Fill path place len byte) h valid within = within
built_call (Trunc path size) h valid within = within
built_call (Read path place len) h valid within = within
built_call (Ls path) h valid within = tt
built_call (Stat path) h valid within = tt
built_call (Create name nodata removable) h valid within = valid
built_call (Remove name) h valid within = tt
built_call (Nodata name synchronous) h valid within = tt
built_call (Removable name on) h valid within = tt
built_call Ckpts h valid within = tt
built_call (Mount letter name) h valid within = tt
built_call (Umount letter) h valid within = tt
built_call (Cread letter path place len) h valid within = within
built_call (Clist letter path) h valid within = tt
built_call (Restore name) h valid within = cc
built_call (Backup letter later) h valid within = cc
built_call (Full letter) h valid within = cc
built_call Info h valid within = tt
built_call Sync h valid within = tt

-- the lines of a script are built
pub lines_built : (lines : List Line) → AllByRecursion (λ line. IsTrue (is_built (Called line.actor line.call))) lines → HaveValidNames lines → HavePlaces lines → AllByRecursion (λ line. IsBuilt line.call) lines
lines_built [] all valid within = tt
lines_built (line ∷ lines) all valid within =
    (built_call line.call all.0 valid.0 within.0, lines_built lines all.1 valid.1 within.1)
