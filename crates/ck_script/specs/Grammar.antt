-- What the words of a line stand for: a call of an actor, turns, or nothing.
use Rattle.std.specs.Prelude.{ℕ, ◌&&◌, true, false, List, [], ◌∷◌, Option, Some, None, codes, if◌then◌else◌}
use Rattle.std.specs.Option.{option_map, option_and_then}
use Rattle.ck_model.specs.declared.call.Call.{Call}
use Rattle.ck_model.specs.declared.call.Call.TheVariants as call
use Rattle.ck_script.specs.declared.form.Form.{Form}
use Rattle.ck_script.specs.declared.form.Form.TheVariants.{Called, Turned}
use Rattle.ck_script.specs.declared.verb.Verb.{Verb}
use Rattle.ck_script.specs.declared.verb.Verb.TheVariants.{Make, Mkdir, Rm, Rmdir, Mv, Write, Fill, Trunc, Read, Ls, Stat, Create, Remove, Nodata, Removable, Ckpts, Mount, Umount, Cread, Cls, Restore, Backup, Full, Info, Sync}
use Rattle.ck_script.specs.Arguments.{is_text, checkpoint_name, path_of, actor_of, place_of, fill_length, read_length, bytes_of, byte_of, letter_of, switch_of}
use Rattle.ck_script.specs.Verb.{verb_of}

infixl 10 ◌>>=◌
abbrev pub ◌>>=◌ : {A B : Type 0} → Option A → (A → Option B) → Option B
found >>= next = option_and_then next found

-- PATH
abbrev pub path_alone : List (List ℕ) → Option (List (List ℕ))
path_alone (path ∷ []) = path_of path
path_alone _ = None

-- NAME
abbrev pub name_alone : List (List ℕ) → Option (List ℕ)
name_alone (name ∷ []) = checkpoint_name name
name_alone _ = None

-- LETTER
abbrev pub letter_alone : List (List ℕ) → Option ℕ
letter_alone (letter ∷ []) = letter_of letter
letter_alone _ = None

-- no word, for this call
abbrev pub alone : Call → List (List ℕ) → Option Call
alone call [] = Some call
alone call _ = None

-- PATH PATH
abbrev pub mv_of : List (List ℕ) → Option Call
mv_of (path ∷ new_path ∷ []) = do
  path ← path_of path
  new_path ← path_of new_path
  Some (call.Mv path new_path)
mv_of _ = None

-- PATH AT BYTES
abbrev pub write_of : List (List ℕ) → Option Call
write_of (path ∷ at ∷ bytes ∷ []) = do
  at ← place_of at
  path ← path_of path
  bytes ← bytes_of bytes
  Some (call.Write path at bytes)
write_of _ = None

-- PATH AT LEN BYTE
abbrev pub fill_of : List (List ℕ) → Option Call
fill_of (path ∷ at ∷ len ∷ byte ∷ []) = do
  at ← place_of at
  len ← fill_length len
  byte ← byte_of byte
  path ← path_of path
  Some (call.Fill path at len byte)
fill_of _ = None

-- PATH SIZE
abbrev pub trunc_of : List (List ℕ) → Option Call
trunc_of (path ∷ size ∷ []) = do
  size ← place_of size
  path ← path_of path
  Some (call.Trunc path size)
trunc_of _ = None

-- PATH AT LEN
abbrev pub read_of : List (List ℕ) → Option Call
read_of (path ∷ at ∷ len ∷ []) = do
  at ← place_of at
  len ← read_length len
  path ← path_of path
  Some (call.Read path at len)
read_of _ = None

-- NAME, with `-n`, `-r` or both before it
abbrev pub create_of : List (List ℕ) → Option Call
create_of (name ∷ []) = option_map (λ name. call.Create name false false) (checkpoint_name name)
create_of (flag ∷ name ∷ []) =
    if is_text flag (codes "-n") then option_map (λ name. call.Create name true false) (checkpoint_name name)
    else if is_text flag (codes "-r") then option_map (λ name. call.Create name false true) (checkpoint_name name)
    else None
create_of (nodata ∷ removable ∷ name ∷ []) =
    if is_text nodata (codes "-n") && is_text removable (codes "-r") then option_map (λ name. call.Create name true true) (checkpoint_name name) else None
create_of _ = None

-- NAME, with `-s` before it or not
abbrev pub nodata_of : List (List ℕ) → Option Call
nodata_of (name ∷ []) = option_map (λ name. call.Nodata name false) (checkpoint_name name)
nodata_of (flag ∷ name ∷ []) = if is_text flag (codes "-s") then option_map (λ name. call.Nodata name true) (checkpoint_name name) else None
nodata_of _ = None

-- NAME `on`, or NAME `off`
abbrev pub removable_of : List (List ℕ) → Option Call
removable_of (name ∷ switch ∷ []) = do
  name ← checkpoint_name name
  on ← switch_of switch
  Some (call.Removable name on)
removable_of _ = None

-- LETTER NAME
abbrev pub mount_of : List (List ℕ) → Option Call
mount_of (letter ∷ name ∷ []) = do
  letter ← letter_of letter
  name ← checkpoint_name name
  Some (call.Mount letter name)
mount_of _ = None

-- LETTER PATH AT LEN
abbrev pub cread_of : List (List ℕ) → Option Call
cread_of (letter ∷ path ∷ at ∷ len ∷ []) = do
  letter ← letter_of letter
  at ← place_of at
  len ← read_length len
  path ← path_of path
  Some (call.Cread letter path at len)
cread_of _ = None

-- LETTER PATH
abbrev pub cls_of : List (List ℕ) → Option Call
cls_of (letter ∷ path ∷ []) = do
  letter ← letter_of letter
  path ← path_of path
  Some (call.Clist letter path)
cls_of _ = None

-- LETTER LETTER
abbrev pub backup_of : List (List ℕ) → Option Call
backup_of (letter ∷ later ∷ []) = do
  letter ← letter_of letter
  later ← letter_of later
  Some (call.Backup letter later)
backup_of _ = None

-- the call of a verb and the words behind it
abbrev pub call_with : Verb → List (List ℕ) → Option Call
call_with Make words = option_map call.Make (path_alone words)
call_with Mkdir words = option_map call.Mkdir (path_alone words)
call_with Rm words = option_map call.Rm (path_alone words)
call_with Rmdir words = option_map call.Rmdir (path_alone words)
call_with Mv words = mv_of words
call_with Write words = write_of words
call_with Fill words = fill_of words
call_with Trunc words = trunc_of words
call_with Read words = read_of words
call_with Ls words = option_map call.List (path_alone words)
call_with Stat words = option_map call.Stat (path_alone words)
call_with Create words = create_of words
call_with Remove words = option_map call.Remove (name_alone words)
call_with Nodata words = nodata_of words
call_with Removable words = removable_of words
call_with Ckpts words = alone call.Ckpts words
call_with Mount words = mount_of words
call_with Umount words = option_map call.Umount (letter_alone words)
call_with Cread words = cread_of words
call_with Cls words = cls_of words
call_with Restore words = option_map call.Restore (name_alone words)
call_with Backup words = backup_of words
call_with Full words = option_map call.Full (letter_alone words)
call_with Info words = alone call.Info words
call_with Sync words = alone call.Sync words

-- the call that these words stand for
abbrev pub call_of : List (List ℕ) → Option Call
call_of [] = None
call_of (verb ∷ words) = verb_of verb >>= λ verb. call_with verb words

-- an actor's number, or `b` for a turn of the background, which is 0
abbrev pub turn_of : List ℕ → Option ℕ
turn_of word = if is_text word (codes "b") then Some 0 else actor_of word

abbrev pub turns_of : List (List ℕ) → Option (List ℕ)
turns_of [] = Some []
turns_of (word ∷ words) = option_and_then (λ turn. option_map (λ turns. turn ∷ turns) (turns_of words)) (turn_of word)

-- `turns` and any number of turns, or an actor's number and the words of a call
abbrev pub form_of : List (List ℕ) → Option Form
form_of [] = None
form_of (first ∷ words) =
    if is_text first (codes "turns") then option_map Turned (turns_of words)
    else option_and_then (λ actor. option_map (λ call. Called actor call) (call_of words)) (actor_of first)
