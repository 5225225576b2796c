-- A call that names a checkpoint does so by a name that a checkpoint may have, and its places are within the limit of a
-- file's size. Turns are of actors that there may be.
use Rattle.std.proofs.Common.{◌≡◌, ℕ, ◌≤◌, ◌&&◌, Bool, true, false, cond, not, List, [], ◌∷◌, Option, Some, None, IfSome, nat_eq, codes, refl, subst, arith}
use Rattle.std.specs.Bool.{Decides}
use Rattle.std.specs.Option.{option_map, option_and_then}
use Rattle.std.proofs.lemmas.Bool.Decides.{Decides-eqb}
use Rattle.std.proofs.lemmas.List.Elements.{All-nil, All-cons}
use Rattle.ck_model.specs.Limits.{file_limit}
use Rattle.ck_model.specs.Name.{IsName, IsCheckpointName}
use Rattle.ck_model.specs.declared.call.Call.{Call}
use Rattle.ck_model.specs.declared.call.Call.TheVariants as call
use Rattle.ck_script.specs.declared.form.Form.{Form}
use Rattle.ck_script.specs.declared.form.Form.TheVariants.{Called, Turned}
use Rattle.ck_script.specs.declared.verb.Verb.{Verb}
use Rattle.ck_script.specs.declared.verb.Verb.TheVariants.{Make, Mkdir, Rm, Rmdir, Mv, Write, Fill, Trunc, Read, Ls, Stat, Create, Remove, Nodata, Removable, Ckpts, Mount, Umount, Cread, Cls, Restore, Backup, Full, Info, Sync}
use Rattle.ck_script.specs.Arguments.{is_text, is_name, checkpoint_name, path_of, actor_of, place_of, fill_length, read_length, bytes_of, byte_of, letter_of, switch_of}
use Rattle.ck_script.specs.Verb.{verb_of}
use Rattle.ck_script.specs.Grammar.{path_alone, name_alone, letter_alone, alone, mv_of, write_of, fill_of, trunc_of, read_of, create_of, nodata_of, removable_of, mount_of, cread_of, cls_of, backup_of, call_with, call_of, turn_of, turns_of, form_of}
use Rattle.ck_script.specs.Limits.{AreTurns}
use Rattle.ck_script.specs.Names.{HasValidName}
use Rattle.ck_script.specs.Places.{HasPlaces}
use Rattle.ck_script.proofs.FormLemmas.{up_to, actor_is}
use Rattle.ck_script.proofs.NameLemmas.{Decides-name}

-- a word that is read as a checkpoint's name is one
checkpoint_name_is : (word name : List ℕ) → checkpoint_name word ≡ Some name → IsCheckpointName name
checkpoint_name_is [] name e = cc
checkpoint_name_is (byte ∷ rest) name e = step (is_name (byte ∷ rest)) (nat_eq byte 45) (Decides-name (byte ∷ rest)) (Decides-eqb byte 45) e
  where
    step : (a b : Bool) → Decides a (IsName (byte ∷ rest)) → Decides b (byte ≡ 45) → cond (a && not b) (Some (byte ∷ rest)) None ≡ Some name → IsCheckpointName name
    step true true named dash e = cc
    step true false named dash e =
        let same : (byte ∷ rest) ≡ name = cc in
        subst IsCheckpointName same (record { name = named.0 refl; no_dash = λ first. let is : byte ≡ 45 = cc in let wrong : false ≡ true = dash.1 is in cc })
    step false b named dash e = cc

-- what holds of each value that may be there
module _ {Y : Type 0} (P : Y → Type 0) where
  chosen : (b : Bool) (x y : Option Y) → IfSome x P → IfSome y P → IfSome (cond b x y) P
  chosen true x y first second = first
  chosen false x y first second = second

  mapped : {X : Type 0} (f : X → Y) (o : Option X) → ((x : X) → P (f x)) → IfSome (option_map f o) P
  mapped f None each = tt
  mapped f (Some x) each = each x

  followed : {X : Type 0} (f : X → Option Y) (o : Option X) → ((x : X) → IfSome (f x) P) → IfSome (option_and_then f o) P
  followed f None each = tt
  followed f (Some x) each = each x

  -- the same where all that may be there has a property
  followed_by : {X : Type 0} (Q : X → Type 0) (f : X → Option Y) (o : Option X) → IfSome o Q → ((x : X) → Q x → IfSome (f x) P) → IfSome (option_and_then f o) P
  followed_by Q f None is each = tt
  followed_by Q f (Some x) is each = each x is

  -- the same of a place that is read
  placed : (f : ℕ → Option Y) (word : List ℕ) → ((place : ℕ) → place ≤ file_limit → IfSome (f place) P) → IfSome (option_and_then f (place_of word)) P
  placed f word each = elim (place_of word) as (λ o. place_of word ≡ o → IfSome (option_and_then f o) P) [
    | None ↦ λ e. tt
    | Some place ↦ λ e. each place (up_to file_limit place word e)
  ] refl

-- the call's name and places are such as the grammar reads
abbrev pub IsKept : Call → Type 0
IsKept call = HasValidName call × HasPlaces call

-- so is a call, if there is one
abbrev IfKept : Option Call → Type 0
IfKept o = IfSome o IsKept

named_by : (P : Option (List ℕ) → Type 0) (word : List ℕ) → P None → ((name : List ℕ) → IsCheckpointName name → P (Some name)) → P (checkpoint_name word)
named_by P word none each = elim (checkpoint_name word) as (λ o. checkpoint_name word ≡ o → P o) [
  | None ↦ λ e. none
  | Some name ↦ λ e. each name (checkpoint_name_is word name e)
] refl

named : (f : List ℕ → Call) (word : List ℕ) → ((name : List ℕ) → IsCheckpointName name → IsKept (f name)) → IfKept (option_map f (checkpoint_name word))
named f word each = named_by (λ o. IfKept (option_map f o)) word tt each

name_alone-kept : (f : List ℕ → Call) (words : List (List ℕ)) → ((name : List ℕ) → IsCheckpointName name → IsKept (f name)) → IfKept (option_map f (name_alone words))
name_alone-kept f [] each = tt
name_alone-kept f (word ∷ []) each = named f word each
name_alone-kept f (word ∷ other ∷ words) each = tt

alone-kept : (call : Call) (words : List (List ℕ)) → IsKept call → IfKept (alone call words)
alone-kept call [] is = is
alone-kept call (word ∷ words) is = tt

mv-kept : (words : List (List ℕ)) → IfKept (mv_of words)
mv-kept [] = tt
mv-kept (a ∷ []) = tt
mv-kept (path ∷ new_path ∷ []) =
    followed IsKept _ (path_of path) (λ path. followed IsKept _ (path_of new_path) (λ new_path. (tt, tt)))
mv-kept (a ∷ b ∷ c ∷ words) = tt

write-kept : (words : List (List ℕ)) → IfKept (write_of words)
write-kept [] = tt
write-kept (a ∷ []) = tt
write-kept (a ∷ b ∷ []) = tt
write-kept (path ∷ at ∷ bytes ∷ []) =
    placed IsKept _ at (λ at within. followed IsKept _ (path_of path) (λ path. followed IsKept _ (bytes_of bytes) (λ bytes. (tt, within))))
write-kept (a ∷ b ∷ c ∷ d ∷ words) = tt

fill-kept : (words : List (List ℕ)) → IfKept (fill_of words)
fill-kept [] = tt
fill-kept (a ∷ []) = tt
fill-kept (a ∷ b ∷ []) = tt
fill-kept (a ∷ b ∷ c ∷ []) = tt
fill-kept (path ∷ at ∷ len ∷ byte ∷ []) =
    placed IsKept _ at (λ at within. followed IsKept _ (fill_length len) (λ len.
    followed IsKept _ (byte_of byte) (λ byte. followed IsKept _ (path_of path) (λ path. (tt, within)))))
fill-kept (a ∷ b ∷ c ∷ d ∷ e ∷ words) = tt

trunc-kept : (words : List (List ℕ)) → IfKept (trunc_of words)
trunc-kept [] = tt
trunc-kept (a ∷ []) = tt
trunc-kept (path ∷ size ∷ []) =
    placed IsKept _ size (λ size within. followed IsKept _ (path_of path) (λ path. (tt, within)))
trunc-kept (a ∷ b ∷ c ∷ words) = tt

read-kept : (words : List (List ℕ)) → IfKept (read_of words)
read-kept [] = tt
read-kept (a ∷ []) = tt
read-kept (a ∷ b ∷ []) = tt
read-kept (path ∷ at ∷ len ∷ []) =
    placed IsKept _ at (λ at within. followed IsKept _ (read_length len) (λ len. followed IsKept _ (path_of path) (λ path. (tt, within))))
read-kept (a ∷ b ∷ c ∷ d ∷ words) = tt

create-kept : (words : List (List ℕ)) → IfKept (create_of words)
create-kept [] = tt
create-kept (name ∷ []) = named (λ name. call.Create name false false) name (λ name is. (is, tt))
create-kept (flag ∷ name ∷ []) =
    chosen IsKept (is_text flag (codes "-n")) _ _ (named (λ name. call.Create name true false) name (λ name is. (is, tt)))
    (chosen IsKept (is_text flag (codes "-r")) _ _ (named (λ name. call.Create name false true) name (λ name is. (is, tt))) tt)
create-kept (nodata ∷ removable ∷ name ∷ []) =
    chosen IsKept (is_text nodata (codes "-n") && is_text removable (codes "-r")) _ _ (named (λ name. call.Create name true true) name (λ name is. (is, tt))) tt
create-kept (a ∷ b ∷ c ∷ d ∷ words) = tt

nodata-kept : (words : List (List ℕ)) → IfKept (nodata_of words)
nodata-kept [] = tt
nodata-kept (name ∷ []) = named (λ name. call.Nodata name false) name (λ name is. (is, tt))
nodata-kept (flag ∷ name ∷ []) = chosen IsKept (is_text flag (codes "-s")) _ _ (named (λ name. call.Nodata name true) name (λ name is. (is, tt))) tt
nodata-kept (a ∷ b ∷ c ∷ words) = tt

removable-kept : (words : List (List ℕ)) → IfKept (removable_of words)
removable-kept [] = tt
removable-kept (a ∷ []) = tt
removable-kept (word ∷ switch ∷ []) =
    named_by (λ o. IfKept (option_and_then (λ name. option_and_then (λ on. Some (call.Removable name on)) (switch_of switch)) o)) word tt
    (λ name is. followed IsKept _ (switch_of switch) (λ on. (is, tt)))
removable-kept (a ∷ b ∷ c ∷ words) = tt

mount-kept : (words : List (List ℕ)) → IfKept (mount_of words)
mount-kept [] = tt
mount-kept (a ∷ []) = tt
mount-kept (letter ∷ name ∷ []) =
    followed IsKept _ (letter_of letter) (λ letter. named_by (λ o. IfKept (option_and_then (λ name. Some (call.Mount letter name)) o)) name tt (λ name is. (is, tt)))
mount-kept (a ∷ b ∷ c ∷ words) = tt

cread-kept : (words : List (List ℕ)) → IfKept (cread_of words)
cread-kept [] = tt
cread-kept (a ∷ []) = tt
cread-kept (a ∷ b ∷ []) = tt
cread-kept (a ∷ b ∷ c ∷ []) = tt
cread-kept (letter ∷ path ∷ at ∷ len ∷ []) =
    followed IsKept _ (letter_of letter) (λ letter. placed IsKept _ at (λ at within.
    followed IsKept _ (read_length len) (λ len. followed IsKept _ (path_of path) (λ path. (tt, within)))))
cread-kept (a ∷ b ∷ c ∷ d ∷ e ∷ words) = tt

cls-kept : (words : List (List ℕ)) → IfKept (cls_of words)
cls-kept [] = tt
cls-kept (a ∷ []) = tt
cls-kept (letter ∷ path ∷ []) =
    followed IsKept _ (letter_of letter) (λ letter. followed IsKept _ (path_of path) (λ path. (tt, tt)))
cls-kept (a ∷ b ∷ c ∷ words) = tt

backup-kept : (words : List (List ℕ)) → IfKept (backup_of words)
backup-kept [] = tt
backup-kept (a ∷ []) = tt
backup-kept (letter ∷ later ∷ []) =
    followed IsKept _ (letter_of letter) (λ letter. followed IsKept _ (letter_of later) (λ later. (tt, tt)))
backup-kept (a ∷ b ∷ c ∷ words) = tt

call_with-kept : (verb : Verb) (words : List (List ℕ)) → IfKept (call_with verb words)
call_with-kept Make words = mapped IsKept call.Make (path_alone words) (λ path. (tt, tt))
call_with-kept Mkdir words = mapped IsKept call.Mkdir (path_alone words) (λ path. (tt, tt))
call_with-kept Rm words = mapped IsKept call.Rm (path_alone words) (λ path. (tt, tt))
call_with-kept Rmdir words = mapped IsKept call.Rmdir (path_alone words) (λ path. (tt, tt))
call_with-kept Mv words = mv-kept words
call_with-kept Write words = write-kept words
call_with-kept Fill words = fill-kept words
call_with-kept Trunc words = trunc-kept words
call_with-kept Read words = read-kept words
call_with-kept Ls words = mapped IsKept call.List (path_alone words) (λ path. (tt, tt))
call_with-kept Stat words = mapped IsKept call.Stat (path_alone words) (λ path. (tt, tt))
call_with-kept Create words = create-kept words
call_with-kept Remove words = name_alone-kept call.Remove words (λ name is. (is, tt))
call_with-kept Nodata words = nodata-kept words
call_with-kept Removable words = removable-kept words
call_with-kept Ckpts words = alone-kept call.Ckpts words (tt, tt)
call_with-kept Mount words = mount-kept words
call_with-kept Umount words = mapped IsKept call.Umount (letter_alone words) (λ letter. (tt, tt))
call_with-kept Cread words = cread-kept words
call_with-kept Cls words = cls-kept words
call_with-kept Restore words = name_alone-kept call.Restore words (λ name is. (is, tt))
call_with-kept Backup words = backup-kept words
call_with-kept Full words = mapped IsKept call.Full (letter_alone words) (λ letter. (tt, tt))
call_with-kept Info words = alone-kept call.Info words (tt, tt)
call_with-kept Sync words = alone-kept call.Sync words (tt, tt)

call-kept : (words : List (List ℕ)) → IfKept (call_of words)
call-kept [] = tt
call-kept (verb ∷ words) = followed IsKept _ (verb_of verb) (λ verb. call_with-kept verb words)

-- a turn is the background's or an actor's
turn-kept : (word : List ℕ) → IfSome (turn_of word) (λ turn. turn ≤ 64)
turn-kept word =
    chosen (λ turn. turn ≤ 64) (is_text word (codes "b")) (Some 0) (actor_of word) (omega arith)
    (elim (actor_of word) as (λ o. actor_of word ≡ o → IfSome o (λ turn. turn ≤ 64)) [
      | None ↦ λ e. tt
      | Some actor ↦ λ e. (actor_is actor word e).1
    ] refl)

one_more : (turn : ℕ) (o : Option (List ℕ)) → turn ≤ 64 → IfSome o AreTurns → IfSome (option_map (λ turns. turn ∷ turns) o) AreTurns
one_more turn None within is = tt
one_more turn (Some turns) within is = All-cons (λ turn. turn ≤ 64) turn turns within is

turns-kept : (words : List (List ℕ)) → IfSome (turns_of words) AreTurns
turns-kept [] = All-nil (λ turn. turn ≤ 64)
turns-kept (word ∷ words) =
    followed_by AreTurns (λ turn. turn ≤ 64) _ (turn_of word) (turn-kept word) (λ turn within. one_more turn (turns_of words) within (turns-kept words))

-- so are a line's call and its turns
abbrev pub IsKeptForm : Form → Type 0
IsKeptForm (Called actor call) = IsKept call
IsKeptForm (Turned turns) = AreTurns turns

called-kept : (actor : ℕ) (o : Option Call) → IfKept o → IfSome (option_map (λ call. Called actor call) o) IsKeptForm
called-kept actor None is = tt
called-kept actor (Some call) is = is

turned-kept : (o : Option (List ℕ)) → IfSome o AreTurns → IfSome (option_map Turned o) IsKeptForm
turned-kept None is = tt
turned-kept (Some turns) is = is

form-kept : (words : List (List ℕ)) → IfSome (form_of words) IsKeptForm
form-kept [] = tt
form-kept (first ∷ words) =
    chosen IsKeptForm (is_text first (codes "turns")) _ _ (turned-kept (turns_of words) (turns-kept words))
    (followed IsKeptForm _ (actor_of first) (λ actor. called-kept actor (call_of words) (call-kept words)))

-- what the words of a line stand for
pub form_found-kept : (words : List (List ℕ)) (form : Form) → form_of words ≡ Some form → IsKeptForm form
form_found-kept words form e = subst (λ o. IfSome o IsKeptForm) e (form-kept words)
