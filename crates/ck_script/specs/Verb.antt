-- The verbs of calls.
use Rattle.std.specs.Prelude.{ℕ, List, [], ◌∷◌, Option, find, codes}
use Rattle.ck_script.specs.declared.verb.Verb.{Verb}
use Rattle.ck_script.specs.declared.verb.Verb.TheVariants.{Make, Mkdir, Rm, Rmdir, Mv, Write, Fill, Trunc, Read, Ls, Stat, Create, Remove, Nodata, Removable, Ckpts, Mount, Umount, Cread, Cls, Restore, Backup, Full, Info, Sync}
use Rattle.ck_script.specs.Arguments.{is_text}

abbrev pub verb_text : Verb → List ℕ
verb_text Make = codes "make"
verb_text Mkdir = codes "mkdir"
verb_text Rm = codes "rm"
verb_text Rmdir = codes "rmdir"
verb_text Mv = codes "mv"
verb_text Write = codes "write"
verb_text Fill = codes "fill"
verb_text Trunc = codes "trunc"
verb_text Read = codes "read"
verb_text Ls = codes "ls"
verb_text Stat = codes "stat"
verb_text Create = codes "create"
verb_text Remove = codes "remove"
verb_text Nodata = codes "nodata"
verb_text Removable = codes "removable"
verb_text Ckpts = codes "ckpts"
verb_text Mount = codes "mount"
verb_text Umount = codes "umount"
verb_text Cread = codes "cread"
verb_text Cls = codes "cls"
verb_text Restore = codes "restore"
verb_text Backup = codes "backup"
verb_text Full = codes "full"
verb_text Info = codes "info"
verb_text Sync = codes "sync"

-- all of them
unfoldable pub verbs : List Verb
verbs =
    Make ∷ Mkdir ∷ Rm ∷ Rmdir ∷ Mv ∷ Write ∷ Fill ∷ Trunc ∷ Read ∷ Ls ∷ Stat ∷ Create ∷ Remove ∷ Nodata ∷ Removable ∷ Ckpts
    ∷ Mount ∷ Umount ∷ Cread ∷ Cls ∷ Restore ∷ Backup ∷ Full ∷ Info ∷ Sync ∷ []

-- the verb with this text
abbrev pub verb_of : List ℕ → Option Verb
verb_of word = find (λ verb. is_text word (verb_text verb)) verbs
