-- A new checkpoint: the reply where it is refused, and what it changes of the table.
use Rattle.std.specs.Prelude.{◌≡◌, ◌<◌, ℕ, Bool, List, Result, Ok, Err, IsSome}
use Rattle.ck_model.specs.declared.call.Call.{Call}
use Rattle.ck_model.specs.declared.call.Call.TheVariants.{Create}
use Rattle.ck_model.specs.declared.reply.Reply.{Reply}
use Rattle.ck_model.specs.declared.reply.Reply.TheVariants as reply
use Rattle.ck_model.specs.CheckpointCalls.{kind_of}
use Rattle.ck_model.specs.History.{created_id}
use Rattle.ck_model.specs.Table.{Table, spare_count}
use Rattle.ck_table.specs.Added.{new_fileset, with_added}
use Rattle.ck_table.specs.declared.added.AddFault.{AddFault}
use Rattle.ck_table.specs.declared.added.AddFault.TheVariants.{Exists, TooMany, Spent}

-- why it isn't added, where at most so many may stand
abbrev pub refusal_of : ℕ → AddFault → Reply
refusal_of most Exists = reply.Exists
refusal_of most TooMany = reply.TooMany most
refusal_of most Spent = reply.Spent

-- the refusal, or this reply where nothing is refused
abbrev pub refused_or : ℕ → Reply → Result ℕ AddFault → Reply
refused_or most answer (Ok id) = answer
refused_or most answer (Err fault) = refusal_of most fault

-- Where a record was free, a call that created a checkpoint has added its record, of the kind that the call asks for, under the next
-- id, and raised that id. Nothing else of the table has changed: no entry was copied.
abbrev pub Freezes : Call → ℕ → Reply → Table → Table → Type 0
Freezes call at reply before after =
    (name : List ℕ) (nodata removable : Bool) → call ≡ Create name nodata removable → IsSome (created_id reply) → 0 < spare_count before
    → after ≡ with_added before (new_fileset name (kind_of nodata) removable at)
