-- What a conversion makes of the table of a volume.
use Rattle.std.specs.Prelude.{◌≡◌, ℕ, ◌+◌, Bool, true, false, List, Some, None, Option}
use Rattle.ck_model.specs.declared.call.Call.{Call}
use Rattle.ck_model.specs.declared.call.Call.TheVariants.{Nodata}
use Rattle.ck_model.specs.declared.reply.Reply.{Reply}
use Rattle.ck_model.specs.declared.reply.Reply.TheVariants.{Done}
use Rattle.ck_model.specs.History.{reply_number}
use Rattle.ck_model.specs.Table.{Table}
use Rattle.ck_nodata.specs.StripItem.{unstripped_count}
use Rattle.ck_table.specs.Flags.{with_nodata}
use Rattle.ck_table.specs.Names.{id_named}
use Rattle.ck_files.specs.Conversion.{IsConverted}
use Rattle.ck_files.specs.Drained.{IsOver}
use Rattle.ck_volume.specs.declared.event.Progress.{Progress}
use Rattle.ck_volume.specs.declared.event.Progress.TheVariants.{Strip}
use Rattle.ck_volume.specs.declared.event.Turn.{Turn}
use Rattle.ck_volume.specs.Turn.{OnAnswered, OnMore}

-- The first event of a conversion step by step: the checkpoint's record changed, and where one of its data blocks is left to strip, one
-- data block was stripped besides. It is through where none of the checkpoint's is left.
pub record StripsFirst (name : List ℕ) (reply : Reply) (old new : Table) (turn : Turn) (now : Progress) : Type 0 where
  pub id : ℕ
  pub named : id_named old name ≡ Some id
  pub more : OnMore turn ((now ≡ Strip id) × (reply ≡ Done) × (unstripped_count new + 1 ≡ unstripped_count (with_nodata old id)))
  pub over : OnAnswered turn (IsOver new id)

-- the checkpoint that a call goes on to strip which was answered so: that of a conversion step by step which was done
abbrev pub strip_begun : Call → Reply → Table → Option ℕ
strip_begun (Nodata name true) Done t = id_named t name
strip_begun _ _ t = None

abbrev pub ConvertsNamed : List ℕ → Bool → Reply → Table → Table → Turn → Progress → Type 0
ConvertsNamed name false reply old new turn now = IsConverted name reply old new
ConvertsNamed name true reply old new turn now = StripsFirst name reply old new turn now

-- A conversion that is done at once changes the record of its checkpoint and nothing else; one step by step strips from its first event on.
abbrev pub ConvertsBy : Call → Reply → Table → Table → Turn → Progress → Type 0
ConvertsBy call reply old new turn now =
    (name : List ℕ) (synchronous : Bool) → call ≡ Nodata name synchronous → reply_number reply ≡ 0 → ConvertsNamed name synchronous reply old new turn now
