-- A checkpoint that keeps no data from now on: what changes of the table.
use Rattle.std.specs.Prelude.{◌≡◌, ◌⊎◌, ℕ, Bool, List, Some, true}
use Rattle.ck_model.specs.declared.call.Call.{Call}
use Rattle.ck_model.specs.declared.call.Call.TheVariants.{Nodata}
use Rattle.ck_model.specs.declared.reply.Reply.{Reply}
use Rattle.ck_model.specs.declared.reply.Reply.TheVariants.{Delayed, Done}
use Rattle.ck_model.specs.Chain.{is_live, keeps_data}
use Rattle.ck_model.specs.History.{reply_number}
use Rattle.ck_model.specs.Table.{Table}
use Rattle.ck_table.specs.Flags.{with_nodata}
use Rattle.ck_table.specs.Names.{id_named}

-- The checkpoint with this name stood, and its record alone has changed. The reply is that it is delayed where an older one keeps data.
pub record IsConverted (name : List ℕ) (reply : Reply) (old new : Table) : Type 0 where
  pub id : ℕ
  pub named : id_named old name ≡ Some id
  pub live : is_live old id ≡ true
  pub table : new ≡ with_nodata old id
  pub said : (reply ≡ Done) ⊎ (reply ≡ Delayed)
  pub delayed : reply ≡ Delayed → keeps_data new id ≡ true

-- a call that converted a checkpoint has changed that one record: no data block is given back yet
abbrev pub Converts : Call → Reply → Table → Table → Type 0
Converts call reply old new =
    (name : List ℕ) (synchronous : Bool) → call ≡ Nodata name synchronous → reply_number reply ≡ 0 → IsConverted name reply old new
