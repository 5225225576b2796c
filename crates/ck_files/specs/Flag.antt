-- A checkpoint that may be given up from now on, or not: what changes of the table.
use Rattle.std.specs.Prelude.{◌≡◌, ℕ, Bool, List, Some, true}
use Rattle.ck_model.specs.declared.call.Call.{Call}
use Rattle.ck_model.specs.declared.call.Call.TheVariants.{Removable}
use Rattle.ck_model.specs.declared.reply.Reply.{Reply}
use Rattle.ck_model.specs.declared.reply.Reply.TheVariants.{Done}
use Rattle.ck_model.specs.Chain.{is_live}
use Rattle.ck_model.specs.Table.{Table}
use Rattle.ck_table.specs.Flags.{with_removable}
use Rattle.ck_table.specs.Names.{id_named}

-- the checkpoint with this name stood, and its record alone has changed
pub record IsFlagged (name : List ℕ) (on : Bool) (old new : Table) : Type 0 where
  pub id : ℕ
  pub named : id_named old name ≡ Some id
  pub live : is_live old id ≡ true
  pub table : new ≡ with_removable old id on

-- a call that made a checkpoint removable, or not, has changed that one record
abbrev pub Flags : Call → Reply → Table → Table → Type 0
Flags call reply old new = (name : List ℕ) (on : Bool) → call ≡ Removable name on → reply ≡ Done → IsFlagged name on old new
