-- A checkpoint that is removed: what changes of the table.
use Rattle.std.specs.Prelude.{◌≡◌, ℕ, List, true}
use Rattle.ck_model.specs.declared.call.Call.{Call}
use Rattle.ck_model.specs.declared.call.Call.TheVariants.{Remove}
use Rattle.ck_model.specs.declared.reply.Reply.{Reply}
use Rattle.ck_model.specs.declared.reply.Reply.TheVariants.{Done}
use Rattle.ck_model.specs.Chain.{is_live}
use Rattle.ck_model.specs.Table.{Table}
use Rattle.ck_table.specs.Gone.{with_gone}

-- one checkpoint that stood is gone, and nothing else of the table has changed
pub record IsRemoved (old new : Table) : Type 0 where
  pub id : ℕ
  pub live : is_live old id ≡ true
  pub table : new ≡ with_gone old id

-- a call that removed a checkpoint has changed that one record: no entry has moved
abbrev pub Removes : Call → Reply → Table → Table → Type 0
Removes call reply old new = (name : List ℕ) → call ≡ Remove name → reply ≡ Done → IsRemoved old new
