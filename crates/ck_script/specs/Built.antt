-- What is built of the grammar today. Every other line is refused.
use Rattle.std.specs.Prelude.{Bool, true, false}
use Rattle.ck_model.specs.declared.call.Call.{Call}
use Rattle.ck_model.specs.declared.call.Call.TheVariants.{Restore, Backup, Full}
use Rattle.ck_script.specs.declared.form.Form.{Form}
use Rattle.ck_script.specs.declared.form.Form.TheVariants.{Called, Turned}

-- all calls but restore, backup and full
abbrev pub is_built_call : Call → Bool
is_built_call (Restore name) = false
is_built_call (Backup letter later) = false
is_built_call (Full letter) = false
is_built_call _ = true

-- such a call of any actor, and all turns
abbrev pub is_built : Form → Bool
is_built (Called actor call) = is_built_call call
is_built (Turned turns) = true
