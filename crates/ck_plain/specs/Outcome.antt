-- The plain program's answers as outcomes of the model, and the calls that it answers.
use Rattle.std.specs.Prelude.{◌≤◌, ⊤}
use Rattle.ck_model.specs.declared.call.Call.{Call}
use Rattle.ck_model.specs.declared.call.Call.TheVariants.{Write, Fill, Trunc, Read, Cread, Backup, Full}
use Rattle.ck_model.specs.World.{World}
use Rattle.ck_model.specs.Limits.{file_limit}
use Rattle.ck_model.specs.Step.{Outcome}
use Rattle.ck_plain.specs.declared.answer.Answer.{Answer}

-- this answer, and this next world
abbrev pub outcome_with : Answer → World → Outcome
outcome_with answer next = record { reply = answer.reply; given = answer.given; next = next }

-- the effect of a call that changes files: all but the checkpoints, which are those that are left
abbrev pub with_files : World → World → World
with_files changed left = record changed { checkpoints = left.checkpoints }

-- a call for no stream, whose places and sizes are within the limit of a file's size
abbrev pub IsPlainCall : Call → Type 0
IsPlainCall (Write path place bytes) = place ≤ file_limit
IsPlainCall (Fill path place len byte) = place ≤ file_limit
IsPlainCall (Trunc path size) = size ≤ file_limit
IsPlainCall (Read path place len) = place ≤ file_limit
IsPlainCall (Cread letter path place len) = place ≤ file_limit
IsPlainCall (Backup letter later_letter) = ⊥
IsPlainCall (Full letter) = ⊥
IsPlainCall _ = ⊤
