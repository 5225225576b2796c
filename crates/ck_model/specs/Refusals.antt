-- Results whose error is the reply of the first refusal.
use Rattle.std.specs.Prelude.{Bool, true, false, Result, Ok, Err}
use Rattle.ck_model.specs.declared.path.WalkFault.{WalkFault}
use Rattle.ck_model.specs.declared.path.WalkFault.TheVariants as fault
use Rattle.ck_model.specs.declared.reply.Reply.{Reply}
use Rattle.ck_model.specs.declared.reply.Reply.TheVariants.{NotFound, NotDir}

-- what is refused first is the answer
abbrev pub and_then : {A B E : Type 0} → Result A E → (A → Result B E) → Result B E
and_then (Ok x) next = next x
and_then (Err e) next = Err e

-- a refusal, before those of what is left
abbrev pub refuse_if : {A : Type 0} → Bool → Reply → Result A Reply → Result A Reply
refuse_if true reply rest = Err reply
refuse_if false reply rest = rest

abbrev pub refusal_of : WalkFault → Reply
refusal_of fault.NotFound = NotFound
refusal_of fault.NotDir = NotDir

abbrev pub or_refused : {A : Type 0} → Result A WalkFault → Result A Reply
or_refused (Ok x) = Ok x
or_refused (Err e) = Err (refusal_of e)
