-- Which replies a refusal can be.
use Rattle.std.specs.Prelude.{⊤, ◌≡◌, false, None, Result, MatchResult}
use Rattle.ck_model.specs.declared.reply.Reply.{Reply}
use Rattle.ck_model.specs.History.{is_fault, created_id}

-- neither a fault nor a new checkpoint's id
abbrev pub IsOrdinary : Reply → Type 0
IsOrdinary reply = (is_fault reply ≡ false) × (created_id reply ≡ None)

-- what there is has a property, and a refusal is ordinary
abbrev pub OrOrdinary : {A : Type 0} → (A → Type 0) → Result A Reply → Type 0
OrOrdinary P r = MatchResult r P IsOrdinary

abbrev pub Refuses : {A : Type 0} → Result A Reply → Type 0
Refuses r = OrOrdinary (λ x. ⊤) r
