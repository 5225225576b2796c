-- A history and its calls, one entry after another.
use Rattle.std.proofs.Common.{◌≡◌, List, [], ◌∷◌, ◌++◌, Some, sym, ap, subst, ◌∙◌}
use Rattle.ck_model.specs.declared.call.Call.{Call}
use Rattle.ck_model.specs.declared.entry.Entry.{Entry}
use Rattle.ck_model.specs.Streams.{Texts}
use Rattle.ck_model.specs.World.{World}
use Rattle.ck_model.specs.History.{Past, CallsBy, begun, past_of, past_after, IsLegal, IsLegalNext}
use Rattle.ck_model.proofs.HistoryLaws.{past_of-append, IsLegalFrom-append}
use Rattle.ck_volume.specs.Told.{AreAnswered}

-- of the entries with one more, those before it and the last
pub answered-before : (calls : CallsBy) (told : List Call) (call : Call) (history : List Entry) (entry : Entry)
    → AreAnswered calls (told ++ call ∷ []) (history ++ entry ∷ []) → AreAnswered calls told history × (calls entry.actor entry.seq ≡ Some call)
answered-before calls [] call [] entry h = (tt, h.0)
answered-before calls [] call (first ∷ []) entry h = absurd h.1
answered-before calls [] call (first ∷ (next ∷ history)) entry h = absurd h.1
answered-before calls (one ∷ []) call [] entry h = absurd h.1
answered-before calls (one ∷ (two ∷ told)) call [] entry h = absurd h.1
answered-before calls (one ∷ told) call (first ∷ history) entry h =
    let rest = answered-before calls told call history entry h.1 in
    ((h.0, rest.0), rest.1)

-- and with one more
pub answered-more : (calls : CallsBy) (told : List Call) (call : Call) (history : List Entry) (entry : Entry) → AreAnswered calls told history → calls entry.actor entry.seq ≡ Some call
    → AreAnswered calls (told ++ call ∷ []) (history ++ entry ∷ [])
answered-more calls [] call [] entry h is = (is, tt)
answered-more calls [] call (first ∷ history) entry h is = absurd h
answered-more calls (one ∷ told) call [] entry h is = absurd h
answered-more calls (one ∷ told) call (first ∷ history) entry h is = (h.0, answered-more calls told call history entry h.1 is)

-- an entry that may stand after a legal history
pub legal-more : (texts : Texts) (calls : CallsBy) (w : World) (history : List Entry) (entry : Entry) (past next : Past)
    → IsLegal texts calls w history → past_of texts calls (begun w) history ≡ past → IsLegalNext texts calls past entry → past_after texts calls past entry ≡ next
    → IsLegal texts calls w (history ++ entry ∷ []) × (past_of texts calls (begun w) (history ++ entry ∷ []) ≡ next)
legal-more texts calls w history entry past next legal leads may goes = (
  IsLegalFrom-append texts calls (begun w) history (entry ∷ []) legal (subst (λ (p : Past). IsLegalNext texts calls p entry) (sym leads) may, tt),
  past_of-append texts calls (begun w) history (entry ∷ []) ∙ ap (λ (p : Past). past_after texts calls p entry) leads ∙ goes,
)
