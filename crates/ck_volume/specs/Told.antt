-- The calls of a history, which an entry doesn't have.
use Rattle.std.specs.Prelude.{◌≡◌, ⊤, List, [], ◌∷◌, ◌++◌, Some}
use Rattle.ck_model.specs.declared.call.Call.{Call}
use Rattle.ck_model.specs.declared.entry.Entry.{Entry}
use Rattle.ck_model.specs.History.{CallsBy}
use Rattle.ck_volume.specs.declared.told.Told.{Told, Nothing, More'}

-- the calls that were told, in their order
abbrev pub told_of : Told → List Call
told_of Nothing = []
told_of (More' shape before call) = told_of before ++ call.value ∷ []

-- each entry answers the call that stands at its place
abbrev pub AreAnswered : CallsBy → List Call → List Entry → Type 0
AreAnswered calls [] [] = ⊤
AreAnswered calls [] (entry ∷ entries) = ⊥
AreAnswered calls (call ∷ told) [] = ⊥
AreAnswered calls (call ∷ told) (entry ∷ entries) = (calls entry.actor entry.seq ≡ Some call) × AreAnswered calls told entries
