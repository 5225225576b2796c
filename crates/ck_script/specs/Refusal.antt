-- How what reads words answers.
use Rattle.std.specs.Prelude.{◌≡◌, Option, Some, None, Result, MatchResult}
use Rattle.ck_script.specs.declared.refusal.Refusal.{Refusal}
use Rattle.ck_script.specs.declared.refusal.Refusal.TheVariants.{NotThis}

-- the answer is what the grammar has, or that it has nothing; memory may always be refused
abbrev pub Answers : {T : Type 0} → Option T → Result T Refusal → Type 0
Answers found answer = MatchResult answer (λ value. found ≡ Some value) (λ refusal. refusal ≡ NotThis → found ≡ None)
