-- How what is gained of bytes goes on, and what tells before a call and after it.
use Rattle.std.proofs.Common.{◌≡◌, ℕ, Bool, IsTrue, List, ◌++◌, ◌+◌, sym, ◌∙◌, ap, subst, append_assoc}
use Rattle.ck_io.specs.Bytes.{GainsPrefix}

-- what tells before a call tells after it, and the other way round
pub told_on : (old new : Bool) → new ≡ old → IsTrue old → IsTrue new
told_on old new same told = subst (λ (b : Bool). IsTrue b) (sym same) told

-- the first of two runs of bytes was written in part
pub gains_first : (old new first second : List ℕ) → GainsPrefix old new first → GainsPrefix old new (first ++ second)
gains_first old new first second part = record {
  gained = part.gained;
  missing = part.missing ++ second;
  parts = ap (λ (l : List ℕ). l ++ second) part.parts ∙ append_assoc part.gained part.missing second;
  appended = part.appended;
}

-- the first of two runs of bytes was written, and the second in part
pub gains_second : (old mid new first second : List ℕ) → mid ≡ old ++ first → GainsPrefix mid new second → GainsPrefix old new (first ++ second)
gains_second old mid new first second is part = record {
  gained = first ++ part.gained;
  missing = part.missing;
  parts = ap (λ (l : List ℕ). first ++ l) part.parts ∙ sym (append_assoc first part.gained part.missing);
  appended = part.appended ∙ ap (λ (l : List ℕ). l ++ part.gained) is ∙ append_assoc old first part.gained;
}
