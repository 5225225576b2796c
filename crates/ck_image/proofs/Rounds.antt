-- Streams are taken one after the other, as a loop does.
use Rattle.std.proofs.Common.{◌≡◌, ◌≢◌, ℕ, suc, ◌-◌, ◌+◌, ◌≤◌, ◌<◌, true, false, List, length, Result, Ok, refl, sym, subst, ◌∙◌, arith}
use Rattle.std.specs.Prelude.{nat_eq}
use Rattle.std.proofs.lemmas.Bool.Decides.{nat_tests}
use Rattle.ck_stream.specs.Parsed.{◌>>=◌}
use Rattle.ck_image.specs.declared.refusal.Refusal.{Refusal}
use Rattle.ck_image.specs.declared.refusal.Refusal.TheVariants as refusal
use Rattle.ck_image.specs.Images.{HasRefusal, to_end}

pub at_end : {A : Type 0} (step : A → ℕ → Result (A × ℕ) Refusal) (bytes : List ℕ) (count i : ℕ) (made : A) (at : ℕ) (whole : Result A Refusal) → i < count → at ≡ length bytes → to_end step (count - i) bytes made at ≡ whole → whole ≡ Ok made
unfolding to_end
at_end step bytes count i made at whole lt ended so_far =
    let k : count - i ≡ suc (count - (i + 1)) = omega arith in
    let test : nat_eq at (length bytes) ≡ true = grind (arith, nat_tests) in
    let one : to_end step (count - i) bytes made at ≡ Ok made = rw (k, test) refl in
    sym so_far ∙ one

one_more : {A : Type 0} (step : A → ℕ → Result (A × ℕ) Refusal) (bytes : List ℕ) (n : ℕ) (made : A) (at : ℕ) → at ≢ length bytes → to_end step (suc n) bytes made at ≡ (step made at >>= λ next. to_end step n bytes next.0 next.1)
unfolding to_end
one_more step bytes n made at more =
    let test : nat_eq at (length bytes) ≡ false = grind (arith, nat_tests) in
    rw test refl

pub goes_on : {A : Type 0} (step : A → ℕ → Result (A × ℕ) Refusal) (bytes : List ℕ) (count i : ℕ) (made : A) (at : ℕ) (new : A × ℕ) (whole : Result A Refusal) → i < count → at ≢ length bytes → step made at ≡ Ok new → to_end step (count - i) bytes made at ≡ whole → to_end step (count - (i + 1)) bytes new.0 new.1 ≡ whole
goes_on step bytes count i made at new whole lt more read so_far =
    let k : count - i ≡ suc (count - (i + 1)) = omega arith in
    let one : to_end step (count - i) bytes made at ≡ to_end step (count - (i + 1)) bytes new.0 new.1 = rw (k, one_more step bytes (count - (i + 1)) made at more, read) refl in
    sym one ∙ so_far

wrong : {A : Type 0} (why : Refusal) (read : Result (A × ℕ) Refusal) (go : A × ℕ → Result A Refusal) → HasRefusal why read → HasRefusal why (read >>= go)
wrong (refusal.Stream f) read go given = rw given refl
wrong (refusal.WrongBase has wants) read go given = rw given refl
wrong (refusal.NotAdjacent ends begins) read go given = rw given refl
wrong refusal.TooLong read go given = rw given refl
wrong refusal.NoMemory read go given = tt

pub stops : {A : Type 0} (step : A → ℕ → Result (A × ℕ) Refusal) (bytes : List ℕ) (count i : ℕ) (made : A) (at : ℕ) (why : Refusal) (whole : Result A Refusal) → i < count → at ≢ length bytes → HasRefusal why (step made at) → to_end step (count - i) bytes made at ≡ whole → HasRefusal why whole
stops {A} step bytes count i made at why whole lt more given so_far =
    let k : count - i ≡ suc (count - (i + 1)) = omega arith in
    let go = λ (next : A × ℕ). to_end step (count - (i + 1)) bytes next.0 next.1 in
    let one : to_end step (count - i) bytes made at ≡ (step made at >>= go) = rw (k, one_more step bytes (count - (i + 1)) made at more) refl in
    subst (λ (r : Result A Refusal). HasRefusal why r) (sym one ∙ so_far) (wrong why (step made at) go given)

pub is_out : {A : Type 0} (step : A → ℕ → Result (A × ℕ) Refusal) (bytes : List ℕ) (count i : ℕ) (made : A) (at : ℕ) (whole : Result A Refusal) → count ≤ i → to_end step (count - i) bytes made at ≡ whole → whole ≡ Ok made
unfolding to_end
is_out step bytes count i made at whole le so_far =
    let k : count - i ≡ 0 = omega arith in
    let one : to_end step (count - i) bytes made at ≡ Ok made = rw k refl in
    sym so_far ∙ one
