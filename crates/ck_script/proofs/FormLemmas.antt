-- What lines stand for.
use Rattle.std.proofs.Common.{◌≡◌, ℕ, ◌≤◌, Bool, true, false, cond, List, [], ◌∷◌, Option, Some, None, nat_le, codes, length, map as list_map, ◌≢◌, refl, sym, ap, subst, ◌∙◌, arith}
use Rattle.std.specs.Option.{option_map, option_and_then}
use Rattle.std.proofs.lemmas.Option.{option_and_then_some}
use Rattle.std.proofs.lemmas.Bool.Decides.{nat_tests}
use Rattle.ck_model.specs.declared.call.Call.{Call}
use Rattle.ck_script.specs.declared.form.Form.{Form}
use Rattle.ck_script.specs.declared.form.Form.TheVariants.{Called, Turned}
use Rattle.ck_script.specs.Arguments.{is_text, number_up_to, actor_of}
use Rattle.ck_script.specs.Grammar.{call_of, turns_of, form_of, fill_of}
use Rattle.ck_script.specs.Built.{is_built}
use Rattle.ck_script.specs.Steps.{HasActor}

-- a test that gives its number
tested : (b : Bool) (number found : ℕ) → cond b (Some number) None ≡ Some found → (b ≡ true) × (number ≡ found)
tested true number found e = (refl, cc)
tested false number found e = cc

-- a number that is read is within its limit
pub up_to : (limit found : ℕ) (word : List ℕ) → number_up_to limit word ≡ Some found → found ≤ limit
up_to limit found word e = option_and_then_some _ _ found e (λ number _ rest. let both = tested (nat_le number limit) number found rest in grind (arith, nat_tests, both.0, both.1))

pub actor_is : (found : ℕ) (word : List ℕ) → actor_of word ≡ Some found → (1 ≤ found) × (found ≤ 64)
actor_is found word e = option_and_then_some _ _ found e (λ number within rest.
    let both = tested (nat_le 1 number) number found rest in
    (grind (arith, nat_tests, both.0, both.1), subst (λ n. n ≤ 64) both.1 (up_to 64 number word within)))

called : (actor : ℕ) (o : Option Call) (form : Form) → (1 ≤ actor) × (actor ≤ 64) → option_map (λ call. Called actor call) o ≡ Some form → HasActor form
called actor None form is e = cc
called actor (Some call) form is e = let same : Called actor call ≡ form = cc in subst HasActor same is

turned : (o : Option (List ℕ)) (form : Form) → option_map Turned o ≡ Some form → HasActor form
turned None form e = cc
turned (Some turns) form e = let same : Turned turns ≡ form = cc in subst HasActor same tt

either : (b : Bool) (x y : Option Form) (form : Form) → (x ≡ Some form → HasActor form) → (y ≡ Some form → HasActor form) → cond b x y ≡ Some form → HasActor form
either true x y form first second e = first e
either false x y form first second e = second e

-- a call's actor has a number from 1 to 64
pub form_actor : (words : List (List ℕ)) (form : Form) → form_of words ≡ Some form → HasActor form
form_actor [] form e = cc
form_actor (first ∷ words) form e =
    either (is_text first (codes "turns")) (option_map Turned (turns_of words)) (option_and_then (λ actor. option_map (λ call. Called actor call) (call_of words)) (actor_of first)) form
    (turned (turns_of words) form) (λ e. option_and_then_some _ _ form e (λ actor is rest. called actor (call_of words) form (actor_is actor first is) rest)) e

pub built_found : (o : Option Form) (form : Form) → option_and_then (λ form. cond (is_built form) (Some form) None) o ≡ Some form → (o ≡ Some form) × (is_built form ≡ true)
built_found o form e = option_and_then_some _ o form e (λ found is rest. step (is_built found) found refl is rest)
  where
    step : (b : Bool) (found : Form) → is_built found ≡ b → o ≡ Some found → cond b (Some found) None ≡ Some form → (o ≡ Some form) × (is_built form ≡ true)
    step true found built is rest = let same : found ≡ form = cc in (is ∙ ap Some same, ap is_built (sym same) ∙ built)
    step false found built is rest = cc

-- a fill has four words
pub fill_of_few : {X : Type 0} (f : X → List ℕ) (words : List X) → length words ≢ 4 → fill_of (list_map f words) ≡ None
fill_of_few f [] other = refl
fill_of_few f (a ∷ []) other = refl
fill_of_few f (a ∷ b ∷ []) other = refl
fill_of_few f (a ∷ b ∷ c ∷ []) other = refl
fill_of_few f (a ∷ b ∷ c ∷ d ∷ []) other = absurd (other refl)
fill_of_few f (a ∷ b ∷ c ∷ d ∷ e ∷ words) other = refl
