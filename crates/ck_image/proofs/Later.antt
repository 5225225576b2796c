-- What applying once gives.
use Rattle.std.proofs.Common.{◌≡◌, ◌≢◌, ℕ, Bool, true, false, cond, List, [], ◌∷◌, Result, Ok, Err, refl, sym, ap, subst, ◌∙◌, arith}
use Rattle.std.specs.Prelude.{nat_eq, IfErr}
use Rattle.std.specs.List.{AllByRecursion}
use Rattle.std.proofs.lemmas.Bool.{eqb-true}
use Rattle.std.proofs.lemmas.Bool.Decides.{nat_tests}
use Rattle.ck_model.specs.Streams.{applied}
use Rattle.ck_stream.specs.declared.item.Item.{Item}
use Rattle.ck_stream.specs.declared.item.Item.TheVariants.{Put, Removed}
use Rattle.ck_stream.specs.declared.fault.ApplyFault.{ApplyFault}
use Rattle.ck_stream.specs.declared.fault.ApplyFault.TheVariants as faults
use Rattle.ck_stream.specs.declared.stream.Full.{Full}
use Rattle.ck_stream.specs.declared.stream.Changed.{Changed}
use Rattle.ck_stream.specs.Right.{IsPut, IsFull, contents, changes}
use Rattle.ck_image.specs.declared.refusal.Refusal.TheVariants as refusal
use Rattle.ck_image.specs.Images.{items_with, later, applied_once}

-- records that all put come of their contents
items_again : (items : List Item) → AllByRecursion IsPut items → items_with (contents items) ≡ items
items_again [] puts = refl
items_again (Put key payload ∷ items) puts = ap (λ (rest : List Item). Put key payload ∷ rest) (items_again items puts.1)
items_again (Removed key ∷ items) puts = absurd puts.0

made_later : (full : Full) (changed : Changed) (new : Full) → IsFull new → new.id ≡ changed.to → contents new.items ≡ applied (contents full.items) (changes changed.items) → later full changed ≡ new
made_later full changed new right id items =
    let same : items_with (applied (contents full.items) (changes changed.items)) ≡ new.items = ap items_with (sym items) ∙ items_again new.items right.puts in
    λ i. record { id = sym id i; items = same i }

pub fitting : (full : Full) (changed : Changed) (answer : Result Full ApplyFault) (new : Full) → answer ≡ Ok new → (full.id ≢ changed.from → answer ≡ Err (faults.WrongBase full.id changed.from)) → IsFull new → new.id ≡ changed.to → contents new.items ≡ applied (contents full.items) (changes changed.items) → applied_once full changed ≡ Ok new
unfolding applied_once
fitting full changed answer new is wrong right id items =
    elim (nat_eq full.id changed.from) as (λ (b : Bool). nat_eq full.id changed.from ≡ b → cond b (Ok (later full changed)) (Err (refusal.WrongBase full.id changed.from)) ≡ Ok new) [
      | true ↦ λ _. ap (λ (f : Full). Ok f) (made_later full changed new right id items)
      | false ↦ λ e. let apart : full.id ≢ changed.from = λ same. grind (arith, nat_tests) in let clash = wrong apart in absurd cc
    ] refl

pub not_fitting : (full : Full) (changed : Changed) (answer : Result Full ApplyFault) (has wants : ℕ) → answer ≡ Err (faults.WrongBase has wants) → (full.id ≢ changed.from → answer ≡ Err (faults.WrongBase full.id changed.from)) → (full.id ≡ changed.from → IfErr answer (λ why. why ≡ faults.NoMemory)) → applied_once full changed ≡ Err (refusal.WrongBase has wants)
unfolding applied_once
not_fitting full changed answer has wants is wrong fits =
    elim (nat_eq full.id changed.from) as (λ (b : Bool). nat_eq full.id changed.from ≡ b → cond b (Ok (later full changed)) (Err (refusal.WrongBase full.id changed.from)) ≡ Err (refusal.WrongBase has wants)) [
      | true ↦ λ e. let never = subst (λ (r : Result Full ApplyFault). IfErr r (λ why. why ≡ faults.NoMemory)) is (fits (eqb-true _ _ e)) in absurd cc
      | false ↦ λ e.
          let apart : full.id ≢ changed.from = λ same. grind (arith, nat_tests) in
          let both : answer ≡ Err (faults.WrongBase full.id changed.from) = wrong apart in
          let one : full.id ≡ has = cc in
          let other : changed.from ≡ wants = cc in
          λ i. Err (refusal.WrongBase (one i) (other i))
    ] refl
