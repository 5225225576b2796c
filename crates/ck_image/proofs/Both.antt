-- What merging once gives.
use Rattle.std.proofs.Common.{◌≡◌, ◌≢◌, ℕ, Bool, true, false, cond, map as list_map, Result, Ok, Err, refl, sym, ap, subst, ◌∙◌, arith}
use Rattle.std.specs.Prelude.{nat_eq, IfErr}
use Rattle.std.proofs.lemmas.Bool.{eqb-true}
use Rattle.std.proofs.lemmas.Bool.Decides.{nat_tests}
use Rattle.ck_stream.specs.declared.stream.Changed.{Changed}
use Rattle.ck_stream.specs.Right.{changes}
use Rattle.ck_stream.specs.Texts.{change_for}
use Rattle.ck_merge.specs.declared.fault.MergeFault.{MergeFault}
use Rattle.ck_merge.specs.declared.fault.MergeFault.TheVariants as faults
use Rattle.ck_merge.specs.Merged.{merged}
use Rattle.ck_merge.proofs.MergedLaws.{items_again}
use Rattle.ck_image.specs.declared.refusal.Refusal.TheVariants as refusal
use Rattle.ck_image.specs.Images.{both, merged_once}

made_both : (first second new : Changed) → new.from ≡ first.from → new.to ≡ second.to → changes new.items ≡ merged (changes first.items) (changes second.items) → both first second ≡ new
made_both first second new begins ends items =
    let same : list_map (λ e. change_for e.0 e.1) (merged (changes first.items) (changes second.items)) ≡ new.items = ap (list_map (λ e. change_for e.0 e.1)) (sym items) ∙ items_again new.items in
    λ i. record { from = sym begins i; to = sym ends i; items = same i }

pub fitting : (first second : Changed) (answer : Result Changed MergeFault) (new : Changed) → answer ≡ Ok new → (first.to ≢ second.from → answer ≡ Err (faults.NotAdjacent first.to second.from)) → new.from ≡ first.from → new.to ≡ second.to → changes new.items ≡ merged (changes first.items) (changes second.items) → merged_once first second ≡ Ok new
unfolding merged_once
fitting first second answer new is wrong begins ends items =
    elim (nat_eq first.to second.from) as (λ (b : Bool). nat_eq first.to second.from ≡ b → cond b (Ok (both first second)) (Err (refusal.NotAdjacent first.to second.from)) ≡ Ok new) [
      | true ↦ λ _. ap (λ (c : Changed). Ok c) (made_both first second new begins ends items)
      | false ↦ λ e. let apart : first.to ≢ second.from = λ same. grind (arith, nat_tests) in let clash = wrong apart in absurd cc
    ] refl

pub not_fitting : (first second : Changed) (answer : Result Changed MergeFault) (ends begins : ℕ) → answer ≡ Err (faults.NotAdjacent ends begins) → (first.to ≢ second.from → answer ≡ Err (faults.NotAdjacent first.to second.from)) → (first.to ≡ second.from → IfErr answer (λ why. why ≡ faults.NoMemory)) → merged_once first second ≡ Err (refusal.NotAdjacent ends begins)
unfolding merged_once
not_fitting first second answer ends begins is wrong fits =
    elim (nat_eq first.to second.from) as (λ (b : Bool). nat_eq first.to second.from ≡ b → cond b (Ok (both first second)) (Err (refusal.NotAdjacent first.to second.from)) ≡ Err (refusal.NotAdjacent ends begins)) [
      | true ↦ λ e. let never = subst (λ (r : Result Changed MergeFault). IfErr r (λ why. why ≡ faults.NoMemory)) is (fits (eqb-true _ _ e)) in absurd cc
      | false ↦ λ e.
          let apart : first.to ≢ second.from = λ same. grind (arith, nat_tests) in
          let told : answer ≡ Err (faults.NotAdjacent first.to second.from) = wrong apart in
          let one : first.to ≡ ends = cc in
          let other : second.from ≡ begins = cc in
          λ i. Err (refusal.NotAdjacent (one i) (other i))
    ] refl
