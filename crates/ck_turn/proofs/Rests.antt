-- What a pass at rest has in hand.
use Rattle.std.proofs.Common.{◌≡◌, true, false, [], ◌∷◌, Option, None, sym, ap, ◌∙◌, ⊎_elim}
use Rattle.atomic_table.specs.Table.{Me}
use Rattle.ck_turn.specs.declared.view.View.{View}
use Rattle.ck_turn.specs.declared.view.Phase.TheVariants.{Out, Inside}
use Rattle.ck_turn.specs.Phase.{is_inside}
use Rattle.ck_turn.specs.Pass.{IsAtRest}
use Rattle.ck_turn.proofs.Lists.{not_both}

module _ {E O T : Type 0} where
  pub rests_outside : (me : Me (Option T) (View E O)) → IsAtRest me → is_inside me.0.phase ≡ false → (me.0.phase ≡ Out) × (me.1 ≡ [])
  rests_outside me rest out = ⊎_elim (λ o. o) (λ i. absurd (not_both (is_inside me.0.phase) (ap is_inside i.0) out)) rest

  pub rests_inside : (me : Me (Option T) (View E O)) → IsAtRest me → is_inside me.0.phase ≡ true → (me.0.phase ≡ Inside) × (me.1 ≡ (0, None) ∷ [])
  rests_inside me rest «in» = ⊎_elim (λ o. absurd (not_both (is_inside me.0.phase) «in» (ap is_inside o.0))) (λ i. i) rest
