-- Lists of views: how many pass a test, who holds a ticket, and who has seen the longest list.
use Rattle.std.proofs.Common.{◌≡◌, ◌≢◌, ℕ, zero, suc, ◌+◌, ◌≤◌, Bool, true, List, [], ◌∷◌, ◌++◌, length, set, sym, refl, ap, ◌∙◌, arith}
use mathlib.Core.Logic.{dite}
use mathlib.Core.Option.{some, some-injective, some-ne-none}
use native.Mathlib.Decide.{ℕ_discrete}
use lib.ListN.{get_elem?}
use Rattle.atomic_table.proofs.Lists.{set_here, set_else}
use Rattle.ck_turn.specs.declared.view.View.{View}
use Rattle.ck_turn.specs.declared.view.Phase.{Phase}
use Rattle.ck_turn.specs.Phase.{has_ticket, is_live}
use Rattle.ck_turn.specs.Rule.{bit, how_many, Holds, IsSeen}
use Rattle.ck_turn.proofs.Lists.{at_below}

small_bit : (b : Bool) → bit b ≤ 1
small_bit true = omega arith
small_bit _ = omega arith

module _ {E O : Type 0} where
  pub count_at : (p : Phase → Bool) (l : List (View E O)) (i : ℕ) (v w : View E O) → get_elem? l i ≡ some v
      → how_many p (set l i w) + bit (p v.phase) ≡ how_many p l + bit (p w.phase)
  count_at p [] i v w e = absurd (some-ne-none v (sym e))
  count_at p (x ∷ xs) zero v w e =
      let is : bit (p x.phase) ≡ bit (p v.phase) = ap (λ (y : View E O). bit (p y.phase)) (some-injective x v e) in omega arith
  count_at p (x ∷ xs) (suc i) v w e = let r = count_at p xs i v w e in omega arith

  pub count_most : (p : Phase → Bool) (l : List (View E O)) → how_many p l ≤ length l
  count_most p [] = omega arith
  count_most p (x ∷ xs) = let r = count_most p xs in let s = small_bit (p x.phase) in omega arith

  pub count_end : (p : Phase → Bool) (l : List (View E O)) (v : View E O) → how_many p (l ++ v ∷ []) ≡ how_many p l + bit (p v.phase)
  count_end p [] v = omega arith
  count_end p (x ∷ xs) v = let r = count_end p xs v in omega arith

  count_one : (p : Phase → Bool) (l : List (View E O)) (i : ℕ) (v : View E O) → get_elem? l i ≡ some v → p v.phase ≡ true → 1 ≤ how_many p l
  count_one p [] i v e t = absurd (some-ne-none v (sym e))
  count_one p (x ∷ xs) zero v e t =
      let is : bit (p x.phase) ≡ 1 = ap (λ (y : View E O). bit (p y.phase)) (some-injective x v e) ∙ ap bit t in omega arith
  count_one p (x ∷ xs) (suc i) v e t = let r = count_one p xs i v e t in omega arith

  -- where two pass the test
  pub count_two : (p : Phase → Bool) (l : List (View E O)) (i j : ℕ) (v u : View E O) → i ≢ j
      → get_elem? l i ≡ some v → get_elem? l j ≡ some u → p v.phase ≡ true → p u.phase ≡ true → 2 ≤ how_many p l
  count_two p [] i j v u ne a b t q = absurd (some-ne-none v (sym a))
  count_two p (x ∷ xs) zero zero v u ne a b t q = absurd (ne refl)
  count_two p (x ∷ xs) zero (suc j) v u ne a b t q =
      let is : bit (p x.phase) ≡ 1 = ap (λ (y : View E O). bit (p y.phase)) (some-injective x v a) ∙ ap bit t in
      let r = count_one p xs j u b q in omega arith
  count_two p (x ∷ xs) (suc i) zero v u ne a b t q =
      let is : bit (p x.phase) ≡ 1 = ap (λ (y : View E O). bit (p y.phase)) (some-injective x u b) ∙ ap bit q in
      let r = count_one p xs i v a t in omega arith
  count_two p (x ∷ xs) (suc i) (suc j) v u ne a b t q = let r = count_two p xs i j v u (λ e. ne (ap suc e)) a b t q in omega arith

  -- two views at one place are one
  pub one_view : (l : List (View E O)) (i j : ℕ) (v u : View E O) → i ≡ j → get_elem? l i ≡ some v → get_elem? l j ≡ some u → v ≡ u
  one_view l i j v u same a b = some-injective v u (sym a ∙ (ap (λ (k : ℕ). get_elem? l k) same ∙ b))

  -- a view that changes and keeps its ticket holds it still
  pub holds_set : (served : ℕ) (l : List (View E O)) (id : ℕ) (v w : View E O) (d j : ℕ) → get_elem? l id ≡ some v
      → (has_ticket v.phase ≡ true → (has_ticket w.phase ≡ true) × (w.ticket ≡ v.ticket)) → Holds served l d j → Holds served (set l id w) d j
  holds_set served l id v w d j at keeps h = dite (ℕ_discrete j id)
      (λ e. let is : v ≡ h.0 = one_view l id j v h.0 (sym e) at h.1 in
      let t = keeps (ap (λ (y : View E O). has_ticket y.phase) is ∙ h.2) in
      (w, ap (λ (k : ℕ). get_elem? (set l id w) k) e ∙ set_here l id w (at_below l id v at), t.0, t.1 ∙ (ap (λ (y : View E O). y.ticket) is ∙ h.3)))
      (λ ne. (h.0, set_else l id j w ne ∙ h.1, h.2, h.3))

  -- a view that changes and has still seen the longest list
  pub seen_set : (longest : List E) (l : List (View E O)) (id : ℕ) (v w : View E O) → get_elem? l id ≡ some v
      → (v.seen ≡ longest → (is_live w.phase ≡ true) × (w.seen ≡ longest)) → IsSeen longest l → IsSeen longest (set l id w)
  seen_set longest l id v w at keeps h = dite (ℕ_discrete h.0 id)
      (λ e. let is : v ≡ h.1 = one_view l id h.0 v h.1 (sym e) at h.2 in
      let t = keeps (ap (λ (y : View E O). y.seen) is ∙ h.4) in
      (id, w, set_here l id w (at_below l id v at), t.0, t.1))
      (λ ne. (h.0, h.1, set_else l id h.0 w ne ∙ h.2, h.3, h.4))
