-- Lists, beginnings of lists, and the longer of two.
use Rattle.std.proofs.Common.{◌≡◌, ◌≢◌, ℕ, zero, suc, ◌+◌, ◌<◌, ◌≤◌, ◌⊎◌, Bool, true, false, List, [], ◌∷◌, ◌++◌, nat_lt, if◌then◌else◌, length, sym, refl, ap, ◌∙◌, inl, inr, ⊎_elim, arith, append_assoc}
use Rattle.std.proofs.lemmas.Bool.{ltb-true, ltb-false}
use mathlib.Core.Option.{some, some-injective, some-ne-none}
use mathlib.Core.List.{IsPrefix}
use lib.ListN.{get_elem?}
use Rattle.ck_turn.specs.Pass.{longer}

pub not_both : (b : Bool) → b ≡ true → b ≡ false → ⊥
not_both b t f = absurd (cc (t, f))

pub true_or_false : (b : Bool) → (b ≡ true → ⊥) → b ≡ false
true_or_false true n = absurd (n refl)
true_or_false false n = refl

pub head_is : {A : Type 0} (x y : A) → x ∷ [] ≡ y ∷ [] → x ≡ y
head_is x y e = cc e

either_has : {A : Type 0} (P : A → Type 0) (x y : A) (b : Bool) → P x → P y → P (if b then y else x)
either_has P x y true p q = q
either_has P x y false p q = p

module _ {A : Type 0} where
  pub prefix_self : (xs : List A) → IsPrefix xs xs
  prefix_self [] = ([], refl)
  prefix_self (x ∷ xs) = let r = prefix_self xs in (r.0, ap (λ ys. x ∷ ys) r.1)

  pub prefix_trans : (xs ys zs : List A) → IsPrefix xs ys → IsPrefix ys zs → IsPrefix xs zs
  prefix_trans xs ys zs p q = (p.0 ++ q.0, sym (append_assoc xs p.0 q.0) ∙ (ap (λ w. w ++ q.0) p.1 ∙ q.1))

  -- a beginning that is no shorter is the whole
  pub prefix_whole : (xs zs : List A) → IsPrefix xs zs → length zs ≤ length xs → xs ≡ zs
  prefix_whole [] [] p h = refl
  prefix_whole [] (z ∷ zs) p h = absurd (omega arith)
  prefix_whole (x ∷ xs) [] p h = absurd (cc (p.1))
  prefix_whole (x ∷ xs) (z ∷ zs) p h =
      let tail : xs ++ p.0 ≡ zs = cc (p.1) in
      let same : xs ≡ zs = prefix_whole xs zs (p.0, tail) (omega arith) in
      let head : x ≡ z = cc (p.1) in
      cc (head, same)

  pub longer_has : (P : List A → Type 0) (xs ys : List A) → P xs → P ys → P (longer xs ys)
  longer_has P xs ys p q = either_has P xs ys (nat_lt (length xs) (length ys)) p q

  right_of : (xs zs : List A) → IsPrefix xs zs → (b : Bool) → nat_lt (length xs) (length zs) ≡ b → (if b then zs else xs) ≡ zs
  right_of xs zs p true e = refl
  right_of xs zs p false e = prefix_whole xs zs p (ltb-false _ _ e)

  left_of : (xs zs : List A) → IsPrefix xs zs → (b : Bool) → nat_lt (length zs) (length xs) ≡ b → (if b then xs else zs) ≡ zs
  left_of xs zs p false e = refl
  left_of xs zs p true e = let more = ltb-true _ _ e in prefix_whole xs zs p (omega arith)

  -- the longer of a list and a beginning of it, in both orders
  pub longer_right : (xs zs : List A) → IsPrefix xs zs → longer xs zs ≡ zs
  longer_right xs zs p = right_of xs zs p (nat_lt (length xs) (length zs)) refl

  pub longer_left : (xs zs : List A) → IsPrefix xs zs → longer zs xs ≡ zs
  longer_left xs zs p = left_of xs zs p (nat_lt (length zs) (length xs)) refl

  pub at_below : (l : List A) (i : ℕ) (a : A) → get_elem? l i ≡ some a → i < length l
  at_below [] i a e = absurd (some-ne-none a (sym e))
  at_below (x ∷ xs) zero a e = omega arith
  at_below (x ∷ xs) (suc i) a e = let r = at_below xs i a e in omega arith

  -- as `at_snoc`, and where the last one stands
  pub at_end : (l : List A) (a b : A) (j : ℕ) → get_elem? (l ++ a ∷ []) j ≡ some b → (get_elem? l j ≡ some b) ⊎ ((j ≡ length l) × (a ≡ b))
  at_end [] a b zero e = inr (refl, some-injective a b e)
  at_end [] a b (suc j) e = absurd (some-ne-none b (sym e))
  at_end (x ∷ xs) a b zero e = inl e
  at_end (x ∷ xs) a b (suc j) e = ⊎_elim (λ t. inl t) (λ t. let n = t.0 in inr (omega arith, t.1)) (at_end xs a b j e)

  pub lone : (w v : A) (j : ℕ) → get_elem? (w ∷ []) j ≡ some v → (j ≡ 0) × (w ≡ v)
  lone w v zero e = (refl, some-injective w v e)
  lone w v (suc j) e = absurd (some-ne-none v (sym e))
