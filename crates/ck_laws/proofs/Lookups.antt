-- What a map has at a key that was put or removed, and at the others.
use Rattle.std.proofs.Common.{◌≡◌, ◌≢◌, ◌⊎◌, inl, inr, true, false, cond, Some, None, refl, ap, ◌∙◌, subst}
use Rattle.std.specs.Ordering.{eq_by_cmp, is_eq}
use Rattle.std.proofs.lemmas.Cmp.{tied_itself}
use Rattle.std.specs.FinMap as map
use Rattle.ck_model.specs.declared.key.Key.{Key}
use Rattle.ck_model.specs.Key.{key_cmp, key_cmp_total}
use Rattle.ck_model.proofs.CellLaws.{tied-is}

pub tied_with_itself : (q : Key) → eq_by_cmp key_cmp q q ≡ true
tied_with_itself q = ap is_eq (tied_itself key_cmp_total q)

pub untied : (x y : Key) → x ≢ y → eq_by_cmp key_cmp x y ≡ false
untied x y apart =
    elim (eq_by_cmp key_cmp x y) as (λ b. eq_by_cmp key_cmp x y ≡ b → b ≡ false) [
      | true ↦ λ tied. absurd (apart (tied-is x y tied))
      | false ↦ λ _. refl
    ] refl

-- two keys are one, or they aren't
pub cases_key : (x y : Key) → (x ≡ y) ⊎ (x ≢ y)
cases_key x y =
    elim (eq_by_cmp key_cmp x y) as (λ b. eq_by_cmp key_cmp x y ≡ b → (x ≡ y) ⊎ (x ≢ y)) [
      | true ↦ λ tied. inl (tied-is x y tied)
      | false ↦ λ apart. inr (λ same. let tied : eq_by_cmp key_cmp x y ≡ true = subst (λ k. eq_by_cmp key_cmp x k ≡ true) same (tied_with_itself x) in cc)
    ] refl

module _ {X : Type 0} (m : map.FinMap key_cmp X) where
  pub get-insert_same : (k : Key) (v : X) → map.get (map.insert m k v) k ≡ Some v
  get-insert_same k v = map.get-insert key_cmp_total m k v k ∙ ap (λ b. cond b (Some v) (map.get m k)) (tied_with_itself k)

  pub get-insert_other : (k : Key) (v : X) (q : Key) → q ≢ k → map.get (map.insert m k v) q ≡ map.get m q
  get-insert_other k v q apart = map.get-insert key_cmp_total m k v q ∙ ap (λ b. cond b (Some v) (map.get m q)) (untied q k apart)

  pub get-remove_same : (k : Key) → map.get (map.remove m k) k ≡ None
  get-remove_same k = map.get-remove key_cmp_total m k k ∙ ap (λ b. cond b None (map.get m k)) (tied_with_itself k)

  pub get-remove_other : (k q : Key) → q ≢ k → map.get (map.remove m k) q ≡ map.get m q
  get-remove_other k q apart = map.get-remove key_cmp_total m k q ∙ ap (λ b. cond b None (map.get m q)) (untied q k apart)
