-- The order of keys, by its tests.
use Rattle.std.proofs.Common.{◌≡◌, Bool, true, false, ◌&&◌, Option, Some, None, refl, sym, ap, ◌∙◌}
use Rattle.std.specs.declared.cmp.Ordering.{Ordering}
use Rattle.std.specs.declared.cmp.Ordering.TheVariants.{Less, Equal, Greater}
use Rattle.std.specs.Ordering.{is_lt, ordering_reverse}
use Rattle.std.proofs.lemmas.Cmp.{tied_itself}
use mathlib.Core.Bool.{false≢true}
use Rattle.ck_model.specs.declared.key.Key.{Key}
use Rattle.ck_model.specs.Key.{key_cmp, key_cmp_total, key_cmp_exact}
use Rattle.ck_chain.specs.Order.{is_after, is_before, is_behind}

pub less : (o : Ordering) → is_lt o ≡ true → o ≡ Less
less Less h = refl
less Equal h = cc
less Greater h = cc

-- no key is behind itself
pub behind-itself : (k : Key) → is_behind k k ≡ false
behind-itself k = ap is_lt (tied_itself key_cmp_total k)

pub behind-trans : (a b c : Key) → is_behind a b ≡ true → is_behind b c ≡ true → is_behind a c ≡ true
behind-trans a b c first second = ap is_lt (key_cmp_total.trans a b c (less (key_cmp a b) first) (less (key_cmp b c) second))

-- of two keys, one isn't behind the other both ways
pub behind-once : (a b : Key) → is_behind a b ≡ true → is_behind b a ≡ false
behind-once a b h = ap is_lt (key_cmp_total.antisymm b a ∙ ap ordering_reverse (less (key_cmp a b) h))

-- a key that isn't behind another is that one or before it
pub same_or_before : (a b : Key) → is_behind a b ≡ false → is_behind b a ≡ false → a ≡ b
same_or_before a b h g = on (key_cmp a b) refl
  where
    on : (o : Ordering) → key_cmp a b ≡ o → a ≡ b
    on Less is = absurd (false≢true (sym h ∙ ap is_lt is))
    on Equal is = key_cmp_exact a b is
    on Greater is = absurd (false≢true (sym g ∙ ap is_lt (key_cmp_total.antisymm b a ∙ ap ordering_reverse is)))

both_less : (q a b : Key) → is_behind a b ≡ true → is_behind q a ≡ (is_behind q a && is_behind q b)
both_less q a b h =
    elim (is_behind q a) as (λ x. is_behind q a ≡ x → x ≡ (x && is_behind q b)) [
      | true ↦ λ is. sym (behind-trans q a b is h)
      | false ↦ λ _. refl
    ] refl

-- before the lesser of two keys is before both
pub before-first : (a b : Key) → is_behind a b ≡ true → (q : Key) → is_before (Some a) q ≡ (is_before (Some a) q && is_before (Some b) q)
before-first a b h q = both_less q a b h

pub before-second : (a b : Key) → is_behind a b ≡ false → (q : Key) → is_before (Some b) q ≡ (is_before (Some a) q && is_before (Some b) q)
before-second a b h q =
    elim (is_behind q b) as (λ x. is_behind q b ≡ x → x ≡ (is_behind q a && x)) [
      | true ↦ λ is. upto is
      | false ↦ λ _. none (is_behind q a)
    ] refl
  where
    none : (x : Bool) → false ≡ (x && false)
    none true = refl
    none false = refl

    upto : is_behind q b ≡ true → true ≡ (is_behind q a && true)
    upto is = elim (is_behind b a) as (λ y. is_behind b a ≡ y → true ≡ (is_behind q a && true)) [
      | true ↦ λ low. sym (ap (λ z. z && true) (behind-trans q b a is low))
      | false ↦ λ level. let same : a ≡ b = same_or_before a b h level in sym (ap (λ z. z && true) (ap (is_behind q) same ∙ is))
    ] refl

-- behind a key that is behind another
pub after-trans : (after : Option Key) (a b : Key) → is_after after a ≡ true → is_behind a b ≡ true → is_after after b ≡ true
after-trans None a b first second = refl
after-trans (Some key) a b first second = behind-trans key a b first second
