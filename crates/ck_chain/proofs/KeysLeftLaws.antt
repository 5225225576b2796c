-- How many keys of a table are left behind a key.
use Rattle.std.proofs.Common.{◌≡◌, ◌<◌, ◌≤◌, true, false, cond, ◌||◌, Option, Some, None, IfSome, is_some, List, [], ◌∷◌, filter, length, refl, sym, ap, subst, ◌∙◌, arith}
use Rattle.std.specs.Ordering.{eq_by_cmp}
use Rattle.std.specs.FinMap as map
use mathlib.Core.Bool.{false≢true}
use Rattle.ck_model.specs.declared.key.Key.{Key}
use Rattle.ck_model.specs.Key.{key_cmp}
use Rattle.ck_model.specs.Table.{Table}
use Rattle.ck_model.specs.TableWorld.{keys_of, is_among}
use Rattle.ck_model.proofs.CellLaws.{tied-is}
use Rattle.ck_model.proofs.ValueLaws.{not_among}
use Rattle.ck_chain.specs.Order.{IsHeld, is_behind, keys_left}
use Rattle.ck_chain.proofs.KeyOrderLaws.{behind-itself, behind-trans}

fewer : (a b : Key) → is_behind a b ≡ true → (ks : List Key) → length (filter (is_behind b) ks) ≤ length (filter (is_behind a) ks)
fewer a b h [] = omega arith
fewer a b h (k ∷ ks) =
    let rest = fewer a b h ks in
    elim (is_behind b k) as (λ x. is_behind b k ≡ x → length (cond x (k ∷ filter (is_behind b) ks) (filter (is_behind b) ks)) ≤ length (filter (is_behind a) (k ∷ ks))) [
      | true ↦ λ is. rw (behind-trans a b k h is) (omega (arith, rest))
      | false ↦ λ _. elim (is_behind a k) as (λ x. length (filter (is_behind b) ks) ≤ length (cond x (k ∷ filter (is_behind a) ks) (filter (is_behind a) ks))) [
        | true ↦ omega (arith, rest)
        | false ↦ rest
      ]
    ] refl

one_fewer : (a b : Key) → is_behind a b ≡ true → (ks : List Key) → is_among b ks ≡ true → length (filter (is_behind b) ks) < length (filter (is_behind a) ks)
one_fewer a b h [] clash = absurd (false≢true clash)
one_fewer a b h (k ∷ ks) there =
    elim (eq_by_cmp key_cmp b k) as (λ x. eq_by_cmp key_cmp b k ≡ x → (x || is_among b ks) ≡ true → length (filter (is_behind b) (k ∷ ks)) < length (filter (is_behind a) (k ∷ ks))) [
      | true ↦ λ tied _.
          let same : b ≡ k = tied-is b k tied in
          let out : is_behind b k ≡ false = ap (is_behind b) (sym same) ∙ behind-itself b in
          let in' : is_behind a k ≡ true = ap (is_behind a) (sym same) ∙ h in
          let rest = fewer a b h ks in
          rw (out, in') (omega (arith, rest))
      | false ↦ λ _ among.
          let rest = one_fewer a b h ks among in
          elim (is_behind b k) as (λ x. is_behind b k ≡ x → length (cond x (k ∷ filter (is_behind b) ks) (filter (is_behind b) ks)) < length (filter (is_behind a) (k ∷ ks))) [
            | true ↦ λ is. rw (behind-trans a b k h is) (omega (arith, rest))
            | false ↦ λ _. elim (is_behind a k) as (λ x. length (filter (is_behind b) ks) < length (cond x (k ∷ filter (is_behind a) ks) (filter (is_behind a) ks))) [
              | true ↦ omega (arith, rest)
              | false ↦ rest
            ]
          ] refl
    ] refl there

held_among : (t : Table) (key : Key) → IsHeld t key → is_among key (keys_of t) ≡ true
held_among t key held =
    elim (is_among key (keys_of t)) as (λ b. is_among key (keys_of t) ≡ b → b ≡ true) [
      | true ↦ λ _. refl
      | false ↦ λ none. absurd (false≢true (ap is_some (sym (map.get-entries t.entries (held.0, key) ∙ not_among held.0 key (map.entries t.entries) none)) ∙ held.1))
    ] refl

smaller : (t : Table) (key : Key) (next : Option Key) → IfSome next (λ k. is_behind key k ≡ true) → IfSome next (IsHeld t) → keys_left t next < keys_left t (Some key)
smaller t key None behind held = omega arith
smaller t key (Some k) behind held =
    let fewer_left = one_fewer key k behind (keys_of t) (held_among t k held) in
    omega (arith, fewer_left)

-- fewer are left behind the next key
pub left_smaller : (t : Table) (here : Option Key) (key : Key) (next : Option Key) → here ≡ Some key → IfSome next (λ k. is_behind key k ≡ true) → IfSome next (IsHeld t) → keys_left t next < keys_left t here
left_smaller t here key next is behind held = subst (λ o. keys_left t next < keys_left t o) (sym is) (smaller t key next behind held)
