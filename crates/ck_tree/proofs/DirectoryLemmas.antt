-- The names of a directory, listed one after the other.
use Rattle.std.proofs.Common.{◌≡◌, Bool, true, false, cond, T, Option, Some, None, List, [], ◌∷◌, ◌++◌, if◌then◌else◌, refl, sym, ap, subst, ◌∙◌}
use Rattle.std.specs.declared.cmp.Ordering.{Ordering}
use Rattle.std.specs.declared.cmp.Ordering.TheVariants.{Less, Equal, Greater}
use Rattle.std.specs.Ordering.{is_lt, is_eq, ordering_reverse}
use Rattle.std.specs.List.{filter_map, cons_option, AllByRecursion}
use Rattle.std.specs.Option.{option_and_then, option_to_list}
use Rattle.std.specs.FinMap.{find, is_sorted}
use Rattle.std.specs.FinMap.Entries.{below_all}
use Rattle.ck_model.specs.declared.key.Key.{Key}
use Rattle.ck_model.specs.Key.{key_cmp, key_cmp_total, key_cmp_exact}
use Rattle.ck_model.specs.Table.{Table}
use Rattle.ck_model.proofs.CaseLaws.{head_of, both_of}
use Rattle.ck_model.proofs.FilesetLaws.{not_below}
use Rattle.ck_chain.specs.Order.{is_before, IsNext, is_behind}
use Rattle.ck_chain.proofs.KeyOrderLaws.{behind-itself, behind-trans, behind-once}

pub true_of : (b : Bool) → T b → b ≡ true
true_of true h = refl
true_of false h = absurd h

of_true : (b : Bool) → b ≡ true → T b
of_true true h = tt
of_true false h = cc

below-trans : {X : Type 0} (a b : Key) → is_behind a b ≡ true → (es : List (Key × X)) → T (below_all key_cmp b es) → T (below_all key_cmp a es)
below-trans a b h [] below = tt
below-trans a b h (e ∷ es) below =
    let parts = head_of (is_lt (key_cmp b e.0)) (below_all key_cmp b es) below in
    both_of (is_behind a e.0) (below_all key_cmp a es) (of_true (is_behind a e.0) (behind-trans a b e.0 h (true_of (is_behind b e.0) parts.0))) (below-trans a b h es parts.1)

cons-append : {Y : Type 0} (o : Option Y) (ys : List Y) → cons_option o ys ≡ option_to_list o ++ ys
cons-append None ys = refl
cons-append (Some y) ys = refl

-- what an entry gives that isn't before this key
abbrev pub left : {X Y : Type 0} → (Key × X → Option Y) → Option Key → Key × X → Option Y
left f here e = if is_before here e.0 then None else f e

-- nothing is given before this key
pub none_before : {X Y : Type 0} (f : Key × X → Option Y) (first : Key) (es : List (Key × X)) → AllByRecursion (λ e. is_behind e.0 first ≡ true → f e ≡ None) es → filter_map (left f (Some first)) es ≡ filter_map f es
none_before f first [] none = refl
none_before f first (e ∷ es) none =
    let here : left f (Some first) e ≡ f e = elim (is_behind e.0 first) as (λ b. is_behind e.0 first ≡ b → (if b then None else f e) ≡ f e) [
      | true ↦ λ low. sym (none.0 low)
      | false ↦ λ _. refl
    ] refl in
    (λ i. cons_option (here i) (none_before f first es none.1 i))

pub none_left : {X Y : Type 0} (f : Key × X → Option Y) (es : List (Key × X)) → filter_map (left f None) es ≡ []
none_left f [] = refl
none_left f (e ∷ es) = none_left f es

module _ {X Y : Type 0} (f : Key × X → Option Y) (passes : Key → Bool) where
  -- a key that doesn't pass gives nothing
  abbrev pub Skips : Key × X → Type 0
  Skips e = passes e.0 ≡ false → f e ≡ None

  same_behind : (t : Table) (key : Key) (next : Option Key) → IsNext t passes (Some key) next → (es : List (Key × X)) → T (below_all key_cmp key es) → AllByRecursion Skips es
      → filter_map (left f (Some key)) es ≡ filter_map (left f next) es
  same_behind t key next is [] below skips = refl
  same_behind t key next is (e ∷ es) below skips =
      let parts = head_of (is_lt (key_cmp key e.0)) (below_all key_cmp key es) below in
      let behind : is_behind key e.0 ≡ true = true_of (is_behind key e.0) parts.0 in
      let rest = same_behind t key next is es parts.1 skips.1 in
      let here : left f (Some key) e ≡ f e = ap (λ b. if b then None else f e) (behind-once key e.0 behind) in
      let there : left f next e ≡ f e = elim (is_before next e.0) as (λ b. is_before next e.0 ≡ b → (if b then None else f e) ≡ f e) [
        | true ↦ λ before. sym (skips.0 (is.between e.0 behind before))
        | false ↦ λ _. refl
      ] refl in
      (λ i. cons_option ((here ∙ sym there) i) (rest i))

  -- a key at which nothing is left any more
  early : (t : Table) (key : Key) (next : Option Key) → IsNext t passes (Some key) next → (q : Key) → is_behind q key ≡ true → is_before next q ≡ true
  early t key None is q low = refl
  early t key (Some k) is q low = behind-trans q key k low is.behind

  itself : (t : Table) (key : Key) (next : Option Key) → IsNext t passes (Some key) next → is_before next key ≡ true
  itself t key None is = refl
  itself t key (Some k) is = is.behind

  -- what is left at a key is what it gives, and then what is left at the next
  pub left_next : (t : Table) (key : Key) (next : Option Key) → IsNext t passes (Some key) next → (es : List (Key × X)) → T (is_sorted key_cmp es) → AllByRecursion Skips es
      → filter_map (left f (Some key)) es ≡ option_to_list (option_and_then (λ x. f (key, x)) (find key_cmp key es)) ++ filter_map (left f next) es
  left_next t key next is [] sorted skips = refl
  left_next t key next is (e ∷ es) sorted skips =
      on (key_cmp key e.0) refl (left_next t key next is es (head_of (below_all key_cmp e.0 es) (is_sorted key_cmp es) sorted).1 skips.1)
    where
      on : (o : Ordering) → key_cmp key e.0 ≡ o
          → filter_map (left f (Some key)) es ≡ option_to_list (option_and_then (λ x. f (key, x)) (find key_cmp key es)) ++ filter_map (left f next) es
          → filter_map (left f (Some key)) (e ∷ es) ≡ option_to_list (option_and_then (λ x. f (key, x)) (find key_cmp key (e ∷ es))) ++ filter_map (left f next) (e ∷ es)
      on Less cmp rest =
          let parts = head_of (below_all key_cmp e.0 es) (is_sorted key_cmp es) sorted in
          let behind : is_behind key e.0 ≡ true = ap is_lt cmp in
          let below : T (below_all key_cmp key (e ∷ es)) = both_of (is_behind key e.0) (below_all key_cmp key es) (of_true (is_behind key e.0) behind) (below-trans key e.0 behind es parts.0) in
          same_behind t key next is (e ∷ es) below skips
          ∙ sym (ap (λ o. option_to_list (option_and_then (λ x. f (key, x)) o) ++ filter_map (left f next) (e ∷ es)) (not_below key_cmp_total key_cmp_exact key (e ∷ es) below))
      on Equal cmp later =
          let parts = head_of (below_all key_cmp e.0 es) (is_sorted key_cmp es) sorted in
          let same : key ≡ e.0 = key_cmp_exact key e.0 cmp in
          let below : T (below_all key_cmp key es) = subst (λ k. T (below_all key_cmp k es)) (sym same) parts.0 in
          let at : is_before (Some key) e.0 ≡ false = ap (is_behind e.0) same ∙ behind-itself e.0 in
          let here : left f (Some key) e ≡ f (key, e.1) = ap (λ b. if b then None else f e) at ∙ ap (λ k. f (k, e.1)) (sym same) in
          let gone : left f next e ≡ None = ap (λ b. if b then None else f e) (ap (is_before next) (sym same) ∙ itself t key next is) in
          let found : find key_cmp key (e ∷ es) ≡ Some e.1 = ap (λ o. cond (is_eq o) (Some e.1) (find key_cmp key es)) cmp in
          let rest = same_behind t key next is es below skips.1 in
          (λ i. cons_option (here i) (rest i))
          ∙ cons-append (f (key, e.1)) (filter_map (left f next) es)
          ∙ sym (λ i. option_to_list (option_and_then (λ x. f (key, x)) (found i)) ++ cons_option (gone i) (filter_map (left f next) es))
      on Greater cmp rest =
          let low : is_behind e.0 key ≡ true = ap is_lt (key_cmp_total.antisymm e.0 key ∙ ap ordering_reverse cmp) in
          let here : left f (Some key) e ≡ None = ap (λ b. if b then None else f e) low in
          let gone : left f next e ≡ None = ap (λ b. if b then None else f e) (early t key next is e.0 low) in
          let found : find key_cmp key (e ∷ es) ≡ find key_cmp key es = ap (λ o. cond (is_eq o) (Some e.1) (find key_cmp key es)) cmp in
          ap (λ o. cons_option o (filter_map (left f (Some key)) es)) here
          ∙ rest
          ∙ sym (λ i. option_to_list (option_and_then (λ x. f (key, x)) (found i)) ++ cons_option (gone i) (filter_map (left f next) es))
