-- How many entries finite maps have: some of a map's, two maps with the same keys, and a map that was changed.
use Rattle.std.proofs.Common.{◌≡◌, ◌+◌, ◌-◌, ◌≤◌, Bool, true, false, cond, not, ◌&&◌, T, Option, Some, None, is_some, List, [], ◌∷◌, length, filter, map as list_map, refl, sym, ap, subst, ◌∙◌, arith}
use Rattle.std.specs.declared.cmp.Ordering.{Ordering}
use Rattle.std.specs.declared.cmp.Ordering.TheVariants.{Less, Equal, Greater}
use Rattle.std.specs.Ordering.{is_lt, is_eq}
use Rattle.std.specs.Cmp.{IsTotalOrder}
use Rattle.std.specs.FinMap.{IsAntisymmetric, find, is_sorted, entries_sorted}
use Rattle.std.specs.FinMap.Entries.{below_all, is_some-find, is_sorted-where_key, find-where_key}
use Rattle.std.specs.FinMap as map
use Rattle.std.specs.FinSet as set
use Rattle.std.proofs.lemmas.List.Sums.{length-filter, count_by-le-length}
use Rattle.std.proofs.lemmas.List.Filters.{length-filter_both}

apart : (r : Ordering) → T (is_lt r) → is_eq r ≡ false
apart Less h = refl
apart Equal h = absurd h
apart Greater h = absurd h

both : (a b : Bool) → T (a && b) → T a × T b
both true true h = (tt, tt)
both true false h = absurd h
both false b h = absurd h

and_some : {X : Type 0} (b : Bool) (o : Option X) → is_some (cond b o None) ≡ (b && is_some o)
and_some true o = refl
and_some false o = refl

-- a test answers alike at keys that tie
alike : {K : Type 0} {R : K → K → Ordering} → IsAntisymmetric R → (p : K → Bool) (q x : K) → R q x ≡ Equal → p x ≡ p q
alike exact p q x tied = ap p (sym (exact q x tied))

module _ {K X : Type 0} {R : K → K → Ordering} (total : IsTotalOrder R) (exact : IsAntisymmetric R) where
  -- the entries whose keys pass
  pub entries-retain_keys : (m : map.FinMap R X) (p : K → Bool) → map.entries (map.retain_keys m p) ≡ filter (λ e. p e.0) (map.entries m)
  entries-retain_keys m p =
      let kept = filter (λ (e : K × X). p e.0) (map.entries m) in
      let sorted : T (is_sorted R kept) = is_sorted-where_key R p (map.entries m) (entries_sorted m) in
      ap map.entries (map.same_map total exact (map.retain_keys m p) (map.from_sorted kept) (λ q.
      map.get-retain_keys m p q (alike exact p q)
      ∙ ap (λ o. cond (p q) o None) (map.get-entries m q)
      ∙ sym (map.get-from_sorted R kept q sorted ∙ find-where_key R p q (alike exact p q) (map.entries m))))
      ∙ map.entries-from_sorted R kept sorted

  pub len-retain_keys : (m : map.FinMap R X) (p : K → Bool) → map.len (map.retain_keys m p) ≡ length (filter (λ e. p e.0) (map.entries m))
  len-retain_keys m p = map.len-entries (map.retain_keys m p) ∙ ap length (entries-retain_keys m p)

  -- no more than all
  pub len-retain_keys-le : (m : map.FinMap R X) (p : K → Bool) → map.len (map.retain_keys m p) ≤ map.len m
  len-retain_keys-le m p =
      omega (arith, len-retain_keys m p, length-filter (λ (e : K × X). p e.0) (map.entries m), count_by-le-length (λ (e : K × X). p e.0) (map.entries m), map.len-entries m)

  -- those that pass and those that don't are all
  pub len_parts : (m : map.FinMap R X) (p : K → Bool) → map.len (map.retain_keys m p) + map.len (map.retain_keys m (λ k. not (p k))) ≡ map.len m
  len_parts m p =
      omega (arith, len-retain_keys m p, len-retain_keys m (λ k. not (p k)), map.len-entries m, length-filter_both (λ (e : K × X). p e.0) (λ (e : K × X). not (p e.0)) (λ e. refl) (map.entries m))

  pub contains_key-retain_keys : (m : map.FinMap R X) (p : K → Bool) (q : K) → map.contains_key (map.retain_keys m p) q ≡ (p q && map.contains_key m q)
  contains_key-retain_keys m p q = ap is_some (map.get-retain_keys m p q (alike exact p q)) ∙ and_some (p q) (map.get m q)

  not_found : (x : K) (es : List (K × X)) → T (below_all R x es) → find R x es ≡ None
  not_found x [] h = refl
  not_found x (e ∷ es) h =
      let parts = both (is_lt (R x e.0)) (below_all R x es) h in
      ap (λ b. cond b (Some e.1) (find R x es)) (apart (R x e.0) parts.0) ∙ not_found x es parts.1

  -- entries in order are as many as their keys
  length_of_keys : (es : List (K × X)) → T (is_sorted R es) → set.len (set.from_list {R = R} (list_map (λ e. e.0) es)) ≡ length es
  length_of_keys [] h = set.len-empty R
  length_of_keys (e ∷ es) h =
      let parts = both (below_all R e.0 es) (is_sorted R es) h in
      let keys = list_map (λ (e : K × X). e.0) es in
      let new : set.contains (set.from_list {R = R} keys) e.0 ≡ false = set.contains-from_list total keys e.0 ∙ sym (is_some-find R e.0 es) ∙ ap is_some (not_found e.0 es parts.0) in
      set.len-insert total (set.from_list keys) e.0
      ∙ ap (λ b. cond b (set.len (set.from_list {R = R} keys)) (set.len (set.from_list {R = R} keys) + 1)) new
      ∙ omega (arith, length_of_keys es parts.1)

  pub len-keys : (m : map.FinMap R X) → map.len m ≡ set.len (set.from_list {R = R} (map.keys m))
  len-keys m = map.len-entries m ∙ sym (length_of_keys (map.entries m) (entries_sorted m))

  pub len-insert-le : (m : map.FinMap R X) (k : K) (v : X) → map.len (map.insert m k v) ≤ map.len m + 1
  len-insert-le m k v = subst (λ n. n ≤ map.len m + 1) (sym (map.len-insert total m k v)) (
      elim (map.contains_key m k) as (λ b. cond b (map.len m) (map.len m + 1) ≤ map.len m + 1) [ true ↦ omega arith | false ↦ omega arith ])

  pub len-remove-le : (m : map.FinMap R X) (k : K) → map.len (map.remove m k) ≤ map.len m
  len-remove-le m k = subst (λ n. n ≤ map.len m) (sym (map.len-remove total m k)) (
      elim (map.contains_key m k) as (λ b. cond b (map.len m - 1) (map.len m) ≤ map.len m) [ true ↦ omega arith | false ↦ omega arith ])

  -- a map has no more entries than the list that it is made from
  pub len-from_entries-le : (es : List (K × X)) → map.len (map.from_entries {R = R} es) ≤ length es
  len-from_entries-le [] = let none = map.len-empty R X in omega (arith, none)
  len-from_entries-le (e ∷ es) = omega (arith, len-insert-le (map.from_entries es) e.0 e.1, len-from_entries-le es)

-- two maps with the same keys have the same size
pub len_same_keys : {K X Y : Type 0} {R : K → K → Ordering} (total : IsTotalOrder R) (exact : IsAntisymmetric R) (m : map.FinMap R X) (n : map.FinMap R Y)
    → ((q : K) → map.contains_key m q ≡ map.contains_key n q) → map.len m ≡ map.len n
len_same_keys {R = R} total exact m n same =
    len-keys total exact m
    ∙ ap set.len (set.same_set total exact (set.from_list (map.keys m)) (set.from_list (map.keys n)) (λ q.
    set.contains-from_list total (map.keys m) q ∙ sym (map.contains_key-keys m q) ∙ same q
    ∙ map.contains_key-keys n q ∙ sym (set.contains-from_list total (map.keys n) q)))
    ∙ sym (len-keys total exact n)
