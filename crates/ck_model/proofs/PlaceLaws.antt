-- An edit at an entry's place in a list in order is the finite map's edit.
use Rattle.std.proofs.Common.{◌≡◌, ℕ, suc, ◌+◌, ◌<◌, ◌≤◌, Bool, true, false, cond, not, ◌&&◌, T, Option, Some, None, List, [], ◌∷◌, drop, drop-cons, length-drop, map as list_map, length, get_or, set, refl, sym, ap, subst, ◌∙◌, arith}
use Rattle.std.specs.declared.cmp.Ordering.{Ordering}
use Rattle.std.specs.declared.cmp.Ordering.TheVariants.{Less, Equal, Greater}
use Rattle.std.specs.Ordering.{is_eq, is_lt, is_gt, eq_by_cmp}
use Rattle.std.specs.List.{insert, remove}
use Rattle.std.specs.Cmp.{IsTotalOrder}
use Rattle.std.specs.FinMap.{IsAntisymmetric, find, put, is_sorted}
use Rattle.std.specs.FinMap.Entries.{by_order, below_all, where_key, is_sorted-put, is_sorted-where_key, find-where_key}
use Rattle.std.specs.FinMap as map
use Rattle.std.proofs.lemmas.Cmp.{eq_by_cmp_equiv, tied_itself}
use Rattle.std.proofs.lemmas.List.{nil_from_length}
use Rattle.ck_model.specs.Ordered.{place_of, IsFoundAt, IsGapAt, Edits}

head_of : (a b : Bool) → T (a && b) → T a × T b
head_of true true h = (tt, tt)
head_of true false h = absurd h
head_of false b h = absurd h

less : (r : Ordering) → T (is_lt r) → r ≡ Less
less Less h = refl
less Equal h = absurd h
less Greater h = absurd h

true_of : (b : Bool) → T b → b ≡ true
true_of true h = refl
true_of false h = absurd h

module _ {K X : Type 0} {R : K → K → Ordering} (total : IsTotalOrder R) (exact : IsAntisymmetric R) where
  -- the entry at the place has the key
  abbrev pub IsFound : K → List (K × X) → K × X → Type 0
  IsFound k es d = (place_of R k es < length es) × ((get_or es (place_of R k es) d).0 ≡ k)

  pub put_found : (k : K) (v : X) (es : List (K × X)) (d : K × X) → place_of R k es < length es → (get_or es (place_of R k es) d).0 ≡ k → put R k v es ≡ set es (place_of R k es) (k, v)
  put_found k v [] d within same = absurd (omega arith)
  put_found k v (e ∷ es) d within same =
      elim (R k e.0) as (λ o. R k e.0 ≡ o → cond (is_gt o) (suc (place_of R k es)) 0 < suc (length es) → (get_or (e ∷ es) (cond (is_gt o) (suc (place_of R k es)) 0) d).0 ≡ k
      → by_order o ((k, v) ∷ e ∷ es) ((e.0, v) ∷ es) (e ∷ put R k v es) ≡ set (e ∷ es) (cond (is_gt o) (suc (place_of R k es)) 0) (k, v)) [
        | Less ↦ λ p within same. let clash : R k e.0 ≡ Equal = ap (R k) same ∙ tied_itself total k in cc
        | Equal ↦ λ p within same. ap (λ x. (x, v) ∷ es) same
        | Greater ↦ λ p within same. ap (λ xs. e ∷ xs) (put_found k v es d (omega arith) same)
      ] refl within same

  pub put_new : (k : K) (v : X) (es : List (K × X)) → find R k es ≡ None → put R k v es ≡ insert es (place_of R k es) (k, v)
  put_new k v [] none = refl
  put_new k v (e ∷ es) none =
      elim (R k e.0) as (λ o. R k e.0 ≡ o → cond (is_eq o) (Some e.1) (find R k es) ≡ None
      → by_order o ((k, v) ∷ e ∷ es) ((e.0, v) ∷ es) (e ∷ put R k v es) ≡ insert (e ∷ es) (cond (is_gt o) (suc (place_of R k es)) 0) (k, v)) [
        | Less ↦ λ p none. refl
        | Equal ↦ λ p none. cc
        | Greater ↦ λ p none. ap (λ xs. e ∷ xs) (put_new k v es none)
      ] refl none

  pub find_found : (k : K) (es : List (K × X)) (d : K × X) → place_of R k es < length es → (get_or es (place_of R k es) d).0 ≡ k → find R k es ≡ Some (get_or es (place_of R k es) d).1
  find_found k [] d within same = absurd (omega arith)
  find_found k (e ∷ es) d within same =
      elim (R k e.0) as (λ o. R k e.0 ≡ o → cond (is_gt o) (suc (place_of R k es)) 0 < suc (length es) → (get_or (e ∷ es) (cond (is_gt o) (suc (place_of R k es)) 0) d).0 ≡ k
      → cond (is_eq o) (Some e.1) (find R k es) ≡ Some (get_or (e ∷ es) (cond (is_gt o) (suc (place_of R k es)) 0) d).1) [
        | Less ↦ λ p within same. let clash : R k e.0 ≡ Equal = ap (R k) same ∙ tied_itself total k in cc
        | Equal ↦ λ p within same. refl
        | Greater ↦ λ p within same. find_found k es d (omega arith) same
      ] refl within same

  below_none : (k : K) (x : K) (es : List (K × X)) → R k x ≡ Less → T (below_all R x es) → find R k es ≡ None
  below_none k x [] p h = refl
  below_none k x (e ∷ es) p h =
      let parts = head_of (is_lt (R x e.0)) (below_all R x es) h in
      let lt : R k e.0 ≡ Less = total.trans k x e.0 p (less (R x e.0) parts.0) in
      ap (λ o. cond (is_eq o) (Some e.1) (find R k es)) lt ∙ below_none k x es p parts.1

  -- where no entry at the place has the key, none has
  pub find_gap : (k : K) (es : List (K × X)) (d : K × X) → T (is_sorted R es) → (place_of R k es < length es → (get_or es (place_of R k es) d).0 ≡ k → ⊥) → find R k es ≡ None
  find_gap k [] d sorted gap = refl
  find_gap k (e ∷ es) d sorted gap =
      let parts = head_of (below_all R e.0 es) (is_sorted R es) sorted in
      elim (R k e.0) as (λ o. R k e.0 ≡ o → (cond (is_gt o) (suc (place_of R k es)) 0 < suc (length es) → (get_or (e ∷ es) (cond (is_gt o) (suc (place_of R k es)) 0) d).0 ≡ k → ⊥) → cond (is_eq o) (Some e.1) (find R k es) ≡ None) [
        | Less ↦ λ p gap. below_none k e.0 es p parts.0
        | Equal ↦ λ p gap. absurd (gap (omega arith) (sym (exact k e.0 p)))
        | Greater ↦ λ p gap. find_gap k es d parts.1 (λ within same. gap (omega arith) same)
      ] refl gap

  pub without_none : (k : K) (es : List (K × X)) → find R k es ≡ None → where_key R (λ x. not (eq_by_cmp R k x)) es ≡ es
  without_none k [] none = refl
  without_none k (e ∷ es) none =
      elim (eq_by_cmp R k e.0) as (λ b. cond b (Some e.1) (find R k es) ≡ None → cond (not b) (e ∷ where_key R (λ x. not (eq_by_cmp R k x)) es) (where_key R (λ x. not (eq_by_cmp R k x)) es) ≡ e ∷ es) [
        | true ↦ λ none. cc
        | false ↦ λ none. ap (λ xs. e ∷ xs) (without_none k es none)
      ] none

  tied_none : (k : K) (x : K) (es : List (K × X)) → R k x ≡ Equal → T (below_all R x es) → find R k es ≡ None
  tied_none k x [] p h = refl
  tied_none k x (e ∷ es) p h =
      let parts = head_of (is_lt (R x e.0)) (below_all R x es) h in
      let lt : R k e.0 ≡ Less = total.congr k x e.0 p ∙ less (R x e.0) parts.0 in
      ap (λ o. cond (is_eq o) (Some e.1) (find R k es)) lt ∙ tied_none k x es p parts.1

  pub without_found : (k : K) (es : List (K × X)) (d : K × X) → T (is_sorted R es) → place_of R k es < length es → (get_or es (place_of R k es) d).0 ≡ k → where_key R (λ x. not (eq_by_cmp R k x)) es ≡ remove es (place_of R k es)
  without_found k [] d sorted within same = absurd (omega arith)
  without_found k (e ∷ es) d sorted within same =
      let parts = head_of (below_all R e.0 es) (is_sorted R es) sorted in
      elim (R k e.0) as (λ o. R k e.0 ≡ o → cond (is_gt o) (suc (place_of R k es)) 0 < suc (length es) → (get_or (e ∷ es) (cond (is_gt o) (suc (place_of R k es)) 0) d).0 ≡ k
      → cond (not (is_eq o)) (e ∷ where_key R (λ x. not (eq_by_cmp R k x)) es) (where_key R (λ x. not (eq_by_cmp R k x)) es) ≡ remove (e ∷ es) (cond (is_gt o) (suc (place_of R k es)) 0)) [
        | Less ↦ λ p within same. let clash : R k e.0 ≡ Equal = ap (R k) same ∙ tied_itself total k in cc
        | Equal ↦ λ p within same. without_none k es (tied_none k e.0 es p parts.0)
        | Greater ↦ λ p within same. ap (λ xs. e ∷ xs) (without_found k es d parts.1 (omega arith) same)
      ] refl within same

  -- the map of the edited list is the edited map
  pub insert_is : (k : K) (v : X) (es : List (K × X)) → T (is_sorted R es) → map.from_sorted {R = R} (put R k v es) ≡ map.insert (map.from_sorted es) k v
  insert_is k v es sorted = map.same_entries_map _ _ (
      map.entries-from_sorted R (put R k v es) (is_sorted-put R total k v es sorted)
      ∙ ap (put R k v) (sym (map.entries-from_sorted R es sorted))
      ∙ sym (map.entries-insert total (map.from_sorted es) k v))

  turned : (b : Bool) (o : Option X) → cond (not b) o None ≡ cond b None o
  turned true o = refl
  turned false o = refl

  pub remove_is : (k : K) (es : List (K × X)) → T (is_sorted R es) → map.from_sorted {R = R} (where_key R (λ x. not (eq_by_cmp R k x)) es) ≡ map.remove (map.from_sorted es) k
  remove_is k es sorted = map.same_map total exact _ _ (λ q.
      map.get-from_sorted R (where_key R (λ x. not (eq_by_cmp R k x)) es) q (is_sorted-where_key R (λ x. not (eq_by_cmp R k x)) es sorted)
      ∙ find-where_key R (λ x. not (eq_by_cmp R k x)) q (λ x tied. ap (λ y. not (eq_by_cmp R k y)) (sym (exact q x tied))) es
      ∙ turned (eq_by_cmp R k q) (find R q es)
      ∙ ap (λ b. cond b None (find R q es)) ((eq_by_cmp_equiv total).symm k q)
      ∙ sym (map.get-remove total (map.from_sorted es) k q ∙ ap (cond (eq_by_cmp R q k) None) (map.get-from_sorted R es q sorted)))

  pub len_is : (es : List (K × X)) → T (is_sorted R es) → map.len (map.from_sorted {R = R} es) ≡ length es
  len_is es sorted = map.len-entries (map.from_sorted es) ∙ ap length (map.entries-from_sorted R es sorted)

  gap_here : (k : K) (e : K × X) (es : List (K × X)) → R k e.0 ≡ Less → is_sorted R (e ∷ es) ≡ true → find R k (e ∷ es) ≡ None
  gap_here k e es p sorted =
      let parts = head_of (below_all R e.0 es) (is_sorted R es) (subst T (sym sorted) tt) in
      ap (λ o. cond (is_eq o) (Some e.1) (find R k es)) p ∙ below_none k e.0 es p parts.0

  -- a search that has come to place i: the entry there ends it, or the search goes on
  module _ (k : K) (es : List (K × X)) (i : ℕ) (e : K × X) (here : drop i es ≡ e ∷ drop (suc i) es) (place : place_of R k es ≡ i + place_of R k (drop i es)) (sorted : is_sorted R (drop i es) ≡ true) where
    pub place_here : is_gt (R k e.0) ≡ false → i ≡ place_of R k es
    place_here p = sym (place ∙ ap (λ xs. i + place_of R k xs) here ∙ ap (λ b. i + cond b (suc (place_of R k (drop (suc i) es))) 0) p ∙ omega arith)

    pub none_here : R k e.0 ≡ Less → find R k (drop i es) ≡ None
    none_here p = ap (find R k) here ∙ gap_here k e (drop (suc i) es) p (sym (ap (is_sorted R) here) ∙ sorted)

    pub found_here : i < length es → ((d : K × X) → get_or es i d ≡ e) → R k e.0 ≡ Equal → IsFoundAt R k es i
    found_here within at tied = record { place = place_here (ap is_gt tied); within = within; same = λ d. ap (λ (x : K × X). x.0) (at d) ∙ sym (exact k e.0 tied) }

    pub absent_here : i < length es → find R k es ≡ find R k (drop i es) → R k e.0 ≡ Less → IsGapAt R k es i
    absent_here within same p = record { place = place_here (ap is_gt p); within = omega arith; none = same ∙ none_here p }

  edits_put : (k : K) (v : X) (es new : List (K × X)) → is_sorted R es ≡ true → new ≡ put R k v es → Edits R new (map.insert (map.from_sorted es) k v)
  edits_put k v es new sorted is =
      let start = subst T (sym sorted) tt in
      let in_order = is_sorted-put R total k v es start in
      let means = ap (map.from_sorted {R = R}) is ∙ insert_is k v es start in
      record { sorted = ap (is_sorted R) is ∙ true_of _ in_order; means = means; length = ap length is ∙ sym (len_is (put R k v es) in_order) ∙ ap map.len (insert_is k v es start) }

  pub set_found : (k : K) (v : X) (es : List (K × X)) (i : ℕ) (e : K × X) → IsFoundAt R k es i → e ≡ get_or es i e → is_sorted R es ≡ true → Edits R (set es i (e.0, v)) (map.insert (map.from_sorted es) k v)
  set_found k v es i e found is sorted =
      let key : e.0 ≡ k = ap (λ (x : K × X). x.0) is ∙ found.same e in
      edits_put k v es _ sorted (ap (λ x. set es i (x, v)) key ∙ ap (λ j. set es j (k, v)) found.place ∙ sym (put_found k v es e (rw (← found.place) found.within) (rw (← found.place) (found.same e))))

  pub set_gap : (k : K) (v : X) (es : List (K × X)) (i : ℕ) → IsGapAt R k es i → is_sorted R es ≡ true → Edits R (insert es i (k, v)) (map.insert (map.from_sorted es) k v)
  set_gap k v es i gap sorted = edits_put k v es _ sorted (ap (λ j. insert es j (k, v)) gap.place ∙ sym (put_new k v es gap.none))

  edits_without : (k : K) (es new : List (K × X)) → is_sorted R es ≡ true → new ≡ where_key R (λ x. not (eq_by_cmp R k x)) es → Edits R new (map.remove (map.from_sorted es) k)
  edits_without k es new sorted is =
      let start = subst T (sym sorted) tt in
      let in_order = is_sorted-where_key R (λ x. not (eq_by_cmp R k x)) es start in
      record { sorted = ap (is_sorted R) is ∙ true_of _ in_order; means = ap (map.from_sorted {R = R}) is ∙ remove_is k es start; length = ap length is ∙ sym (len_is _ in_order) ∙ ap map.len (remove_is k es start) }

  pub unset_found : (k : K) (es : List (K × X)) (i : ℕ) (d : K × X) → IsFoundAt R k es i → is_sorted R es ≡ true → Edits R (remove es i) (map.remove (map.from_sorted es) k)
  unset_found k es i d found sorted = edits_without k es _ sorted (ap (remove es) found.place ∙ sym (without_found k es d (subst T (sym sorted) tt) (rw (← found.place) found.within) (rw (← found.place) (found.same d))))

  pub unset_gap : (k : K) (es : List (K × X)) (i : ℕ) → IsGapAt R k es i → is_sorted R es ≡ true → Edits R es (map.remove (map.from_sorted es) k)
  unset_gap k es i gap sorted = edits_without k es es sorted (sym (without_none k es gap.none))

  pub get_found : (k : K) (es : List (K × X)) (i : ℕ) (e : K × X) → IsFoundAt R k es i → e ≡ get_or es i e → is_sorted R es ≡ true → Some e.1 ≡ map.get (map.from_sorted {R = R} es) k
  get_found k es i e found is sorted =
      ap (λ (x : K × X). Some x.1) is ∙ ap (λ j. Some (get_or es j e).1) found.place
      ∙ sym (map.get-from_sorted R es k (subst T (sym sorted) tt) ∙ find_found k es e (rw (← found.place) found.within) (rw (← found.place) (found.same e)))

  pub get_gap : (k : K) (es : List (K × X)) (i : ℕ) → IsGapAt R k es i → is_sorted R es ≡ true → None ≡ map.get (map.from_sorted {R = R} es) k
  get_gap k es i gap sorted = sym (map.get-from_sorted R es k (subst T (sym sorted) tt) ∙ gap.none)

  pub found_head : (k : K) (es : List (K × X)) (i : ℕ) (e : K × X) → find R k es ≡ find R k (drop i es) → i < length es → e ≡ get_or es i e → R k e.0 ≡ Equal → is_sorted R es ≡ true → Some e.1 ≡ map.get (map.from_sorted {R = R} es) k
  found_head k es i e same within is tied sorted = sym (
      map.get-from_sorted R es k (subst T (sym sorted) tt) ∙ same
      ∙ ap (find R k) (drop-cons es i e within ∙ ap (λ x. x ∷ drop (suc i) es) (sym is))
      ∙ ap (λ o. cond (is_eq o) (Some e.1) (find R k (drop (suc i) es))) tied)

  pub found_end : (k : K) (es : List (K × X)) (i : ℕ) → find R k es ≡ find R k (drop i es) → length es ≤ i → is_sorted R es ≡ true → None ≡ map.get (map.from_sorted {R = R} es) k
  found_end k es i same past sorted = sym (map.get-from_sorted R es k (subst T (sym sorted) tt) ∙ same ∙ ap (find R k) (nil_from_length (drop i es) (length-drop i es ∙ omega arith)))

  pub keys_are : (es : List (K × X)) → is_sorted R es ≡ true → map.keys (map.from_sorted {R = R} es) ≡ list_map (λ e. e.0) es
  keys_are es sorted = ap (λ (xs : List (K × X)). list_map (λ e. e.0) xs) (map.entries-from_sorted R es (subst T (sym sorted) tt))

  pub len_of : (es : List (K × X)) → is_sorted R es ≡ true → map.len (map.from_sorted {R = R} es) ≡ length es
  len_of es sorted = len_is es (subst T (sym sorted) tt)

  -- the map of the entries whose keys pass a test
  pub retain_is : (p : K → Bool) (es : List (K × X)) → T (is_sorted R es) → map.from_sorted {R = R} (where_key R p es) ≡ map.retain_keys (map.from_sorted es) p
  retain_is p es sorted = map.same_map total exact _ _ (λ q.
      map.get-from_sorted R (where_key R p es) q (is_sorted-where_key R p es sorted)
      ∙ find-where_key R p q (λ x tied. ap p (sym (exact q x tied))) es
      ∙ ap (λ o. cond (p q) o None) (sym (map.get-from_sorted R es q sorted))
      ∙ sym (map.get-retain_keys (map.from_sorted es) p q (λ x tied. ap p (sym (exact q x tied)))))

  pub edits_retain : (p : K → Bool) (es new : List (K × X)) → is_sorted R es ≡ true → new ≡ where_key R p es → Edits R new (map.retain_keys (map.from_sorted es) p)
  edits_retain p es new sorted is =
      let start = subst T (sym sorted) tt in
      let in_order = is_sorted-where_key R p es start in
      record { sorted = ap (is_sorted R) is ∙ true_of _ in_order; means = ap (map.from_sorted {R = R}) is ∙ retain_is p es start; length = ap length is ∙ sym (len_is _ in_order) ∙ ap map.len (retain_is p es start) }

-- no entries are the empty map
pub from_nothing : {K X : Type 0} {R : K → K → Ordering} → map.from_sorted {X = X} {R = R} [] ≡ map.empty
from_nothing {R = R} = map.empty_of_len _ (map.len-entries _ ∙ ap length (map.entries-from_sorted R [] tt))
