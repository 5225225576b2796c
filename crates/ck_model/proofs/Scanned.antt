-- A list that is scanned from its front as a finite map: a key dropped, and a key put.
use Rattle.std.proofs.Common.{◌≡◌, Bool, true, false, cond, not, Option, Some, None, List, [], ◌∷◌, ◌++◌, filter, refl, sym, ap, ◌∙◌}
use Rattle.std.specs.declared.cmp.Ordering.{Ordering}
use Rattle.std.specs.Ordering.{eq_by_cmp, is_eq}
use Rattle.std.specs.Cmp.{IsTotalOrder}
use Rattle.std.proofs.lemmas.Cmp.{eq_by_cmp_equiv, tied_itself}
use Rattle.std.specs.FinMap.{IsAntisymmetric, find}
use Rattle.std.specs.FinMap.Entries.{find-where_key}
use Rattle.std.specs.FinMap as map

turned : {X : Type 0} (b : Bool) (o : Option X) → cond (not b) o None ≡ cond b None o
turned true o = refl
turned false o = refl

again : {X : Type 0} (b : Bool) (o p : Option X) → cond b o (cond b None p) ≡ cond b o p
again true o p = refl
again false o p = refl

module _ {K X : Type 0} {R : K → K → Ordering} (total : IsTotalOrder R) (exact : IsAntisymmetric R) where
  -- the entries of all other keys
  abbrev pub without : K → List (K × X) → List (K × X)
  without k es = filter (λ e. not (eq_by_cmp R k e.0)) es

  find-without : (k q : K) (es : List (K × X)) → find R q (without k es) ≡ cond (eq_by_cmp R q k) None (find R q es)
  find-without k q es =
      find-where_key R (λ x. not (eq_by_cmp R k x)) q (λ x tied. ap (λ y. not (eq_by_cmp R k y)) (sym (exact q x tied))) es
      ∙ turned (eq_by_cmp R k q) (find R q es)
      ∙ ap (λ b. cond b None (find R q es)) ((eq_by_cmp_equiv total).symm k q)

  -- without the entries of a key, the map is without it
  pub remove_scanned : (k : K) (es : List (K × X)) → map.from_entries {R = R} (without k es) ≡ map.remove (map.from_entries es) k
  remove_scanned k es = map.same_map total exact _ _ (λ q.
      map.get-from_entries total (without k es) q ∙ find-without k q es
      ∙ sym (map.get-remove total (map.from_entries es) k q ∙ ap (cond (eq_by_cmp R q k) None) (map.get-from_entries total es q)))

  -- and with one entry of it behind, the map has that one
  pub put_scanned : (k : K) (v : X) (es : List (K × X)) → map.from_entries {R = R} (without k es ++ (k, v) ∷ []) ≡ map.insert (map.from_entries es) k v
  put_scanned k v es =
      let gone : find R k (without k es) ≡ None = find-without k k es ∙ ap (λ o. cond (is_eq o) None (find R k es)) (tied_itself total k) in
      map.from_entries_push total exact (without k es) k v gone
      ∙ map.same_map total exact _ _ (λ q.
      map.get-insert total (map.from_entries (without k es)) k v q
      ∙ ap (cond (eq_by_cmp R q k) (Some v)) (map.get-from_entries total (without k es) q ∙ find-without k q es)
      ∙ again (eq_by_cmp R q k) (Some v) (find R q es)
      ∙ sym (map.get-insert total (map.from_entries es) k v q ∙ ap (cond (eq_by_cmp R q k) (Some v)) (map.get-from_entries total es q)))
