-- The entries of one fileset as a list of their own, and what is counted over all entries as what is counted over these lists.
use Rattle.std.proofs.Common.{◌≡◌, ℕ, ◌+◌, true, false, cond, T, Some, List, [], ◌∷◌, if◌then◌else◌, nat_eq, refl, sym, ap, subst, ◌∙◌, arith}
use Rattle.std.specs.declared.cmp.Ordering.TheVariants.{Less, Equal, Greater}
use Rattle.std.specs.Ordering.{nat_cmp, is_eq, is_lt, ordering_then, eq_by_cmp}
use Rattle.std.specs.List.{AllByRecursion}
use Rattle.std.specs.FinMap.{find, is_sorted, entries_sorted}
use Rattle.std.specs.FinMap.Entries.{below_all}
use Rattle.std.specs.FinMap as map
use Rattle.std.proofs.lemmas.Bool.Decides.{nat_tests}
use Rattle.ck_model.specs.declared.key.Key.{Key}
use Rattle.ck_model.specs.Key.{key_cmp, entry_cmp}
use Rattle.ck_model.specs.Table.{Table, column}
use Rattle.ck_model.specs.Rows.{row, row_of, total, times}
use Rattle.ck_model.proofs.CaseLaws.{head_of, both_of}

-- in one fileset the order of entries is that of their keys
same_fileset : (f g : ℕ) (q k : Key) → nat_eq g f ≡ true → entry_cmp (f, q) (g, k) ≡ key_cmp q k
same_fileset f g q k h =
    let level : nat_cmp f g ≡ Equal = grind (arith, nat_tests) in
    ap (λ o. ordering_then o (key_cmp q k)) level

other_fileset : (f g : ℕ) (q k : Key) → nat_eq g f ≡ false → eq_by_cmp entry_cmp (f, q) (g, k) ≡ false
other_fileset f g q k h =
    elim (nat_cmp f g) as (λ o. nat_cmp f g ≡ o → is_eq (ordering_then o (key_cmp q k)) ≡ false) [
      | Less ↦ λ _. refl
      | Equal ↦ λ e. let clash : nat_eq g f ≡ true = grind (arith, nat_tests) in cc
      | Greater ↦ λ _. refl
    ] refl

pub find-row : {X : Type 0} (fs : ℕ) (q : Key) (es : List ((ℕ × Key) × X)) → find key_cmp q (row fs es) ≡ find entry_cmp (fs, q) es
find-row fs q [] = refl
find-row fs q (e ∷ es) =
    let rest = find-row fs q es in
    elim (nat_eq e.0.0 fs) as (λ b. nat_eq e.0.0 fs ≡ b → find key_cmp q (cond b ((e.0.1, e.1) ∷ row fs es) (row fs es)) ≡ cond (eq_by_cmp entry_cmp (fs, q) e.0) (Some e.1) (find entry_cmp (fs, q) es)) [
      | true ↦ λ h. (λ i. cond (is_eq (sym (same_fileset fs e.0.0 q e.0.1 h) i)) (Some e.1) (rest i))
      | false ↦ λ h. rest ∙ sym (ap (λ t. cond t (Some e.1) (find entry_cmp (fs, q) es)) (other_fileset fs e.0.0 q e.0.1 h))
    ] refl

below-row : {X : Type 0} (fs : ℕ) (k : Key) (es : List ((ℕ × Key) × X)) → T (below_all entry_cmp (fs, k) es) → T (below_all key_cmp k (row fs es))
below-row fs k [] h = tt
below-row fs k (e ∷ es) h =
    let parts = head_of (is_lt (entry_cmp (fs, k) e.0)) (below_all entry_cmp (fs, k) es) h in
    let rest = below-row fs k es parts.1 in
    elim (nat_eq e.0.0 fs) as (λ b. nat_eq e.0.0 fs ≡ b → T (below_all key_cmp k (cond b ((e.0.1, e.1) ∷ row fs es) (row fs es)))) [
      | true ↦ λ h. both_of _ _ (subst (λ o. T (is_lt o)) (same_fileset fs e.0.0 k e.0.1 h) parts.0) rest
      | false ↦ λ h. rest
    ] refl

pub is_sorted-row : {X : Type 0} (fs : ℕ) (es : List ((ℕ × Key) × X)) → T (is_sorted entry_cmp es) → T (is_sorted key_cmp (row fs es))
is_sorted-row fs [] h = tt
is_sorted-row fs (e ∷ es) h =
    let parts = head_of (below_all entry_cmp e.0 es) (is_sorted entry_cmp es) h in
    let rest = is_sorted-row fs es parts.1 in
    elim (nat_eq e.0.0 fs) as (λ b. nat_eq e.0.0 fs ≡ b → T (is_sorted key_cmp (cond b ((e.0.1, e.1) ∷ row fs es) (row fs es)))) [
      | true ↦ λ h. both_of _ _ (below-row fs e.0.1 es (subst (λ f. T (below_all entry_cmp (f, e.0.1) es)) (grind (arith, nat_tests)) parts.0)) rest
      | false ↦ λ h. rest
    ] refl

pub find-row_of : (t : Table) (fs : ℕ) (q : Key) → find key_cmp q (row_of t fs) ≡ column t q fs
find-row_of t fs q = find-row fs q (map.entries t.entries) ∙ sym (map.get-entries t.entries (fs, q))

pub is_sorted-row_of : (t : Table) (fs : ℕ) → T (is_sorted key_cmp (row_of t fs))
is_sorted-row_of t fs = is_sorted-row fs (map.entries t.entries) (entries_sorted t.entries)

total-zero : (ids : List ℕ) → total (λ fs. 0) ids ≡ 0
total-zero [] = refl
total-zero (id ∷ ids) = omega (arith, total-zero ids)

-- an entry counts as often as its fileset stands among the ids
total-rows_cons : {X : Type 0} (weight : X → ℕ) (e : (ℕ × Key) × X) (es : List ((ℕ × Key) × X)) (ids : List ℕ) → times e.0.0 ids ≡ 0 → total (λ fs. total (λ x. weight x.1) (row fs (e ∷ es))) ids ≡ total (λ fs. total (λ x. weight x.1) (row fs es)) ids
total-rows_cons weight e es [] none = refl
total-rows_cons weight e es (id ∷ ids) none =
    elim (nat_eq e.0.0 id) as (λ b. (if b then 1 else 0) + times e.0.0 ids ≡ 0
    → total (λ x. weight x.1) (if b then (e.0.1, e.1) ∷ row id es else row id es) + total (λ fs. total (λ x. weight x.1) (row fs (e ∷ es))) ids
    ≡ total (λ x. weight x.1) (row id es) + total (λ fs. total (λ x. weight x.1) (row fs es)) ids) [
      | true ↦ λ h. omega (arith, h)
      | false ↦ λ h. ap (λ n. total (λ x. weight x.1) (row id es) + n) (total-rows_cons weight e es ids (omega (arith, h)))
    ] none

total-rows_once : {X : Type 0} (weight : X → ℕ) (e : (ℕ × Key) × X) (es : List ((ℕ × Key) × X)) (ids : List ℕ) → times e.0.0 ids ≡ 1 → total (λ fs. total (λ x. weight x.1) (row fs (e ∷ es))) ids ≡ weight e.1 + total (λ fs. total (λ x. weight x.1) (row fs es)) ids
total-rows_once weight e es [] once = omega (arith, once)
total-rows_once weight e es (id ∷ ids) once =
    elim (nat_eq e.0.0 id) as (λ b. (if b then 1 else 0) + times e.0.0 ids ≡ 1
    → total (λ x. weight x.1) (if b then (e.0.1, e.1) ∷ row id es else row id es) + total (λ fs. total (λ x. weight x.1) (row fs (e ∷ es))) ids
    ≡ weight e.1 + (total (λ x. weight x.1) (row id es) + total (λ fs. total (λ x. weight x.1) (row fs es)) ids)) [
      | true ↦ λ h. omega (arith, total-rows_cons weight e es ids (omega (arith, h)))
      | false ↦ λ h. let rest = total-rows_once weight e es ids (omega (arith, h)) in omega (arith, rest)
    ] once

-- where the fileset of each entry stands once among the ids, the lists count what all entries count
pub total-rows : {X : Type 0} (weight : X → ℕ) (ids : List ℕ) (es : List ((ℕ × Key) × X)) → AllByRecursion (λ e. times e.0.0 ids ≡ 1) es → total (λ e. weight e.1) es ≡ total (λ fs. total (λ x. weight x.1) (row fs es)) ids
total-rows weight ids [] once = sym (total-zero ids)
total-rows weight ids (e ∷ es) once =
    omega (arith, total-rows_once weight e es ids once.0, total-rows weight ids es once.1)
