-- The ids of a table's checkpoints, after a record is put under one or taken away.
use Rattle.std.proofs.Common.{◌≡◌, ℕ, ◌+◌, ◌<◌, Bool, true, false, cond, T, not, ◌&&◌, List, [], ◌∷◌, ◌++◌, length, map, filter, Option, Some, None, IsSome, nat_lt, nat_eq, is_some, refl, sym, ap, subst, ◌∙◌, arith}
use Rattle.std.specs.declared.cmp.Ordering.TheVariants.{Less, Equal, Greater}
use Rattle.std.specs.Ordering.{nat_cmp, is_eq, eq_by_cmp}
use Rattle.std.specs.List.{list_any}
use Rattle.std.specs.Cmp.{unsigned_tied, nat_cmp_is}
use Rattle.std.proofs.lemmas.Cmp.{nat_cmp_total, tied_itself}
use Rattle.std.proofs.lemmas.Bool.{false≢true, eqb-true, eq-eqb}
use Rattle.std.proofs.lemmas.Bool.Decides.{nat_tests}
use Rattle.std.proofs.lemmas.List.{map-append}
use Rattle.std.proofs.lemmas.Map.Views.{any-filter_same}
use Rattle.std.specs.FinMap.{find, put, is_sorted, entries_sorted, nat_cmp-IsAntisymmetric}
use Rattle.std.specs.FinMap.Entries.{by_order, where_key, length-put, find-where_key, is_sorted-where_key}
use Rattle.std.specs.FinMap as map
use Rattle.ck_model.specs.declared.checkpoint.Fileset.{Fileset}
use Rattle.ck_model.specs.Table.{Table, Filesets, recorded, newer}

-- what stands under an id after a record is put there or taken away
pub get-recorded : (m : Filesets) (id : ℕ) (w : Option Fileset) (q : ℕ) → map.get (recorded m id w) q ≡ cond (nat_eq q id) w (map.get m q)
get-recorded m id None q = map.get-remove nat_cmp_total m id q ∙ ap (λ b. cond b None (map.get m q)) (unsigned_tied q id)
get-recorded m id (Some fileset) q = map.get-insert nat_cmp_total m id fileset q ∙ ap (λ b. cond b (Some fileset) (map.get m q)) (unsigned_tied q id)

pub get-recorded_other : (m : Filesets) (id : ℕ) (w : Option Fileset) (q : ℕ) → nat_eq q id ≡ false → map.get (recorded m id w) q ≡ map.get m q
get-recorded_other m id w q apart = get-recorded m id w q ∙ ap (λ b. cond b w (map.get m q)) apart

pub get-recorded_same : (m : Filesets) (id : ℕ) (w : Option Fileset) → map.get (recorded m id w) id ≡ w
get-recorded_same m id w = get-recorded m id w id ∙ ap (λ b. cond b w (map.get m id)) (eq-eqb id id refl)

-- a record that is put takes none away
pub still_there : (m : Filesets) (id : ℕ) (fileset : Fileset) (x : ℕ) → IsSome (map.get m x) → IsSome (map.get (map.insert m id fileset) x)
still_there m id fileset x stands =
    ap is_some (get-recorded m id (Some fileset) x) ∙ elim (nat_eq x id) as (λ b. is_some (cond b (Some fileset) (map.get m x)) ≡ true) [ true ↦ refl | false ↦ stands ]

abbrev pub ids_of : {X : Type 0} → List (ℕ × X) → List ℕ
ids_of es = map (λ e. e.0) es

sorted_tail : {X : Type 0} (e : ℕ × X) (es : List (ℕ × X)) → T (is_sorted nat_cmp (e ∷ es)) → T (is_sorted nat_cmp es)
sorted_tail e es s = grind (arith, nat_tests)

-- a record put over one that stands
ids_put_over : {X : Type 0} (id : ℕ) (v : X) (es : List (ℕ × X)) → T (is_sorted nat_cmp es) → IsSome (find nat_cmp id es) → ids_of (put nat_cmp id v es) ≡ ids_of es
ids_put_over id v [] s found = absurd (false≢true found)
ids_put_over id v (e ∷ es) s found =
    let long = length-put nat_cmp nat_cmp_total id v (e ∷ es) s ∙ ap (λ b. cond b (length (e ∷ es)) (length (e ∷ es) + 1)) found in
    elim (nat_cmp id e.0) as (λ o. nat_cmp id e.0 ≡ o → length (by_order o ((id, v) ∷ e ∷ es) ((e.0, v) ∷ es) (e ∷ put nat_cmp id v es)) ≡ length (e ∷ es) → ids_of (by_order o ((id, v) ∷ e ∷ es) ((e.0, v) ∷ es) (e ∷ put nat_cmp id v es)) ≡ ids_of (e ∷ es)) [
      | Less ↦ λ _ longer. absurd (omega (arith, longer))
      | Equal ↦ λ _ _. refl
      | Greater ↦ λ order _.
          let there : IsSome (find nat_cmp id es) = subst (λ o. IsSome (cond (is_eq o) (Some e.1) (find nat_cmp id es))) order found in
          ap (λ ids. e.0 ∷ ids) (ids_put_over id v es (sorted_tail e es s) there)
    ] refl long

-- a record put behind all others
pub put_last : {X : Type 0} (id : ℕ) (v : X) (es : List (ℕ × X)) → ((x : ℕ) → IsSome (find nat_cmp x es) → x < id) → put nat_cmp id v es ≡ es ++ (id, v) ∷ []
put_last id v [] below = refl
put_last id v (e ∷ es) below =
    let here : IsSome (find nat_cmp e.0 (e ∷ es)) = ap (λ o. is_some (cond (is_eq o) (Some e.1) (find nat_cmp e.0 es))) (tied_itself nat_cmp_total e.0) in
    ap (λ o. by_order o ((id, v) ∷ e ∷ es) ((e.0, v) ∷ es) (e ∷ put nat_cmp id v es)) (sym (nat_cmp_is id e.0 Greater (below e.0 here)))
    ∙ ap (λ rest. e ∷ rest) (put_last id v es (λ x there. below x
    (elim (eq_by_cmp nat_cmp x e.0) as (λ b. IsSome (cond b (Some e.1) (find nat_cmp x es))) [ true ↦ refl | false ↦ there ])))

pub keys-insert_over : (m : Filesets) (id : ℕ) (fileset : Fileset) → IsSome (map.get m id) → map.keys (map.insert m id fileset) ≡ map.keys m
keys-insert_over m id fileset stands =
    ap (λ (es : List (ℕ × Fileset)). ids_of es) (map.entries-insert nat_cmp_total m id fileset) ∙ ids_put_over id fileset (map.entries m) (entries_sorted m) (subst IsSome (map.get-entries m id) stands)

pub keys-insert_last : (m : Filesets) (id : ℕ) (fileset : Fileset) → ((x : ℕ) → IsSome (map.get m x) → x < id) → map.keys (map.insert m id fileset) ≡ map.keys m ++ id ∷ []
keys-insert_last m id fileset below =
    ap (λ (es : List (ℕ × Fileset)). ids_of es) (map.entries-insert nat_cmp_total m id fileset ∙ put_last id fileset (map.entries m) (λ x there. below x (subst IsSome (sym (map.get-entries m x)) there)))
    ∙ map-append (λ (e : ℕ × Fileset). e.0) (map.entries m) ((id, fileset) ∷ [])

-- another id than this one
abbrev pub is_other : ℕ → ℕ → Bool
is_other id x = not (nat_eq x id)

ids_where : {X : Type 0} (p : ℕ → Bool) (es : List (ℕ × X)) → ids_of (where_key nat_cmp p es) ≡ filter p (ids_of es)
ids_where p [] = refl
ids_where p (e ∷ es) =
    let rest = ids_where p es in
    elim (p e.0) as (λ b. ids_of (cond b (e ∷ where_key nat_cmp p es) (where_key nat_cmp p es)) ≡ cond b (e.0 ∷ filter p (ids_of es)) (filter p (ids_of es))) [ true ↦ ap (λ ids. e.0 ∷ ids) rest | false ↦ rest ]

pub keys-remove : (m : Filesets) (id : ℕ) → map.keys (map.remove m id) ≡ filter (is_other id) (map.keys m)
keys-remove m id =
    let es = map.entries m in
    let kept = where_key nat_cmp (is_other id) es in
    let sorted = is_sorted-where_key nat_cmp (is_other id) es (entries_sorted m) in
    let same : map.remove m id ≡ map.from_sorted {R = nat_cmp} kept = map.same_map nat_cmp_total nat_cmp-IsAntisymmetric (map.remove m id) (map.from_sorted {R = nat_cmp} kept) (λ q.
    get-recorded m id None q
    ∙ elim (nat_eq q id) as (λ b. cond b None (map.get m q) ≡ cond (not b) (map.get m q) None) [ true ↦ refl | false ↦ refl ]
    ∙ ap (λ o. cond (is_other id q) o None) (map.get-entries m q)
    ∙ sym (find-where_key nat_cmp (is_other id) q (λ x tied. ap (is_other id) (sym (nat_cmp-IsAntisymmetric q x tied))) es)
    ∙ sym (map.get-from_sorted nat_cmp kept q sorted)) in
    ap (λ (u : Filesets). map.keys u) same ∙ ap (λ (l : List (ℕ × Fileset)). ids_of l) (map.entries-from_sorted nat_cmp kept sorted) ∙ ids_where (is_other id) es

-- which ids are among the newer ones
pub newer-has : (t : Table) (fs id : ℕ) → list_any (nat_eq id) (newer t fs) ≡ (nat_lt fs id && is_some (map.get t.filesets id))
newer-has t fs id =
    any-filter_same (nat_eq id) (λ x. nat_lt fs x) (nat_lt fs id) (λ x same. ap (nat_lt fs) (sym (eqb-true id x same))) (map.keys t.filesets)
    ∙ ap (λ b. nat_lt fs id && b) (ap (λ (test : ℕ → Bool). list_any test (map.keys t.filesets)) (λ i x. sym (unsigned_tied id x) i) ∙ sym (map.contains_key-keys t.filesets id))
