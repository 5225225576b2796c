-- How many entries the filesets from one on have.
use Rattle.std.proofs.Common.{◌≡◌, ℕ, ◌+◌, ◌-◌, ◌<◌, ◌≤◌, Bool, true, false, cond, ◌&&◌, ◌||◌, List, [], ◌∷◌, length, filter, Option, Some, None, is_some, IsSome, nat_lt, nat_le, nat_eq, if◌then◌else◌, refl, sym, ap, subst, ◌∙◌, inl, inr, arith}
use Rattle.std.specs.Ordering.{eq_by_cmp}
use Rattle.std.specs.List.{list_any, AllByRecursion}
use Rattle.std.specs.FinMap.{entries_sorted}
use Rattle.std.specs.FinMap as map
use Rattle.std.proofs.lemmas.Bool.Decides.{nat_tests}
use Rattle.std.proofs.lemmas.List.{length-map}
use Rattle.std.proofs.lemmas.List.Sums.{length-filter, count_by-le-length}
use Rattle.ck_model.specs.declared.key.Key.{Key}
use Rattle.ck_model.specs.declared.held.Held.{Held}
use Rattle.ck_model.specs.Key.{entry_cmp, entry_cmp_exact, entry_cmp_total}
use Rattle.ck_model.specs.Table.{Table, Entries, IsSized, column, newer, with_entry, written}
use Rattle.ck_model.specs.Rules.{IsOrderly}
use Rattle.ck_model.proofs.FilesetLaws.{all_found}
use Rattle.ck_model.proofs.SizeLaws.{len-retain_keys}
use Rattle.ck_model.proofs.ValueLaws.{tied_entry}
use Rattle.ck_chain.specs.Needless.{is_needless, tidied}
use Rattle.ck_chain.proofs.ColumnLaws.{get-with_entry}
use Rattle.ck_chain.proofs.CountLaws.{some_entry}
use Rattle.ck_table.proofs.IdLaws.{newer-has}
use Rattle.ck_restore.specs.Entries.{entries_from, entry_count}

-- ---- an entry is written or goes

abbrev is_from : ℕ → ℕ × Key → Bool
is_from id entry = nat_le id entry.0

abbrev kept : Table → ℕ → Entries
kept t id = map.retain_keys t.entries (is_from id)

count-kept : (t : Table) (id : ℕ) → entries_from t id ≡ map.len (kept t id)
count-kept t id = sym (len-retain_keys entry_cmp_total entry_cmp_exact t.entries (is_from id))

get-kept : (t : Table) (id : ℕ) (q : ℕ × Key) → map.get (kept t id) q ≡ (if is_from id q then map.get t.entries q else None)
get-kept t id q = map.get-retain_keys t.entries (is_from id) q (λ x tied. ap (is_from id) (sym (entry_cmp_exact q x tied)))

-- one of an older fileset doesn't count
pub entries_from-older : (t : Table) (id fs : ℕ) (key : Key) (w : Option Held) → fs < id → entries_from (with_entry t fs key w) id ≡ entries_from t id
entries_from-older t id fs key w lower =
    let u = with_entry t fs key w in
    let fails : nat_le id fs ≡ false = grind (arith, nat_tests) in
    let same : kept u id ≡ kept t id = map.same_map entry_cmp_total entry_cmp_exact (kept u id) (kept t id) (λ q.
    get-kept u id q
    ∙ ap (λ o. if is_from id q then o else None) (get-with_entry t fs key w q)
    ∙ elim (eq_by_cmp entry_cmp q (fs, key)) as (λ b. eq_by_cmp entry_cmp q (fs, key) ≡ b → (if is_from id q then cond b w (map.get t.entries q) else None) ≡ (if is_from id q then map.get t.entries q else None)) [
      | true ↦ λ tied.
          let out : is_from id q ≡ false = ap (is_from id) (tied_entry q (fs, key) tied) ∙ fails in
          ap (λ b. if b then w else None) out ∙ sym (ap (λ b. if b then map.get t.entries q else None) out)
      | false ↦ λ _. refl
    ] refl
    ∙ sym (get-kept t id q)) in
    count-kept u id ∙ ap (λ (m : Entries). map.len m) same ∙ sym (count-kept t id)

nothing : (b : Bool) → ◌≡◌ {A = Option Held} (if b then None else None) None
nothing true = refl
nothing false = refl

-- without one that counts they are one fewer
pub entries_from-without : (t : Table) (id fs : ℕ) (key : Key) → id ≤ fs → IsSome (column t key fs) → entries_from (with_entry t fs key None) id + 1 ≡ entries_from t id
entries_from-without t id fs key within held =
    let u = with_entry t fs key None in
    let m = kept t id in
    let at : ℕ × Key = (fs, key) in
    let passes : nat_le id fs ≡ true = grind (arith, nat_tests) in
    let same : kept u id ≡ map.remove m at = map.same_map entry_cmp_total entry_cmp_exact (kept u id) (map.remove m at) (λ q.
    get-kept u id q
    ∙ ap (λ o. if is_from id q then o else None) (get-with_entry t fs key None q)
    ∙ elim (eq_by_cmp entry_cmp q at) as (λ b. (if is_from id q then cond b None (map.get t.entries q) else None) ≡ cond b None (if is_from id q then map.get t.entries q else None)) [
      | true ↦ nothing (is_from id q)
      | false ↦ refl
    ]
    ∙ ap (cond (eq_by_cmp entry_cmp q at) None) (sym (get-kept t id q))
    ∙ sym (map.get-remove entry_cmp_total m at q)) in
    let some : IsSome (map.get m at) = ap is_some (get-kept t id at ∙ ap (λ b. if b then map.get t.entries at else None) passes) ∙ held in
    let least = some_entry m at some in
    let less : map.len (map.remove m at) ≡ map.len m - 1 = map.len-remove entry_cmp_total m at ∙ ap (λ b. cond b (map.len m - 1) (map.len m)) some in
    let new : entries_from u id ≡ map.len (map.remove m at) = count-kept u id ∙ ap (λ (m : Entries). map.len m) same in
    let old : entries_from t id ≡ map.len m = count-kept t id in
    omega (arith, least, less, new, old)

pub entries_from-tidied : (t : Table) (id fs : ℕ) (key : Key) → fs < id → entries_from (tidied t fs key) id ≡ entries_from t id
entries_from-tidied t id fs key lower =
    elim (is_needless t fs key) as (λ b. entries_from (record t { entries = if b then written t.entries fs key None else t.entries }) id ≡ entries_from t id) [
      | true ↦ entries_from-older t id fs key None lower
      | false ↦ refl
    ]

-- ---- one fileset after the other

-- the entries of all filesets that are newer
abbrev pub entries_above : Table → ℕ → ℕ
entries_above t fs = length (filter (λ e. nat_lt fs e.0.0) (map.entries t.entries))

abbrev Placed : Type 0
Placed = (ℕ × Key) × Held

split_list : (id : ℕ) (es : List Placed) → length (filter (λ (e : Placed). nat_le id e.0.0) es) ≡ length (filter (λ (e : Placed). nat_eq e.0.0 id) es) + length (filter (λ (e : Placed). nat_lt id e.0.0) es)
split_list id [] = omega arith
split_list id (e ∷ es) =
    let rest = split_list id es in
    let fs = e.0.0 in
    let le = filter (λ (e : Placed). nat_le id e.0.0) es in
    let eq = filter (λ (e : Placed). nat_eq e.0.0 id) es in
    let lt = filter (λ (e : Placed). nat_lt id e.0.0) es in
    elim (nat_le id fs) as (λ a. nat_le id fs ≡ a → length (cond a (e ∷ le) le) ≡ length (cond (nat_eq fs id) (e ∷ eq) eq) + length (cond (nat_lt id fs) (e ∷ lt) lt)) [
      | true ↦ λ within. elim (nat_eq fs id) as (λ b. nat_eq fs id ≡ b → length (e ∷ le) ≡ length (cond b (e ∷ eq) eq) + length (cond (nat_lt id fs) (e ∷ lt) lt)) [
        | true ↦ λ same.
            let no : nat_lt id fs ≡ false = grind (arith, nat_tests) in
            let none = ap (λ b. length (cond b (e ∷ lt) lt)) no in omega (arith, rest, none)
        | false ↦ λ apart.
            let yes : nat_lt id fs ≡ true = grind (arith, nat_tests) in
            let one = ap (λ b. length (cond b (e ∷ lt) lt)) yes in omega (arith, rest, one)
      ] refl
      | false ↦ λ out.
          let no : nat_eq fs id ≡ false = grind (arith, nat_tests) in
          let nor : nat_lt id fs ≡ false = grind (arith, nat_tests) in
          let none = ap (λ b. length (cond b (e ∷ eq) eq)) no in
          let neither = ap (λ b. length (cond b (e ∷ lt) lt)) nor in
          omega (arith, rest, none, neither)
    ] refl

-- its own, and those of the newer ones
pub entries_from-split : (t : Table) (id : ℕ) → entries_from t id ≡ entry_count t id + entries_above t id
entries_from-split t id =
    let own = length-map (filter (λ (e : Placed). nat_eq e.0.0 id) (map.entries t.entries)) (λ (e : Placed). e.0.1) in
    let split = split_list id (map.entries t.entries) in
    omega (arith, own, split)

same_filter : (p q : Placed → Bool) (es : List Placed) → AllByRecursion (λ e. p e ≡ q e) es → filter p es ≡ filter q es
same_filter p q [] all = refl
same_filter p q (e ∷ es) all = λ i. cond (all.0 i) (e ∷ same_filter p q es all.1 i) (same_filter p q es all.1 i)

no_filter : (p : Placed → Bool) (es : List Placed) → AllByRecursion (λ e. p e ≡ false) es → filter p es ≡ []
no_filter p [] all = refl
no_filter p (e ∷ es) all = ap (λ b. cond b (e ∷ filter p es) (filter p es)) all.0 ∙ no_filter p es all.1

-- what holds of 0 and of each fileset of the table holds of each entry's
each_home : (t : Table) → IsOrderly t → (P : ℕ → Type 0) → P 0 → ((fs : ℕ) → IsSome (map.get t.filesets fs) → P fs) → AllByRecursion (λ (e : Placed). P e.0.0) (map.entries t.entries)
each_home t orderly P first each =
    all_found entry_cmp_total entry_cmp_exact (λ (e : Placed). P e.0.0) (map.entries t.entries) (entries_sorted t.entries) (λ k held found.
    let is : column t k.1 k.0 ≡ Some held = map.get-entries t.entries k ∙ found in
    elim (orderly.homes k.0 k.1 (ap is_some is)) [
      | inl zero ↦ subst P (sym zero) first
      | inr stands ↦ each k.0 stands
    ])

-- no fileset stands between one and the next newer one
next_from : (t : Table) (at next fs : ℕ) → newer t at ≡ next ∷ newer t next → IsSome (map.get t.filesets fs) → nat_lt at fs ≡ (nat_eq fs next || nat_lt next fs)
next_from t at next fs is stands =
    let here : (nat_lt at fs && is_some (map.get t.filesets fs)) ≡ (nat_eq fs next || (nat_lt next fs && is_some (map.get t.filesets fs))) =
    sym (newer-has t at fs) ∙ ap (list_any (nat_eq fs)) is ∙ ap (λ b. nat_eq fs next || b) (newer-has t next fs) in
    both (nat_lt at fs) (nat_lt next fs) (nat_eq fs next) (is_some (map.get t.filesets fs)) stands here
  where
    both : (a b c d : Bool) → d ≡ true → (a && d) ≡ (c || (b && d)) → a ≡ (c || b)
    both a b c true d h = right a ∙ h ∙ ap (λ x. c || x) (sym (right b))
      where
        right : (x : Bool) → x ≡ (x && true)
        right true = refl
        right false = refl
    both a b c false d h = cc

pub entries_above-next : (t : Table) (at next : ℕ) → IsOrderly t → at < next → newer t at ≡ next ∷ newer t next → entries_above t at ≡ entry_count t next + entries_above t next
entries_above-next t at next orderly more is =
    let each = each_home t orderly (λ fs. nat_lt at fs ≡ nat_le next fs) (grind (arith, nat_tests)) (λ fs stands.
    let from = next_from t at next fs is stands in
    let le : (nat_eq fs next || nat_lt next fs) ≡ nat_le next fs = grind (arith, nat_tests) in
    from ∙ le) in
    ap length (same_filter (λ (e : Placed). nat_lt at e.0.0) (λ (e : Placed). nat_le next e.0.0) (map.entries t.entries) each)
    ∙ entries_from-split t next

pub entries_above-none : (t : Table) (at : ℕ) → IsOrderly t → newer t at ≡ [] → entries_above t at ≡ 0
entries_above-none t at orderly is =
    let each = each_home t orderly (λ fs. nat_lt at fs ≡ false) (grind (arith, nat_tests)) (λ fs stands.
    let none = sym (newer-has t at fs) ∙ ap (list_any (nat_eq fs)) is in
    elim (nat_lt at fs) as (λ b. (b && is_some (map.get t.filesets fs)) ≡ false → b ≡ false) [
      | true ↦ λ h. sym stands ∙ h
      | false ↦ λ _. refl
    ] none) in
    ap length (no_filter (λ (e : Placed). nat_lt at e.0.0) (map.entries t.entries) each)

-- ---- the counts are small

few : (t : Table) → IsSized t → (p : Placed → Bool) → length (filter p (map.entries t.entries)) ≤ 262144
few t sized p =
    let one = length-filter p (map.entries t.entries) in
    let two = count_by-le-length p (map.entries t.entries) in
    let all = map.len-entries t.entries in
    let fits = sized.fits in
    let most = sized.records in
    omega (arith, one, two, all, fits, most)

pub few_from : (t : Table) (id : ℕ) → IsSized t → entries_from t id ≤ 262144
few_from t id sized = few t sized (λ (e : Placed). nat_le id e.0.0)

pub few_entries : (t : Table) (fs : ℕ) → IsSized t → entry_count t fs ≤ 262144
few_entries t fs sized =
    let own = length-map (filter (λ (e : Placed). nat_eq e.0.0 fs) (map.entries t.entries)) (λ (e : Placed). e.0.1) in
    let small = few t sized (λ (e : Placed). nat_eq e.0.0 fs) in
    omega (arith, own, small)

-- where one stands there is at least one
pub some_from : (t : Table) (id fs : ℕ) (key : Key) → id ≤ fs → IsSome (column t key fs) → 1 ≤ entries_from t id
some_from t id fs key within held = let fewer = entries_from-without t id fs key within held in omega (arith, fewer)
