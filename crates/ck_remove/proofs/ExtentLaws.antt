-- How many data blocks a table names, once an entry is written or goes.
use Rattle.std.proofs.Common.{◌≡◌, ℕ, ◌+◌, Bool, true, false, cond, not, T, List, [], ◌∷◌, ◌++◌, filter, length, Option, Some, None, refl, sym, ap, subst, ◌∙◌, arith}
use Rattle.std.specs.declared.cmp.Ordering.{Ordering}
use Rattle.std.specs.declared.cmp.Ordering.TheVariants.{Less, Equal, Greater}
use Rattle.std.specs.Ordering.{is_eq, is_lt, eq_by_cmp, ordering_reverse}
use Rattle.std.specs.FinMap.{find, put, is_sorted, entries_sorted}
use Rattle.std.specs.FinMap.Entries.{below_all, by_order}
use Rattle.std.specs.FinMap as map
use Rattle.ck_model.specs.declared.key.Key.{Key}
use Rattle.ck_model.specs.declared.held.Held.{Held}
use Rattle.ck_model.specs.Key.{entry_cmp, entry_cmp_exact, entry_cmp_total}
use Rattle.ck_model.specs.Table.{Table, Entries, column, with_entry}
use Rattle.ck_model.specs.TableWorld.{blocks_in, blocks_of, extent_count}
use Rattle.ck_model.proofs.CaseLaws.{head_of, both_of}
use Rattle.ck_model.proofs.FilesetLaws.{not_below}
use Rattle.ck_model.proofs.SizeLaws.{entries-retain_keys}
use Rattle.ck_remove.specs.Extents.{named_in}

abbrev block_count : List ((ℕ × Key) × Held) → ℕ
block_count es = length (blocks_of es)

joined : (xs ys : List ℕ) → length (xs ++ ys) ≡ length xs + length ys
joined [] ys = omega arith
joined (x ∷ xs) ys = let rest = joined xs ys in omega (arith, rest)

-- ---- entries in order

is_less : (o : Ordering) → T (is_lt o) → o ≡ Less
is_less Less h = refl
is_less Equal h = absurd h
is_less Greater h = absurd h

is_equal : (o : Ordering) → is_eq o ≡ true → o ≡ Equal
is_equal Less h = cc
is_equal Equal h = refl
is_equal Greater h = cc

eq-reverse : (o : Ordering) → is_eq (ordering_reverse o) ≡ is_eq o
eq-reverse Less = refl
eq-reverse Equal = refl
eq-reverse Greater = refl

either_way : (a b : ℕ × Key) → eq_by_cmp entry_cmp a b ≡ eq_by_cmp entry_cmp b a
either_way a b = ap is_eq (entry_cmp_total.antisymm a b) ∙ eq-reverse (entry_cmp b a)

lower_all : (a b : ℕ × Key) (es : List ((ℕ × Key) × Held)) → entry_cmp a b ≡ Less → T (below_all entry_cmp b es) → T (below_all entry_cmp a es)
lower_all a b [] lower h = tt
lower_all a b (e ∷ es) lower h =
    let parts = head_of (is_lt (entry_cmp b e.0)) (below_all entry_cmp b es) h in
    both_of (is_lt (entry_cmp a e.0)) (below_all entry_cmp a es)
    (subst (λ o. T (is_lt o)) (sym (entry_cmp_total.trans a b e.0 lower (is_less (entry_cmp b e.0) parts.0))) tt)
    (lower_all a b es lower parts.1)

none_found : (k : ℕ × Key) (es : List ((ℕ × Key) × Held)) → T (below_all entry_cmp k es) → find entry_cmp k es ≡ None
none_found k es below = not_below entry_cmp_total entry_cmp_exact k es below

put_count : (k : ℕ × Key) (v : Held) (es : List ((ℕ × Key) × Held)) → T (is_sorted entry_cmp es) → block_count (put entry_cmp k v es) + named_in (find entry_cmp k es) ≡ block_count es + length (blocks_in v)
put_count k v [] s = let own = joined (blocks_in v) [] in omega (arith, own)
put_count k v (e ∷ es) s =
    let parts = head_of (below_all entry_cmp e.0 es) (is_sorted entry_cmp es) s in
    let old = joined (blocks_in e.1) (blocks_of es) in
    elim (entry_cmp k e.0) as (λ o. entry_cmp k e.0 ≡ o → block_count (by_order o ((k, v) ∷ e ∷ es) ((e.0, v) ∷ es) (e ∷ put entry_cmp k v es)) + named_in (cond (is_eq o) (Some e.1) (find entry_cmp k es)) ≡ block_count (e ∷ es) + length (blocks_in v)) [
      | Less ↦ λ lower.
          let none : named_in (find entry_cmp k es) ≡ 0 = ap named_in (none_found k es (lower_all k e.0 es lower parts.0)) in
          let new = joined (blocks_in v) (blocks_of (e ∷ es)) in
          omega (arith, none, new)
      | Equal ↦ λ _. let new = joined (blocks_in v) (blocks_of es) in omega (arith, new, old)
      | Greater ↦ λ _.
          let rest = put_count k v es parts.1 in
          let new = joined (blocks_in e.1) (blocks_of (put entry_cmp k v es)) in
          omega (arith, rest, new, old)
    ] refl

abbrev is_other : ℕ × Key → ℕ × Key → Bool
is_other k x = not (eq_by_cmp entry_cmp x k)

without_count : (k : ℕ × Key) (es : List ((ℕ × Key) × Held)) → T (is_sorted entry_cmp es) → block_count (filter (λ e. is_other k e.0) es) + named_in (find entry_cmp k es) ≡ block_count es
without_count k [] s = omega arith
without_count k (e ∷ es) s =
    let parts = head_of (below_all entry_cmp e.0 es) (is_sorted entry_cmp es) s in
    let rest = without_count k es parts.1 in
    let kept = filter (λ (e : (ℕ × Key) × Held). is_other k e.0) es in
    let old = joined (blocks_in e.1) (blocks_of es) in
    ap (λ b. block_count (cond (not b) (e ∷ kept) kept) + named_in (find entry_cmp k (e ∷ es))) (either_way e.0 k)
    ∙ elim (eq_by_cmp entry_cmp k e.0) as (λ b. eq_by_cmp entry_cmp k e.0 ≡ b → block_count (cond (not b) (e ∷ kept) kept) + named_in (cond b (Some e.1) (find entry_cmp k es)) ≡ block_count (e ∷ es)) [
      | true ↦ λ tied.
          let same : k ≡ e.0 = entry_cmp_exact k e.0 (is_equal (entry_cmp k e.0) tied) in
          let none : named_in (find entry_cmp k es) ≡ 0 = ap (λ x. named_in (find entry_cmp x es)) same ∙ ap named_in (none_found e.0 es parts.0) in
          omega (arith, rest, none, old)
      | false ↦ λ _. let new = joined (blocks_in e.1) (blocks_of kept) in omega (arith, rest, new, old)
    ] refl

entries_without : (m : Entries) (k : ℕ × Key) → map.entries (map.remove m k) ≡ filter (λ e. is_other k e.0) (map.entries m)
entries_without m k =
    let same : map.remove m k ≡ map.retain_keys m (is_other k) = map.same_map entry_cmp_total entry_cmp_exact (map.remove m k) (map.retain_keys m (is_other k)) (λ q.
    map.get-remove entry_cmp_total m k q
    ∙ elim (eq_by_cmp entry_cmp q k) as (λ b. cond b None (map.get m q) ≡ cond (not b) (map.get m q) None) [ true ↦ refl | false ↦ refl ]
    ∙ sym (map.get-retain_keys m (is_other k) q (λ x tied. ap (is_other k) (sym (entry_cmp_exact q x tied))))) in
    ap (λ (m : Entries). map.entries m) same ∙ entries-retain_keys entry_cmp_total entry_cmp_exact m (is_other k)

-- ---- tables

-- an entry is written or goes: its data block counts afterwards in place of the one before
pub extent_count-with_entry : (t : Table) (fs : ℕ) (key : Key) (w : Option Held) → extent_count (with_entry t fs key w) + named_in (column t key fs) ≡ extent_count t + named_in w
extent_count-with_entry t fs key None =
    let is : extent_count (with_entry t fs key None) ≡ block_count (filter (λ e. is_other (fs, key) e.0) (map.entries t.entries)) = ap block_count (entries_without t.entries (fs, key)) in
    let count = without_count (fs, key) (map.entries t.entries) (entries_sorted t.entries) in
    let found = ap named_in (map.get-entries t.entries (fs, key)) in
    omega (arith, is, count, found)
extent_count-with_entry t fs key (Some held) =
    let is : extent_count (with_entry t fs key (Some held)) ≡ block_count (put entry_cmp (fs, key) held (map.entries t.entries)) = ap block_count (map.entries-insert entry_cmp_total t.entries (fs, key) held) in
    let count = put_count (fs, key) held (map.entries t.entries) (entries_sorted t.entries) in
    let found = ap named_in (map.get-entries t.entries (fs, key)) in
    omega (arith, is, count, found)
