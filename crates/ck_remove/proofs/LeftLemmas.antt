-- How many checkpoints are gone, and how many entries they have, before a step and after it.
use Rattle.std.proofs.Common.{◌≡◌, ◌≢◌, ℕ, ◌+◌, ◌-◌, ◌*◌, ◌≤◌, Bool, true, false, cond, not, inl, inr, List, [], ◌∷◌, ◌++◌, filter, length, Option, Some, None, is_some, IsSome, nat_eq, nat_lt, if◌then◌else◌, refl, sym, ap, subst, ◌∙◌, arith}
use Rattle.std.specs.Ordering.{eq_by_cmp, is_eq}
use Rattle.std.specs.Option.{option_map_or}
use Rattle.std.specs.List.{AllByRecursion}
use Rattle.std.specs.FinMap as map
use Rattle.std.proofs.lemmas.Cmp.{tied_itself}
use Rattle.std.proofs.lemmas.Bool.{cases_lt, eq-eqb, eqb-true, false≢true, true≢false, false_from_ne_true}
use Rattle.std.proofs.lemmas.List.{length-map}
use Rattle.std.proofs.lemmas.List.Sums.{length-filter, count_by-le-length}
use Rattle.ck_model.specs.declared.key.Key.{Key}
use Rattle.ck_model.specs.declared.held.Held.{Held}
use Rattle.ck_model.specs.declared.checkpoint.Fileset.{Fileset}
use Rattle.ck_model.specs.Key.{key_cmp, key_cmp_exact, key_cmp_total}
use Rattle.ck_model.specs.Table.{Table, IsSized, IsTable, column, newer, with_fileset}
use Rattle.ck_model.specs.Chain.{is_gone, is_live}
use Rattle.ck_model.proofs.RowLaws.{find-row_of, is_sorted-row_of}
use Rattle.ck_model.specs.Rows.{row_of}
use Rattle.ck_chain.proofs.ColumnLaws.{same_or_other}
use Rattle.ck_chain.proofs.OrderLaws.{keys-row}
use Rattle.ck_chain.proofs.ReadLaws.{each_above}
use Rattle.ck_chain.proofs.NewerLaws.{newer_split}
use Rattle.ck_chain.specs.Needless.{in_between}
use Rattle.ck_chain.proofs.OrderlyLaws.{positive_id}
use Rattle.ck_table.proofs.IdLaws.{is_other, get-recorded_other}
use Rattle.ck_table.proofs.WithoutLaws.{newer-without}
use Rattle.ck_remove.specs.Gone.{entry_count, left_at, left_in, left_of}
use Rattle.ck_remove.specs.Removal.{moved, older, without}
use Rattle.ck_remove.proofs.ListLemmas.{all_below, all_map}
use Rattle.ck_remove.proofs.OldestLemmas.{IsOldest, gone_not_live, gone_stands}
use Rattle.ck_remove.proofs.OlderLemmas.{older_live}
use Rattle.ck_remove.proofs.EachLemmas.{each_column}
use Rattle.ck_remove.proofs.MoveLemmas.{moved_away, moved_elsewhere, moved_other}

-- ---- one fileset's entries

-- a fileset's entries as a map
abbrev row_map : Table → ℕ → map.FinMap key_cmp Held
row_map t fs = map.from_sorted {R = key_cmp} (row_of t fs)

get-row_map : (t : Table) (fs : ℕ) (q : Key) → map.get (row_map t fs) q ≡ column t q fs
get-row_map t fs q = map.get-from_sorted key_cmp (row_of t fs) q (is_sorted-row_of t fs) ∙ find-row_of t fs q

entry_count-row_map : (t : Table) (fs : ℕ) → entry_count t fs ≡ map.len (row_map t fs)
entry_count-row_map t fs =
    ap length (keys-row fs (map.entries t.entries))
    ∙ length-map (row_of t fs) (λ (x : Key × Held). x.0)
    ∙ sym (map.len-entries (row_map t fs) ∙ ap length (map.entries-from_sorted key_cmp (row_of t fs) (is_sorted-row_of t fs)))

-- the same entries are as many
same_count : (t v : Table) (fs : ℕ) → ((q : Key) → column v q fs ≡ column t q fs) → entry_count v fs ≡ entry_count t fs
same_count t v fs same =
    let rows : row_map v fs ≡ row_map t fs = map.same_map key_cmp_total key_cmp_exact (row_map v fs) (row_map t fs) (λ q. get-row_map v fs q ∙ same q ∙ sym (get-row_map t fs q)) in
    entry_count-row_map v fs ∙ ap (λ (m : map.FinMap key_cmp Held). map.len m) rows ∙ sym (entry_count-row_map t fs)

some_key : (m : map.FinMap key_cmp Held) (key : Key) → IsSome (map.get m key) → 1 ≤ map.len m
some_key m key h = elim (cases_lt 0 (map.len m)) [
  | inl lt ↦ omega arith
  | inr le ↦
      let none : map.get m key ≡ None = ap (λ (m : map.FinMap key_cmp Held). map.get m key) (map.empty_of_len m (omega arith)) ∙ map.get-empty key_cmp key in
      absurd (false≢true (sym (ap is_some none) ∙ h))
]

-- without one of them they are one fewer
one_fewer : (t v : Table) (fs : ℕ) (key : Key) → IsSome (column t key fs) → ((q : Key) → column v q fs ≡ cond (eq_by_cmp key_cmp q key) None (column t q fs)) → entry_count v fs + 1 ≡ entry_count t fs
one_fewer t v fs key held without =
    let m = row_map t fs in
    let rows : row_map v fs ≡ map.remove m key = map.same_map key_cmp_total key_cmp_exact (row_map v fs) (map.remove m key) (λ q.
    get-row_map v fs q ∙ without q ∙ ap (λ o. cond (eq_by_cmp key_cmp q key) None o) (sym (get-row_map t fs q)) ∙ sym (map.get-remove key_cmp_total m key q)) in
    let some : IsSome (map.get m key) = subst IsSome (sym (get-row_map t fs key)) held in
    let least = some_key m key some in
    let less : map.len (map.remove m key) ≡ map.len m - 1 = map.len-remove key_cmp_total m key ∙ ap (λ b. cond b (map.len m - 1) (map.len m)) some in
    let new : entry_count v fs ≡ map.len (map.remove m key) = entry_count-row_map v fs ∙ ap (λ (m : map.FinMap key_cmp Held). map.len m) rows in
    let old : entry_count t fs ≡ map.len m = entry_count-row_map t fs in
    omega (arith, least, less, new, old)

no_entries : (t : Table) (fs : ℕ) → ((q : Key) → column t q fs ≡ None) → entry_count t fs ≡ 0
no_entries t fs empty =
    let rows : row_map t fs ≡ map.empty {X = Held} {R = key_cmp} = map.same_map key_cmp_total key_cmp_exact (row_map t fs) (map.empty {X = Held} {R = key_cmp}) (λ q. get-row_map t fs q ∙ empty q ∙ sym (map.get-empty key_cmp q)) in
    entry_count-row_map t fs ∙ ap (λ (m : map.FinMap key_cmp Held). map.len m) rows ∙ map.len-empty key_cmp Held

-- ---- all that are gone

at_gone : (t : Table) (fs : ℕ) → is_gone t fs ≡ true → left_at t fs ≡ 1 + entry_count t fs
at_gone t fs gone = ap (λ (b : Bool). if b then 1 + entry_count t fs else 0) gone

left_at-same : (t v : Table) (fs : ℕ) → is_gone v fs ≡ is_gone t fs → (is_gone t fs ≡ true → entry_count v fs ≡ entry_count t fs) → left_at v fs ≡ left_at t fs
left_at-same t v fs same counts =
    ap (λ (b : Bool). if b then 1 + entry_count v fs else 0) same
    ∙ elim (is_gone t fs) as (λ b. (b ≡ true → entry_count v fs ≡ entry_count t fs) → (if b then 1 + entry_count v fs else 0) ≡ (if b then 1 + entry_count t fs else 0)) [
      | true ↦ λ c. ap (λ n. 1 + n) (c refl)
      | false ↦ λ _. refl
    ] counts

abbrev Same : Table → Table → List ℕ → Type 0
Same t v ids = AllByRecursion (λ x. left_at v x ≡ left_at t x) ids

left_in-same : (t v : Table) (ids : List ℕ) → Same t v ids → left_in v ids ≡ left_in t ids
left_in-same t v [] all = refl
left_in-same t v (x ∷ ids) all = λ i. all.0 i + left_in-same t v ids all.1 i

-- one fewer at one of them is one fewer
left_in-fewer : (t v : Table) (g : ℕ) (xs ys : List ℕ) → Same t v xs → Same t v ys → left_at v g + 1 ≡ left_at t g → left_in v (xs ++ g ∷ ys) + 1 ≡ left_in t (xs ++ g ∷ ys)
left_in-fewer t v g [] ys before behind one = let rest = left_in-same t v ys behind in omega (arith, rest, one)
left_in-fewer t v g (x ∷ xs) ys before behind one =
    let here = before.0 in
    let rest = left_in-fewer t v g xs ys before.1 behind one in
    omega (arith, here, rest)

-- ---- an entry is removed

module _ (t : Table) (g : ℕ) (key : Key) (h : Held) (lawful : IsTable t) (oldest : IsOldest t g) (at : column t key g ≡ Some h) where
  abbrev v : Table
  v = without t g (Some key)

  own_column : (q : Key) → column v q g ≡ cond (eq_by_cmp key_cmp q key) None (column t q g)
  own_column q =
      each_column (moved t g key) key (older t g) (older_live t g) g (gone_not_live t g oldest.gone) q
      ∙ elim (same_or_other q key) [
        | inl same ↦
            let tied : eq_by_cmp key_cmp q key ≡ true = ap (λ k. eq_by_cmp key_cmp q k) (sym same) ∙ ap is_eq (tied_itself key_cmp_total q) in
            ap (λ k. column (moved t g key) k g) same ∙ moved_away t g key h lawful at ∙ sym (ap (λ b. cond b None (column t q g)) tied)
        | inr other ↦ ap (λ (c : ℕ → Option Held). c g) (moved_other t g key h lawful at q other) ∙ sym (ap (λ b. cond b None (column t q g)) other)
      ]

  other_column : (x : ℕ) → x ≢ g → is_gone t x ≡ true → (q : Key) → column v q x ≡ column t q x
  other_column x apart gone q =
      let dead = gone_not_live t x gone in
      each_column (moved t g key) key (older t g) (older_live t g) x dead q
      ∙ moved_elsewhere t g key h lawful at x apart (λ n next same. true≢false (sym next.live ∙ ap (is_live t) (sym same) ∙ dead)) q

  same_at : (x : ℕ) → x ≢ g → left_at v x ≡ left_at t x
  same_at x apart = left_at-same t v x refl (λ gone. same_count t v x (other_column x apart gone))

  fewer_at : left_at v g + 1 ≡ left_at t g
  fewer_at =
      let fewer = one_fewer t v g key (ap is_some at) own_column in
      let old = at_gone t g oldest.gone in
      let new = at_gone v g oldest.gone in
      omega (arith, fewer, old, new)

  pub left_without : left_of (without t g (Some key)) + 1 ≡ left_of t
  left_without =
      subst (λ ids. left_in v ids + 1 ≡ left_in t ids) (sym (newer_split t 0 g oldest.above oldest.stands))
      (left_in-fewer t v g (filter (in_between 0 g) (map.keys t.filesets)) (newer t g)
      (all_map (λ x. x ≢ g) (λ x. left_at v x ≡ left_at t x) same_at (filter (in_between 0 g) (map.keys t.filesets)) (all_below g (map.keys t.filesets)))
      (each_above (λ x. left_at v x ≡ left_at t x) g (map.keys t.filesets) (λ x more. same_at x (λ e. absurd (omega (arith, e, more)))))
      fewer_at)

-- ---- an empty checkpoint is removed

module _ (t : Table) (g : ℕ) (lawful : IsTable t) (gone : is_gone t g ≡ true) (empty : (q : Key) → column t q g ≡ None) where
  abbrev u : Table
  u = with_fileset t g None

  differs : (x : ℕ) → x ≢ g → nat_eq x g ≡ false
  differs x apart = false_from_ne_true (nat_eq x g) (λ e. apart (eqb-true x g e))

  kept_at : (x : ℕ) → x ≢ g → left_at u x ≡ left_at t x
  kept_at x apart = left_at-same t u x (ap (λ o. option_map_or (λ (f : Fileset). f.gone) o false) (get-recorded_other t.filesets g None x (differs x apart))) (λ _. refl)

  left_in-other : (ids : List ℕ) → AllByRecursion (λ x. x ≢ g) ids → left_in u (filter (is_other g) ids) ≡ left_in t ids
  left_in-other [] all = refl
  left_in-other (x ∷ ids) all =
      ap (λ b. left_in u (cond (not b) (x ∷ filter (is_other g) ids) (filter (is_other g) ids))) (differs x all.0)
      ∙ (λ i. kept_at x all.0 i + left_in-other ids all.1 i)

  left_in-dropped : (xs ys : List ℕ) → AllByRecursion (λ x. x ≢ g) xs → AllByRecursion (λ x. x ≢ g) ys → left_in u (filter (is_other g) (xs ++ g ∷ ys)) + 1 ≡ left_in t (xs ++ g ∷ ys)
  left_in-dropped [] ys before behind =
      let drops : left_in u (filter (is_other g) (g ∷ ys)) ≡ left_in u (filter (is_other g) ys) = ap (λ b. left_in u (cond (not b) (g ∷ filter (is_other g) ys) (filter (is_other g) ys))) (eq-eqb g g refl) in
      let rest = left_in-other ys behind in
      let old = at_gone t g gone in
      let none = no_entries t g empty in
      omega (arith, drops, rest, old, none)
  left_in-dropped (x ∷ xs) ys before behind =
      let keeps : left_in u (filter (is_other g) (x ∷ xs ++ g ∷ ys)) ≡ left_at u x + left_in u (filter (is_other g) (xs ++ g ∷ ys))
      = ap (λ b. left_in u (cond (not b) (x ∷ filter (is_other g) (xs ++ g ∷ ys)) (filter (is_other g) (xs ++ g ∷ ys)))) (differs x before.0) in
      let here = kept_at x before.0 in
      let rest = left_in-dropped xs ys before.1 behind in
      omega (arith, keeps, here, rest)

  pub left_unlinked : left_of (with_fileset t g None) + 1 ≡ left_of t
  left_unlinked =
      let stands = gone_stands t g gone in
      let least = positive_id t g lawful stands in
      let ids = newer-without t u g (record { entries = refl; filesets = refl; empty = empty }) 0 in
      ap (λ xs. left_in u xs + 1) ids
      ∙ subst (λ xs. left_in u (filter (is_other g) xs) + 1 ≡ left_in t xs) (sym (newer_split t 0 g (omega arith) stands))
      (left_in-dropped (filter (in_between 0 g) (map.keys t.filesets)) (newer t g) (all_below g (map.keys t.filesets))
      (each_above (λ x. x ≢ g) g (map.keys t.filesets) (λ x more e. absurd (omega (arith, e, more)))))

-- ---- the counts are small

fewer-filter : {X : Type 0} (p : X → Bool) (xs : List X) → length (filter p xs) ≤ length xs
fewer-filter p xs = omega (arith, length-filter p xs, count_by-le-length p xs)

pub few_entries : (t : Table) (fs : ℕ) → IsSized t → entry_count t fs ≤ 262144
few_entries t fs sized =
    let mapped = length-map (filter (λ (e : (ℕ × Key) × Held). nat_eq e.0.0 fs) (map.entries t.entries)) (λ (e : (ℕ × Key) × Held). e.0.1) in
    let kept = fewer-filter (λ (e : (ℕ × Key) × Held). nat_eq e.0.0 fs) (map.entries t.entries) in
    let all = map.len-entries t.entries in
    let fits = sized.fits in
    let most = sized.records in
    omega (arith, mapped, kept, all, fits, most)

few_at : (t : Table) (fs : ℕ) → IsSized t → left_at t fs ≤ 262145
few_at t fs sized =
    let few = few_entries t fs sized in
    elim (is_gone t fs) as (λ b. (if b then 1 + entry_count t fs else 0) ≤ 262145) [ true ↦ omega (arith, few) | false ↦ omega arith ]

few_in : (t : Table) (ids : List ℕ) → IsSized t → left_in t ids ≤ 262145 * length ids
few_in t [] sized = omega arith
few_in t (x ∷ ids) sized =
    let here = few_at t x sized in
    let rest = few_in t ids sized in
    omega (arith, here, rest)

pub few_left : (t : Table) → IsSized t → left_of t ≤ 68719738880
few_left t sized =
    let few = few_in t (newer t 0) sized in
    let kept = fewer-filter (λ id. nat_lt 0 id) (map.keys t.filesets) in
    let mapped = length-map (map.entries t.filesets) (λ (e : ℕ × Fileset). e.0) in
    let all = map.len-entries t.filesets in
    let fits = sized.fits in
    let most = sized.records in
    omega (arith, few, kept, mapped, all, fits, most)
