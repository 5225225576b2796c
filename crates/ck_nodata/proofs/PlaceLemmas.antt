-- The first data block that is left to strip, looked for behind one up to which nothing is.
use Rattle.std.proofs.Common.{◌≡◌, ℕ, ◌<◌, ◌≤◌, Bool, true, false, cond, List, [], ◌∷◌, ◌++◌, filter, find, inl, inr, Option, Some, None, IfSome, is_some, nat_lt, if◌then◌else◌, refl, sym, ap, subst, ◌∙◌, arith}
use Rattle.std.specs.Option.{option_map, option_or}
use Rattle.std.specs.List.{AllByRecursion}
use Rattle.std.specs.FinMap as map
use Rattle.std.proofs.lemmas.Bool.{and_from, cases_lt, true≢false}
use Rattle.std.proofs.lemmas.Bool.Decides.{nat_tests}
use Rattle.ck_model.specs.declared.key.Key.{Key}
use Rattle.ck_model.specs.Table.{Table, IsTable, column, keys_in, newer}
use Rattle.ck_model.specs.Chain.{is_live}
use Rattle.ck_model.proofs.CaseLaws.{and_left, none_some, some_is}
use Rattle.ck_chain.specs.Needless.{in_between}
use Rattle.ck_chain.specs.Order.{is_behind}
use Rattle.ck_chain.proofs.NewerLaws.{newer_split}
use Rattle.ck_chain.proofs.OrderlyLaws.{positive_id}
use Rattle.ck_chain.proofs.ReadLaws.{live_stands}
use Rattle.ck_nodata.specs.declared.item.StripItem.{StripItem}
use Rattle.ck_nodata.specs.StripItem.{IsStrippedTo, drops_data, first_extent, first_strip, is_extent, is_unstripped, strip_in, strip_work_of}
use Rattle.ck_nodata.proofs.WorkLemmas.{item_at, strip_in_is}

-- what is found of all is found of those that pass a wider test
find_filtered : (p q : Key → Bool) (xs : List Key) → ((x : Key) → p x ≡ true → q x ≡ true) → find p (filter q xs) ≡ find p xs
find_filtered p q [] wider = refl
find_filtered p q (x ∷ xs) wider =
    let rest = find_filtered p q xs wider in
    elim (p x) as (λ b. p x ≡ b → find p (cond (q x) (x ∷ filter q xs) (filter q xs)) ≡ cond b (Some x) (find p xs)) [
      | true ↦ λ passes.
          ap (λ b. find p (cond b (x ∷ filter q xs) (filter q xs))) (wider x passes)
          ∙ ap (λ b. cond b (Some x) (find p (filter q xs))) passes
      | false ↦ λ fails.
          elim (q x) as (λ c. find p (cond c (x ∷ filter q xs) (filter q xs)) ≡ find p xs) [
            | true ↦ ap (λ b. cond b (Some x) (find p (filter q xs))) fails ∙ rest
            | false ↦ rest
          ]
    ] refl

-- of its checkpoint the first one is behind it
pub same_in : (t : Table) (last : StripItem) → IsStrippedTo t last → strip_in t last.id (Some last.key) ≡ strip_in t last.id None
same_in t last done =
    elim (drops_data t last.id) as (λ b. drops_data t last.id ≡ b → (if b then option_map (item_at last.id) (first_extent t last.id (Some last.key)) else None) ≡ (if b then option_map (item_at last.id) (first_extent t last.id None) else None)) [
      | false ↦ λ _. refl
      | true ↦ λ drops. ap (option_map (item_at last.id)) (find_filtered (λ key. is_extent (column t key last.id)) (is_behind last.key) (keys_in t last.id) (λ key extent.
          elim (done last.id key (and_from (drops_data t last.id) (is_extent (column t key last.id)) drops extent)) [
            | inl more ↦ absurd (omega (arith, more))
            | inr here ↦ here.1
          ]))
    ] refl

pub strip_in_id : (t : Table) (fs : ℕ) (after : Option Key) → IfSome (strip_in t fs after) (λ item. item.id ≡ fs)
strip_in_id t fs after =
    elim (drops_data t fs) as (λ b. IfSome (if b then option_map (item_at fs) (first_extent t fs after) else None) (λ item. item.id ≡ fs)) [
      | false ↦ tt
      | true ↦ elim (first_extent t fs after) as (λ o. IfSome (option_map (item_at fs) o) (λ item. item.id ≡ fs)) [ None ↦ tt | Some key ↦ refl ]
    ]

-- older checkpoints have none
pub none_lower : (t : Table) (last : StripItem) → IsStrippedTo t last → (fs : ℕ) → fs < last.id → strip_in t fs None ≡ None
none_lower t last done fs lower =
    elim (strip_in t fs None) as (λ o. IfSome o (λ item. item.id ≡ fs) → IfSome o (λ item. is_unstripped t item.id item.key ≡ true) → o ≡ None) [
      | None ↦ λ _ _. refl
      | Some item ↦ λ same left. elim (done item.id item.key left) [
        | inl more ↦ absurd (omega (arith, more, same, lower))
        | inr here ↦ let at = here.0 in absurd (omega (arith, at, same, lower))
      ]
    ] (strip_in_id t fs None) (strip_in_is t fs None)

abbrev NoneOf : Table → List ℕ → Type 0
NoneOf t ids = AllByRecursion (λ fs. strip_in t fs None ≡ None) ids

first_behind : (t : Table) (xs ys : List ℕ) → NoneOf t xs → first_strip t (xs ++ ys) ≡ first_strip t ys
first_behind t [] ys none = refl
first_behind t (x ∷ xs) ys none = ap (λ o. option_or o (first_strip t (xs ++ ys))) none.0 ∙ first_behind t xs ys none.1

none_between : (t : Table) (n : ℕ) (ids : List ℕ) → ((fs : ℕ) → fs < n → strip_in t fs None ≡ None) → NoneOf t (filter (in_between 0 n) ids)
none_between t n [] none = tt
none_between t n (x ∷ ids) none =
    let rest = none_between t n ids none in
    elim (in_between 0 n x) as (λ b. in_between 0 n x ≡ b → NoneOf t (cond b (x ∷ filter (in_between 0 n) ids) (filter (in_between 0 n) ids))) [
      | true ↦ λ between. let lower : x < n = grind (arith, nat_tests) in (none x lower, rest)
      | false ↦ λ _. rest
    ] refl

-- where none up to a checkpoint has one, the first one is that of the newer ones
first_newer : (t : Table) (n : ℕ) (ids : List ℕ) → ((fs : ℕ) → fs ≤ n → strip_in t fs None ≡ None) → first_strip t (filter (λ id. nat_lt n id) ids) ≡ first_strip t (filter (λ id. nat_lt 0 id) ids)
first_newer t n [] none = refl
first_newer t n (x ∷ ids) none =
    let rest = first_newer t n ids none in
    elim (cases_lt n x) [
      | inl more ↦
          let low : nat_lt n x ≡ true = grind (arith, nat_tests) in
          let some : nat_lt 0 x ≡ true = grind (arith, nat_tests) in
          ap (λ b. first_strip t (cond b (x ∷ filter (λ id. nat_lt n id) ids) (filter (λ id. nat_lt n id) ids))) low
          ∙ ap (option_or (strip_in t x None)) rest
          ∙ sym (ap (λ b. first_strip t (cond b (x ∷ filter (λ id. nat_lt 0 id) ids) (filter (λ id. nat_lt 0 id) ids))) some)
      | inr le ↦
          let low : nat_lt n x ≡ false = grind (arith, nat_tests) in
          ap (λ b. first_strip t (cond b (x ∷ filter (λ id. nat_lt n id) ids) (filter (λ id. nat_lt n id) ids))) low
          ∙ rest
          ∙ elim (nat_lt 0 x) as (λ b. first_strip t (filter (λ id. nat_lt 0 id) ids) ≡ first_strip t (cond b (x ∷ filter (λ id. nat_lt 0 id) ids) (filter (λ id. nat_lt 0 id) ids))) [
            | true ↦ sym (ap (λ o. option_or o (first_strip t (filter (λ id. nat_lt 0 id) ids))) (none x le))
            | false ↦ refl
          ]
    ]

drops_where : (t : Table) (fs : ℕ) (after : Option Key) (item : StripItem) → strip_in t fs after ≡ Some item → drops_data t fs ≡ true
drops_where t fs after item is =
    elim (drops_data t fs) as (λ b. (if b then option_map (item_at fs) (first_extent t fs after) else None) ≡ Some item → b ≡ true) [
      | true ↦ λ _. refl
      | false ↦ λ none. absurd (none_some item none)
    ] is

-- the first one behind it in its checkpoint is the first of all
pub found_in : (t : Table) (last item : StripItem) → IsTable t → IsStrippedTo t last → strip_in t last.id (Some last.key) ≡ Some item → strip_work_of t ≡ Some item
found_in t last item lawful done is =
    let stands = live_stands t last.id (and_left (is_live t last.id) _ (drops_where t last.id (Some last.key) item is)) in
    let least = positive_id t last.id lawful stands in
    ap (first_strip t) (newer_split t 0 last.id (omega (arith, least)) stands)
    ∙ first_behind t (filter (in_between 0 last.id) (map.keys t.filesets)) (last.id ∷ newer t last.id) (none_between t last.id (map.keys t.filesets) (none_lower t last done))
    ∙ ap (λ o. option_or o (first_strip t (newer t last.id))) (sym (same_in t last done) ∙ is)

-- and where that has none, the first one of the newer ones is
pub found_newer : (t : Table) (last : StripItem) → IsStrippedTo t last → strip_in t last.id (Some last.key) ≡ None → first_strip t (newer t last.id) ≡ strip_work_of t
found_newer t last done none =
    first_newer t last.id (map.keys t.filesets) (λ fs le. elim (cases_lt fs last.id) [
      | inl lower ↦ none_lower t last done fs lower
      | inr ge ↦ let same : last.id ≡ fs = omega (arith, le, ge) in subst (λ n. strip_in t n None ≡ None) same (sym (same_in t last done) ∙ none)
    ])

pub none_is : (o : Option StripItem) → is_some o ≡ false → o ≡ None
none_is None h = refl
none_is (Some item) h = absurd (true≢false h)

-- what is looked for there, in the two cases
pub where_some : (t : Table) (last : StripItem) (o : Option StripItem) → IsTable t → IsStrippedTo t last → o ≡ strip_in t last.id (Some last.key) → is_some o ≡ true → o ≡ strip_work_of t
where_some t last o lawful done is some =
    let item = some_is o some in
    item.1 ∙ sym (found_in t last item.0 lawful done (sym is ∙ item.1))

pub where_none : (t : Table) (last : StripItem) (o : Option StripItem) → IsStrippedTo t last → o ≡ strip_in t last.id (Some last.key) → is_some o ≡ false → first_strip t (newer t last.id) ≡ strip_work_of t
where_none t last o done is none = found_newer t last done (sym is ∙ none_is o none)
