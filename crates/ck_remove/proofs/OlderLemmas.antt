-- The checkpoints that are older than the oldest one that is gone.
use Rattle.std.proofs.Common.{◌≡◌, ℕ, ◌<◌, ◌≤◌, Bool, true, false, cond, ◌⊎◌, inl, inr, List, [], ◌∷◌, ◌++◌, filter, Option, Some, None, IsSome, IfSome, IsSomeAnd, is_some, nat_lt, if◌then◌else◌, refl, sym, ap, subst, ◌∙◌, arith}
use Rattle.std.specs.Option.{option_or}
use Rattle.std.specs.List.{AllByRecursion}
use Rattle.std.specs.FinMap as map
use Rattle.std.proofs.lemmas.Bool.{true≢false, and_from, and_parts, cases_lt, false_from_ne_true, lt-ltb}
use Rattle.std.proofs.lemmas.Bool.Decides.{nat_tests}
use Rattle.ck_model.specs.declared.key.Key.{Key}
use Rattle.ck_model.specs.declared.held.Held.{Held}
use Rattle.ck_model.specs.Table.{Table, IsTable, column, newer}
use Rattle.ck_model.specs.Chain.{is_live, keeps_data, last_of}
use Rattle.ck_chain.specs.Kept.{pushed}
use Rattle.ck_chain.proofs.NewerLaws.{newer_split}
use Rattle.ck_chain.specs.Needless.{in_between}
use Rattle.ck_chain.proofs.ReadLaws.{last_passes, live_stands}
use Rattle.ck_chain.proofs.OrderlyLaws.{positive_id}
use Rattle.ck_table.proofs.IdLaws.{newer-has}
use Rattle.ck_remove.specs.Removal.{is_older, older, next_older, taken_into, taken_of}
use Rattle.ck_remove.proofs.ListLemmas.{all_at, all_filter, filter_none, filter_outside}
use Rattle.ck_remove.proofs.OldestLemmas.{IsOldest, gone_not_live, live_where_not_gone}

-- the last that passes, of a list whose end has one
last-append : (test : ℕ → Bool) (xs zs : List ℕ) (m : ℕ) → last_of test zs ≡ Some m → last_of test (xs ++ zs) ≡ Some m
last-append test [] zs m h = h
last-append test (x ∷ xs) zs m h = ap (λ o. option_or o (if test x then Some x else None)) (last-append test xs zs m h)

last_above : (test : ℕ → Bool) (fs : ℕ) (ids : List ℕ) → IfSome (last_of test (filter (λ id. nat_lt fs id) ids)) (λ n. fs < n)
last_above test fs [] = tt
last_above test fs (x ∷ ids) =
    let rest = last_above test fs ids in
    elim (nat_lt fs x) as (λ b. nat_lt fs x ≡ b → IfSome (last_of test (cond b (x ∷ filter (λ id. nat_lt fs id) ids) (filter (λ id. nat_lt fs id) ids))) (λ n. fs < n)) [
      | true ↦ λ p. let lt : fs < x = grind (arith, nat_tests) in
          elim (last_of test (filter (λ id. nat_lt fs id) ids)) as (λ o. IfSome o (λ n. fs < n) → IfSome (option_or o (if test x then Some x else None)) (λ n. fs < n)) [
            | Some m ↦ λ ih. ih
            | None ↦ λ ih. elim (test x) as (λ b. IfSome (if b then Some x else None) (λ n. fs < n)) [ true ↦ lt | false ↦ tt ]
          ] rest
      | false ↦ λ p. rest
    ] refl

-- the last that passes is at least as high as each that does
last_at_least : (t : Table) (test : ℕ → Bool) (fs : ℕ) → 0 < fs → IsSome (map.get t.filesets fs) → test fs ≡ true → IsSomeAnd (last_of test (newer t 0)) (λ n. fs ≤ n)
last_at_least t test fs positive stands passes =
    let split = newer_split t 0 fs positive stands in
    elim (last_of test (newer t fs)) as (λ o. last_of test (newer t fs) ≡ o → IfSome o (λ n. fs < n) → IsSomeAnd (last_of test (newer t 0)) (λ n. fs ≤ n)) [
      | Some m ↦ λ e lt.
          let last = ap (last_of test) split ∙ last-append test (filter (in_between 0 fs) (map.keys t.filesets)) (fs ∷ newer t fs) m (ap (λ o. option_or o (if test fs then Some fs else None)) e) in
          subst (λ o. IsSomeAnd o (λ n. fs ≤ n)) (sym last) (omega arith)
      | None ↦ λ e lt.
          let last = ap (last_of test) split ∙ last-append test (filter (in_between 0 fs) (map.keys t.filesets)) (fs ∷ newer t fs) fs (ap (λ o. option_or o (if test fs then Some fs else None)) e ∙ ap (λ (b : Bool). if b then Some fs else None) passes) in
          subst (λ o. IsSomeAnd o (λ n. fs ≤ n)) (sym last) (omega arith)
    ] refl (last_above test fs (map.keys t.filesets))

pub older_is : (t : Table) (g id : ℕ) → is_older t g id ≡ true → (id < g) × (is_live t id ≡ true)
older_is t g id passes =
    let parts = and_parts (nat_lt id g) (is_live t id) passes in
    let low = parts.0 in
    let lower : id < g = grind (arith, nat_tests) in
    (lower, parts.1)

-- the older ones aren't gone
pub older_live : (t : Table) (g : ℕ) → AllByRecursion (λ id. is_live t id ≡ true) (older t g)
older_live t g = all_filter (λ id. is_live t id ≡ true) (is_older t g) (λ id passes. (older_is t g id passes).1) (newer t 0)

-- and each that isn't gone is one of them
pub older_has : (t : Table) (g : ℕ) (P : ℕ → Type 0) (fs : ℕ) → 0 < fs → fs < g → is_live t fs ≡ true → AllByRecursion P (older t g) → P fs
older_has t g P fs positive lower live all =
    all_at P (is_older t g) fs (and_from (nat_lt fs g) (is_live t fs) (lt-ltb fs g lower) live) (newer t 0) all
    (newer-has t 0 fs ∙ and_from (nat_lt 0 fs) (is_some (map.get t.filesets fs)) (lt-ltb 0 fs positive) (live_stands t fs live))

-- none that is newer is older
pub none_older : (t : Table) (g at : ℕ) → g ≤ at → filter (is_older t g) (newer t at) ≡ []
none_older t g at le = filter_outside (is_older t g) (λ id. nat_lt at id) (λ x above.
    false_from_ne_true (is_older t g x) (λ passes. let lower = (older_is t g x passes).0 in let more : at < x = grind (arith, nat_tests) in absurd (omega (arith, lower, more, le)))) (map.keys t.filesets)

-- nor is it where the next newer one isn't
pub none_at : (t : Table) (g at id : ℕ) → g ≤ id → newer t at ≡ id ∷ newer t id → filter (is_older t g) (newer t at) ≡ []
none_at t g at id le next =
    let fails : is_older t g id ≡ false = false_from_ne_true (is_older t g id) (λ passes. let lower = (older_is t g id passes).0 in absurd (omega (arith, lower, le))) in
    ap (filter (is_older t g)) next
    ∙ ap (λ b. cond b (id ∷ filter (is_older t g) (newer t id)) (filter (is_older t g) (newer t id))) fails
    ∙ none_older t g id le

last_outside : (p q : ℕ → Bool) → ((x : ℕ) → q x ≡ true → p x ≡ false) → (xs : List ℕ) → last_of p (filter q xs) ≡ None
last_outside p q apart [] = refl
last_outside p q apart (x ∷ xs) =
    let rest = last_outside p q apart xs in
    elim (q x) as (λ b. q x ≡ b → last_of p (cond b (x ∷ filter q xs) (filter q xs)) ≡ None) [
      | true ↦ λ passes. (λ i. option_or (rest i) (if apart x passes i then Some x else None))
      | false ↦ λ _. rest
    ] refl

-- ---- the next older one

-- no fileset behind one that isn't older is the next older one
pub none_next : (t : Table) (g at id : ℕ) → g ≤ id → newer t at ≡ id ∷ newer t id → last_of (is_older t g) (newer t at) ≡ None
none_next t g at id le next =
    let fails : (x : ℕ) → id ≤ x → is_older t g x ≡ false = λ x more. false_from_ne_true (is_older t g x) (λ passes. let lower = (older_is t g x passes).0 in absurd (omega (arith, lower, le, more))) in
    let rest : last_of (is_older t g) (newer t id) ≡ None = last_outside (is_older t g) (λ x. nat_lt id x) (λ x above. let more : id < x = grind (arith, nat_tests) in fails x (omega (arith, more))) (map.keys t.filesets) in
    ap (last_of (is_older t g)) next ∙ (λ i. option_or (rest i) (if fails id (omega arith) i then Some id else None))

pub record IsNextOlder (t : Table) (g n : ℕ) : Type 0 where
  pub is : next_older t g ≡ Some n
  pub above : 0 < n
  pub lower : n < g
  pub live : is_live t n ≡ true

next_is : (t : Table) (g n : ℕ) → IsTable t → next_older t g ≡ Some n → IsNextOlder t g n
next_is t g n lawful is =
    let parts = older_is t g n (subst (λ o. IfSome o (λ n. is_older t g n ≡ true)) is (last_passes (is_older t g) (newer t 0))) in
    let least = positive_id t n lawful (live_stands t n parts.1) in
    record { is = is; above = omega arith; lower = parts.0; live = parts.1 }

-- no checkpoint that isn't gone stands between
pub next_at_least : (t : Table) (g fs : ℕ) → 0 < fs → fs < g → is_live t fs ≡ true → IsSomeAnd (next_older t g) (λ n. fs ≤ n)
next_at_least t g fs positive lower live =
    last_at_least t (is_older t g) fs positive (live_stands t fs live) (and_from (nat_lt fs g) (is_live t fs) (lt-ltb fs g lower) live)

-- the oldest one that is gone is the next newer one
pub next_newer : (t : Table) (g n : ℕ) → IsOldest t g → IsNextOlder t g n → newer t n ≡ g ∷ newer t g
next_newer t g n oldest next =
    newer_split t n g next.lower oldest.stands
    ∙ ap (λ ids. ids ++ g ∷ newer t g) (filter_none (in_between n g) (map.keys t.filesets) (λ x there. false_from_ne_true (in_between n g x) (λ between.
    let parts = and_parts (nat_lt n x) (nat_lt x g) between in
    let low = parts.0 in
    let high = parts.1 in
    let above : n < x = grind (arith, nat_tests) in
    let lower : x < g = grind (arith, nat_tests) in
    let stands : IsSome (map.get t.filesets x) = map.contains_key-keys t.filesets x ∙ there in
    let live = live_where_not_gone t x stands (oldest.first x lower) in
    let most = subst (λ o. IsSomeAnd o (λ n. x ≤ n)) next.is (next_at_least t g x (omega arith) lower live) in
    absurd (omega (arith, most, above)))))

-- a checkpoint that isn't gone is newer than the one that is, or older
pub live_place : (t : Table) (g fs : ℕ) → IsOldest t g → is_live t fs ≡ true → (fs < g) ⊎ (g < fs)
live_place t g fs oldest live = elim (cases_lt fs g) [
  | inl lower ↦ inl lower
  | inr ge ↦ elim (cases_lt g fs) [
    | inl more ↦ inr more
    | inr le ↦
        let same : fs ≡ g = omega arith in
        absurd (dead (subst (λ x. is_live t x ≡ true) same live))
  ]
]
  where
    dead : is_live t g ≡ true → ⊥
    dead live = true≢false (sym live ∙ gone_not_live t g oldest.gone)

-- ---- the three cases of what is taken over

pub taken_cases : (t : Table) (g : ℕ) (key : Key) (h : Held) (P : Option (ℕ × Held) → Type 0) → IsTable t → column t key g ≡ Some h
    → (next_older t g ≡ None → P None)
    → ((n : ℕ) (own : Held) → IsNextOlder t g n → column t key n ≡ Some own → P None)
    → ((n : ℕ) → IsNextOlder t g n → column t key n ≡ None → P (Some (n, pushed (keeps_data t n) (Some h))))
    → P (taken_of t g key)
taken_cases t g key h P lawful at alone covered bare =
    elim (next_older t g) as (λ o. next_older t g ≡ o → P (taken_into t g key o)) [
      | None ↦ λ is. alone is
      | Some n ↦ λ is.
          let next = next_is t g n lawful is in
          elim (column t key n) as (λ o. column t key n ≡ o → P (cond (is_some o) None (Some (n, pushed (keeps_data t n) (column t key g))))) [
            | Some own ↦ λ there. covered n own next there
            | None ↦ λ none. subst (λ o. P (Some (n, pushed (keeps_data t n) o))) (sym at) (bare n next none)
          ] refl
    ] refl
