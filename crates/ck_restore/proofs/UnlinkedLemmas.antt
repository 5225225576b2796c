-- The newest fileset's record is taken away once it has no entry any more.
use Rattle.std.proofs.Common.{◌≡◌, ◌≢◌, ◌⊎◌, ℕ, ◌-◌, ◌<◌, ◌≤◌, Bool, true, false, cond, not, ◌&&◌, ◌||◌, inl, inr, List, [], ◌∷◌, length, filter, Option, Some, None, is_some, IsSome, IsSomeAnd, nat_eq, nat_le, nat_lt, refl, sym, ap, subst, ◌∙◌, arith}
use Rattle.std.specs.Ordering.{nat_cmp}
use Rattle.std.specs.List.{list_any}
use Rattle.std.specs.Option.{option_or, option_map, option_map_or}
use Rattle.std.specs.FinMap as map
use Rattle.std.proofs.lemmas.Cmp.{nat_cmp_total}
use Rattle.std.proofs.lemmas.Bool.{and_from, eqb-true, false≢true, false_from_ne_true, le-leb, lt-ltb, or_left, or_right}
use Rattle.std.proofs.lemmas.Bool.Decides.{nat_tests}
use Rattle.ck_model.specs.declared.key.Key.{Key}
use Rattle.ck_model.specs.declared.held.Held.{Held}
use Rattle.ck_model.specs.declared.held.Held.TheVariants.{Absent}
use Rattle.ck_model.specs.declared.checkpoint.Fileset.{Fileset}
use Rattle.ck_model.specs.World.{keeps_files}
use Rattle.ck_model.specs.Table.{Table, IsTable, column, newer, with_fileset}
use Rattle.ck_model.specs.Chain.{is_gone, is_live, is_live_data, keeps_data, live_ids}
use Rattle.ck_model.specs.Rules.{IsOrderly, first_holder}
use Rattle.ck_model.proofs.CaseLaws.{none_some}
use Rattle.ck_chain.proofs.OrderlyLaws.{positive_id}
use Rattle.ck_table.proofs.IdLaws.{get-recorded, get-recorded_other, is_other, newer-has}
use Rattle.ck_table.proofs.WithoutLaws.{IsWithout, any-others, filter-others, holder-without, newer-without, seen-without}
use Rattle.ck_restore.specs.Older.{LeavesOlder, OlderNeeded}

-- a data checkpoint that isn't gone keeps data
passes_among : (test : ℕ → Bool) (x : ℕ) → test x ≡ true → (ids : List ℕ) → list_any (nat_eq x) ids ≡ true → list_any test ids ≡ true
passes_among test x passes [] there = there
passes_among test x passes (y ∷ ids) there =
    elim (nat_eq x y) as (λ b. nat_eq x y ≡ b → (b || list_any (nat_eq x) ids) ≡ true → (test y || list_any test ids) ≡ true) [
      | true ↦ λ same _. or_left (test y) (list_any test ids) (sym (ap test (eqb-true x y same)) ∙ passes)
      | false ↦ λ _ behind. or_right (test y) (list_any test ids) (passes_among test x passes ids behind)
    ] refl there

pub data_stands : (t : Table) (fs : ℕ) → is_live_data t fs ≡ true → IsSome (map.get t.filesets fs)
data_stands t fs live = elim (map.get t.filesets fs) as (λ o. option_map_or (λ (f : Fileset). not f.gone && keeps_files f.kind) o false ≡ true → IsSome o) [ None ↦ λ h. h | Some f ↦ λ _. refl ] live

pub own_data : (t : Table) (fs : ℕ) → IsTable t → is_live_data t fs ≡ true → keeps_data t fs ≡ true
own_data t fs lawful live =
    let stands = data_stands t fs live in
    let least = positive_id t fs lawful stands in
    passes_among (λ id. nat_le id fs && is_live_data t id) fs (and_from (nat_le fs fs) (is_live_data t fs) (le-leb fs fs (omega arith)) live) (newer t 0)
    (newer-has t 0 fs ∙ and_from (nat_lt 0 fs) (is_some (map.get t.filesets fs)) (lt-ltb 0 fs (omega arith)) stands)

-- what holds of the first holder's entry because it stands
says_still : (c : ℕ → Option Held) (P Q : ℕ × Held → Type 0) → ((x : ℕ) (held : Held) → c x ≡ Some held → P (x, held) → Q (x, held)) → (ids : List ℕ) → IsSomeAnd (first_holder c ids) P → IsSomeAnd (first_holder c ids) Q
says_still c P Q step [] = elim (c 0) as (λ o. c 0 ≡ o → IsSomeAnd (option_map (λ entry. (0, entry)) o) P → IsSomeAnd (option_map (λ entry. (0, entry)) o) Q) [
  | None ↦ λ _ h. h
  | Some held ↦ λ is h. step 0 held is h
] refl
says_still c P Q step (x ∷ ids) =
    let rest = says_still c P Q step ids in
    elim (c x) as (λ o. c x ≡ o → IsSomeAnd (option_or (option_map (λ entry. (x, entry)) o) (first_holder c ids)) P → IsSomeAnd (option_or (option_map (λ entry. (x, entry)) o) (first_holder c ids)) Q) [
      | None ↦ λ _ h. rest h
      | Some held ↦ λ is h. step x held is h
    ] refl

fewer_pass : (p q : ℕ → Bool) (ids : List ℕ) → length (filter p (filter q ids)) ≤ length (filter p ids)
fewer_pass p q [] = omega arith
fewer_pass p q (x ∷ ids) =
    let rest = fewer_pass p q ids in
    elim (q x) as (λ b. length (filter p (cond b (x ∷ filter q ids) (filter q ids))) ≤ length (filter p (x ∷ ids))) [
      | true ↦ elim (p x) as (λ b. length (cond b (x ∷ filter p (filter q ids)) (filter p (filter q ids))) ≤ length (cond b (x ∷ filter p ids) (filter p ids))) [ true ↦ omega (arith, rest) | false ↦ omega (arith, rest) ]
      | false ↦ elim (p x) as (λ b. length (filter p (filter q ids)) ≤ length (cond b (x ∷ filter p ids) (filter p ids))) [ true ↦ omega (arith, rest) | false ↦ omega (arith, rest) ]
    ]

none_pass : (p q : ℕ → Bool) (ids : List ℕ) → list_any p ids ≡ false → list_any p (filter q ids) ≡ false
none_pass p q [] h = h
none_pass p q (x ∷ ids) h =
    let parts = neither (p x) (list_any p ids) h in
    let rest = none_pass p q ids parts.1 in
    elim (q x) as (λ b. list_any p (cond b (x ∷ filter q ids) (filter q ids)) ≡ false) [
      | true ↦ (λ i. parts.0 i || rest i)
      | false ↦ rest
    ]
  where
    neither : (a b : Bool) → (a || b) ≡ false → (a ≡ false) × (b ≡ false)
    neither true b h = cc
    neither false b h = (refl, h)

module _ (t : Table) (g : ℕ) (stands : IsSome (map.get t.filesets g)) (empty : (key : Key) → column t key g ≡ None) where
  abbrev u : Table
  u = with_fileset t g None

  without : IsWithout t u g
  without = record { entries = refl; filesets = refl; empty = empty }

  differs : (x : ℕ) → x ≢ g → nat_eq x g ≡ false
  differs x apart = false_from_ne_true (nat_eq x g) (λ e. apart (eqb-true x g e))

  same_record : (x : ℕ) → x ≢ g → map.get u.filesets x ≡ map.get t.filesets x
  same_record x apart = get-recorded_other t.filesets g None x (differs x apart)

  pub fewer_filesets : map.len u.filesets < map.len t.filesets
  fewer_filesets =
      let less = map.len-remove nat_cmp_total t.filesets g ∙ ap (λ b. cond b (map.len t.filesets - 1) (map.len t.filesets)) stands in
      let some : map.len t.filesets ≢ 0 = λ none. false≢true (sym (ap is_some (ap (λ (m : map.FinMap nat_cmp Fileset). map.get m g) (map.empty_of_len t.filesets none) ∙ map.get-empty nat_cmp g)) ∙ stands) in
      omega (arith, less, some)

  pub unlinked_older : (id : ℕ) → id < g → LeavesOlder id t u
  unlinked_older id lower = record {
    seen = λ fs key live le.
        let past : nat_le g fs ≡ false = grind (arith, nat_tests) in
        seen-without t u g without fs key (ap (λ b. b && is_live_data t g) past);
    filesets = λ fs le. same_record fs (λ e. absurd (omega arith));
    counters = refl;
    blocks = refl;
    limit = refl;
    records = let fewer = fewer_filesets in omega (arith, fewer);
  }

  stood : (x : ℕ) (f : Fileset) → map.get u.filesets x ≡ Some f → map.get t.filesets x ≡ Some f
  stood x f is = elim (nat_eq x g) as (λ b. cond b None (map.get t.filesets x) ≡ Some f → map.get t.filesets x ≡ Some f) [
    | true ↦ λ h. absurd (none_some f h)
    | false ↦ λ h. h
  ] (sym (get-recorded t.filesets g None x) ∙ is)

  -- one with an entry is another
  other_one : (x : ℕ) (key : Key) → IsSome (column t key x) → x ≢ g
  other_one x key some same = false≢true (sym (ap is_some (ap (column t key) same ∙ empty key)) ∙ some)

  was_live : (x : ℕ) → is_live u x ≡ true → is_live t x ≡ true
  was_live x live = elim (nat_eq x g) as (λ b. option_map_or (λ (f : Fileset). not f.gone) (cond b None (map.get t.filesets x)) false ≡ true → is_live t x ≡ true) [
    | true ↦ λ h. absurd (false≢true h)
    | false ↦ λ h. h
  ] (sym (ap (λ o. option_map_or (λ (f : Fileset). not f.gone) o false) (get-recorded t.filesets g None x)) ∙ live)

  no_data : (fs : ℕ) → keeps_data t fs ≡ false → keeps_data u fs ≡ false
  no_data fs none =
      let in_t : ℕ → Bool = λ x. nat_le x fs && is_live_data t x in
      let in_u : ℕ → Bool = λ x. nat_le x fs && is_live_data u x in
      let same : (x : ℕ) → nat_eq x g ≡ false → in_u x ≡ in_t x = λ x apart.
      ap (λ o. nat_le x fs && option_map_or (λ (f : Fileset). not f.gone && keeps_files f.kind) o false) (get-recorded_other t.filesets g None x apart) in
      ap (list_any in_u) (newer-without t u g without 0) ∙ any-others in_u in_t g same (newer t 0) ∙ none_pass in_t (is_other g) (newer t 0) none

  fewer_live : length (live_ids u) ≤ length (live_ids t)
  fewer_live =
      let ids : live_ids u ≡ filter (is_live t) (filter (is_other g) (newer t 0)) =
      ap (filter (is_live u)) (newer-without t u g without 0)
      ∙ filter-others (is_live u) (is_live t) g (λ x apart. ap (λ o. option_map_or (λ (f : Fileset). not f.gone) o false) (get-recorded_other t.filesets g None x apart)) (newer t 0) in
      let as_many = ap length ids in
      let fewer = fewer_pass (is_live t) (is_other g) (newer t 0) in
      omega (arith, as_many, fewer)

  -- the rules but the one on absents stay
  pub unlinked_orderly : IsOrderly t → IsOrderly u
  unlinked_orderly is = record {
    names = λ a b f h is_a is_b live_a live_b same. is.names a b f h (stood a f is_a) (stood b h is_b) live_a live_b same;
    ids = λ x some. elim (map.get u.filesets x) as (λ o. map.get u.filesets x ≡ o → IsSome o → x < t.counters.id) [
      | None ↦ λ _ h. absurd (false≢true h)
      | Some f ↦ λ there _. is.ids x (ap is_some (stood x f there))
    ] refl some;
    live = let fewer = fewer_live in let before = is.live in omega (arith, fewer, before);
    homes = λ fs key some. elim (is.homes fs key some) [
      | inl zero ↦ inl zero
      | inr there ↦ inr (ap is_some (same_record fs (other_one fs key some)) ∙ there)
    ];
    stamps = is.stamps;
    numbers = is.numbers;
    blocks = is.blocks;
    unshared = is.unshared;
    primary = is.primary;
    marks = λ fs key stamp at. no_data fs (is.marks fs key stamp at);
    versions = is.versions;
  }

  -- an absent that is needed stays so
  pub unlinked_needed : (id : ℕ) → OlderNeeded t id → OlderNeeded u id
  unlinked_needed id needed fs key live lower absent =
      subst (λ o. IsSomeAnd o (λ holder. (is_gone u holder.0 ≡ true) ⊎ (holder.1 ≢ Absent))) (sym (holder-without t u g without fs key)) (
      says_still (column t key) (λ holder. (is_gone t holder.0 ≡ true) ⊎ (holder.1 ≢ Absent)) (λ holder. (is_gone u holder.0 ≡ true) ⊎ (holder.1 ≢ Absent))
      (λ x held there says. elim says [
        | inl gone ↦ inl (ap (λ o. option_map_or (λ (f : Fileset). f.gone) o false) (same_record x (other_one x key (ap is_some there))) ∙ gone)
        | inr differs ↦ inr differs
      ])
      (newer t fs) (needed fs key (was_live fs live) lower absent))
