-- The first fileset that has an entry, and which absents are needed, after a table is changed at one key.
use Rattle.std.proofs.Common.{◌≡◌, ◌≢◌, ℕ, ◌<◌, ◌≤◌, true, false, cond, ◌&&◌, ◌||◌, not, ◌⊎◌, inl, inr, List, [], ◌∷◌, ◌++◌, filter, Option, Some, None, is_some, IsSome, IsSomeAnd, nat_lt, if◌then◌else◌, refl, sym, ap, subst, ◌∙◌, arith}
use Rattle.std.specs.Option.{option_or, option_map, option_map_or}
use Rattle.std.specs.List.{AllByRecursion, list_any}
use Rattle.std.specs.FinMap as map
use mathlib.Core.Bool.{false≢true}
use Rattle.std.proofs.lemmas.Bool.{cases_lt}
use Rattle.std.proofs.lemmas.Bool.Decides.{nat_tests}
use Rattle.ck_model.specs.declared.key.Key.{Key}
use Rattle.ck_model.specs.declared.held.Held.{Held}
use Rattle.ck_model.specs.declared.held.Held.TheVariants.{Absent, Plain, Extent, Mark}
use Rattle.ck_model.specs.Table.{Table, newer, column, with_entry, written}
use Rattle.ck_model.specs.Chain.{first_entry, present, is_live, is_gone, newest_live_of}
use Rattle.ck_model.specs.Rules.{first_holder, IsNeeded, IsOrderly}
use Rattle.ck_model.proofs.CaseLaws.{and_left, and_right, not_false}
use Rattle.ck_chain.specs.Needless.{is_absent, says_nothing, is_needless, tidied, Says, FirstAbove, in_between}
use Rattle.ck_chain.proofs.NewerLaws.{newer_split}
use Rattle.ck_chain.proofs.ColumnLaws.{column-with_entry, column-with_entry_other, same_or_other}
use Rattle.ck_chain.proofs.ReadLaws.{each_above, live_stands, newest_at_least}
use Rattle.ck_chain.proofs.OrderlyLaws.{orderly_without}

says_at : (t : Table) (g : ℕ) (held : Held) → (is_absent (Some held) && not (is_gone t g)) ≡ false → (is_gone t g ≡ true) ⊎ (held ≢ Absent)
says_at t g Absent h = inl (not_false (is_gone t g) h)
says_at t g (Plain stamp small) h = inr (λ e. cc)
says_at t g (Extent stamp block) h = inr (λ e. cc)
says_at t g (Mark stamp) h = inr (λ e. cc)

-- what doesn't say nothing says something
pub says_unless : (t : Table) (holder : Option (ℕ × Held)) → says_nothing t holder ≡ false → Says t holder
says_unless t None h = cc
says_unless t (Some holder) h = says_at t holder.0 holder.1 h

-- the first entry is that of the first holder
pub entry_of_holder : (c : ℕ → Option Held) (ids : List ℕ) → first_entry c ids ≡ option_map (λ (h : ℕ × Held). h.1) (first_holder c ids)
entry_of_holder c [] = elim (c 0) as (λ o. o ≡ option_map (λ (h : ℕ × Held). h.1) (option_map (λ entry. (0, entry)) o)) [ None ↦ refl | Some h ↦ refl ]
entry_of_holder c (x ∷ ids) =
    let rest = entry_of_holder c ids in
    elim (c x) as (λ o. option_or o (first_entry c ids) ≡ option_map (λ (h : ℕ × Held). h.1) (option_or (option_map (λ entry. (x, entry)) o) (first_holder c ids))) [ None ↦ rest | Some h ↦ refl ]

silent : (t : Table) (g : ℕ) (held : Held) → (is_absent (Some held) && not (is_gone t g)) ≡ true → present (Some held) ≡ None
silent t g Absent h = refl
silent t g (Plain stamp small) h = cc
silent t g (Extent stamp block) h = cc
silent t g (Mark stamp) h = cc

-- where it says nothing, a reader finds no cell
pub nothing_there : (t : Table) (holder : Option (ℕ × Held)) → says_nothing t holder ≡ true → present (option_map (λ (h : ℕ × Held). h.1) holder) ≡ None
nothing_there t None h = refl
nothing_there t (Some holder) h = silent t holder.0 holder.1 h

absent_is : (held : Option Held) → is_absent held ≡ true → held ≡ Some Absent
absent_is None h = cc
absent_is (Some Absent) h = refl
absent_is (Some (Plain stamp small)) h = cc
absent_is (Some (Extent stamp block)) h = cc
absent_is (Some (Mark stamp)) h = cc

-- a needless entry is an absent
pub needless_absent : (t : Table) (fs : ℕ) (key : Key) → is_needless t fs key ≡ true → column t key fs ≡ Some Absent
needless_absent t fs key h = absent_is (column t key fs) (and_left (is_absent (column t key fs)) _ h)

-- and a reader of the newer filesets finds no cell either
pub needless_same : (t : Table) (fs : ℕ) (key : Key) → is_needless t fs key ≡ true → present (column t key fs) ≡ present (first_entry (column t key) (newer t fs))
needless_same t fs key h =
    ap present (needless_absent t fs key h)
    ∙ sym (ap present (entry_of_holder (column t key) (newer t fs)) ∙ nothing_there t (first_holder (column t key) (newer t fs)) (and_right (is_absent (column t key fs)) _ h))

-- an absent that isn't needless is needed
pub needed_unless : (t : Table) (fs : ℕ) (key : Key) → is_needless t fs key ≡ false → column t key fs ≡ Some Absent → IsNeeded t key fs
needed_unless t fs key h at = says_unless t (first_holder (column t key) (newer t fs)) (sym (ap (λ o. is_absent o && says_nothing t (first_holder (column t key) (newer t fs))) at) ∙ h)

-- where the columns agree at these filesets and in the primary, the first holders do
pub same_holder : (c d : ℕ → Option Held) (ids : List ℕ) → d 0 ≡ c 0 → AllByRecursion (λ x. d x ≡ c x) ids → first_holder d ids ≡ first_holder c ids
same_holder c d [] primary same = ap (option_map (λ entry. (0, entry))) primary
same_holder c d (x ∷ ids) primary same = λ i. option_or (option_map (λ entry. (x, entry)) (same.0 i)) (same_holder c d ids primary same.1 i)

-- filesets before the changed one have the same first holder, or the rest has it
before_holder : (P : Option (ℕ × Held) → Type 0) (c d : ℕ → Option Held) (fs f : ℕ) (ids rest : List ℕ) → ((x : ℕ) → fs < x → x < f → d x ≡ c x)
    → (P (first_holder c rest) → P (first_holder d rest))
    → P (first_holder c (filter (in_between fs f) ids ++ rest)) → P (first_holder d (filter (in_between fs f) ids ++ rest))
before_holder P c d fs f [] rest same tail h = tail h
before_holder P c d fs f (x ∷ ids) rest same tail h =
    let ih : P (first_holder c (filter (in_between fs f) ids ++ rest)) → P (first_holder d (filter (in_between fs f) ids ++ rest)) = before_holder P c d fs f ids rest same tail in
    elim (in_between fs f x) as (λ v. in_between fs f x ≡ v → P (first_holder c (cond v (x ∷ filter (in_between fs f) ids) (filter (in_between fs f) ids) ++ rest)) → P (first_holder d (cond v (x ∷ filter (in_between fs f) ids) (filter (in_between fs f) ids) ++ rest))) [
      | true ↦ λ is was.
          let low : fs < x = grind (arith, nat_tests) in
          let high : x < f = grind (arith, nat_tests) in
          let here = same x low high in
          subst (λ o. P (option_or (option_map (λ entry. (x, entry)) o) (first_holder d (filter (in_between fs f) ids ++ rest)))) (sym here) (
          elim (c x) as (λ o. P (option_or (option_map (λ entry. (x, entry)) o) (first_holder c (filter (in_between fs f) ids ++ rest))) → P (option_or (option_map (λ entry. (x, entry)) o) (first_holder d (filter (in_between fs f) ids ++ rest)))) [ None ↦ ih | Some held ↦ λ p. p ] was)
      | false ↦ λ is was. ih was
    ] refl h

-- an older fileset's next newer entry says something still, if no column between changed and the rest says something still
pub says_still : (t : Table) (d : ℕ → Option Held) (key : Key) (fs f : ℕ) → fs < f → IsSome (map.get t.filesets f)
    → ((x : ℕ) → fs < x → x < f → d x ≡ column t key x)
    → (Says t (first_holder (column t key) (f ∷ newer t f)) → Says t (first_holder d (f ∷ newer t f)))
    → Says t (first_holder (column t key) (newer t fs)) → Says t (first_holder d (newer t fs))
says_still t d key fs f lt stands same tail says =
    let split = newer_split t fs f lt stands in
    subst (λ ids. Says t (first_holder d ids)) (sym split) (
    before_holder (Says t) (column t key) d fs f (map.keys t.filesets) (f ∷ newer t f) same tail (subst (λ ids. Says t (first_holder (column t key) ids)) split says))

live_not_gone : (t : Table) (f : ℕ) → is_live t f ≡ true → is_gone t f ≡ true → ⊥
live_not_gone t f live gone = elim (map.get t.filesets f) as (λ o. option_map_or (λ fileset. not fileset.gone) o false ≡ true → option_map_or (λ fileset. fileset.gone) o false ≡ true → ⊥) [
  | None ↦ λ l g. false≢true l
  | Some fileset ↦ λ l g. false≢true (ap not (sym g) ∙ l)
] live gone

-- an absent of a checkpoint that isn't gone may go: what is needed elsewhere still is
pub needed_without : (t : Table) (f : ℕ) (key : Key) → 0 < f → is_live t f ≡ true → column t key f ≡ Some Absent
    → (fs : ℕ) (q : Key) → IsNeeded t q fs → IsNeeded (with_entry t f key None) q fs
needed_without t f key positive live at fs q needed = elim (same_or_other q key) [
  | inr other ↦ subst (λ (c : ℕ → Option Held). Says t (first_holder c (newer t fs))) (sym (column-with_entry_other t f key None q other)) needed
  | inl same ↦
      let d = column (with_entry t f key None) key in
      let agrees : (x : ℕ) → x ≢ f → d x ≡ column t key x = λ x apart. column-with_entry t f key None x ∙ grind (arith, nat_tests) in
      let was : Says t (first_holder (column t key) (newer t fs)) = subst (λ k. IsNeeded t k fs) same needed in
      let at_key : IsNeeded (with_entry t f key None) key fs = elim (cases_lt fs f) [
        | inl lt ↦ says_still t d key fs f lt (live_stands t f live) (λ x low high. agrees x (omega arith))
            (λ says. let wrong = subst (λ o. Says t (option_or (option_map (λ entry. (f, entry)) o) (first_holder (column t key) (newer t f)))) at says in
            elim wrong [ inl gone ↦ absurd (live_not_gone t f live gone) | inr differs ↦ absurd (differs refl) ]) was
        | inr le ↦ subst (Says t) (sym (same_holder (column t key) d (newer t fs) (agrees 0 (omega arith)) (each_above (λ x. d x ≡ column t key x) fs (map.keys t.filesets) (λ x more. agrees x (omega arith))))) was
      ] in
      subst (λ k. IsNeeded (with_entry t f key None) k fs) (sym same) at_key
]

-- tidying keeps what is needed
pub needed_tidied : (t : Table) (f : ℕ) (key : Key) → 0 < f → is_live t f ≡ true → (fs : ℕ) (q : Key) → IsNeeded t q fs → IsNeeded (tidied t f key) q fs
needed_tidied t f key positive live fs q needed =
    elim (is_needless t f key) as (λ b. is_needless t f key ≡ b → IsNeeded (record t { entries = if b then written t.entries f key None else t.entries }) q fs) [
      | true ↦ λ h. needed_without t f key positive live (needless_absent t f key h) fs q needed
      | false ↦ λ h. needed
    ] refl

-- an absent that is left where it was tidied is needed
pub needed_here : (t : Table) (f : ℕ) (key : Key) → column (tidied t f key) key f ≡ Some Absent → IsNeeded (tidied t f key) key f
needed_here t f key =
    elim (is_needless t f key) as (λ b. is_needless t f key ≡ b → column (record t { entries = if b then written t.entries f key None else t.entries }) key f ≡ Some Absent → IsNeeded (record t { entries = if b then written t.entries f key None else t.entries }) key f) [
      | true ↦ λ h at. let none : column (with_entry t f key None) key f ≡ None = column-with_entry t f key None f ∙ grind (arith, nat_tests) in let wrong = sym none ∙ at in cc
      | false ↦ λ h at. needed_unless t f key h at
    ] refl

-- the rules but the one on absents stay
pub orderly_tidied : (t : Table) (f : ℕ) (key : Key) → IsOrderly t → IsOrderly (tidied t f key)
orderly_tidied t f key is =
    elim (is_needless t f key) as (λ b. IsOrderly (record t { entries = if b then written t.entries f key None else t.entries })) [
      | true ↦ orderly_without t f key is
      | false ↦ is
    ]

-- where no fileset of the list has an entry, the first holder is the primary
pub none_holder : (c : ℕ → Option Held) (ids : List ℕ) → list_any (λ id. is_some (c id)) ids ≡ false → first_holder c ids ≡ option_map (λ entry. (0, entry)) (c 0)
none_holder c [] h = refl
none_holder c (x ∷ ids) h =
    elim (c x) as (λ o. (is_some o || list_any (λ id. is_some (c id)) ids) ≡ false → option_or (option_map (λ entry. (x, entry)) o) (first_holder c ids) ≡ option_map (λ entry. (0, entry)) (c 0)) [
      | None ↦ λ h. none_holder c ids h
      | Some held ↦ λ h. cc
    ] h

-- where one has, the primary doesn't matter
pub some_holder : (c d : ℕ → Option Held) (ids : List ℕ) → list_any (λ id. is_some (c id)) ids ≡ true → AllByRecursion (λ x. d x ≡ c x) ids → first_holder d ids ≡ first_holder c ids
some_holder c d [] h same = cc
some_holder c d (x ∷ ids) h same =
    ap (λ o. option_or (option_map (λ entry. (x, entry)) o) (first_holder d ids)) same.0
    ∙ elim (c x) as (λ o. (is_some o || list_any (λ id. is_some (c id)) ids) ≡ true → option_or (option_map (λ entry. (x, entry)) o) (first_holder d ids) ≡ option_or (option_map (λ entry. (x, entry)) o) (first_holder c ids)) [
      | None ↦ λ h. some_holder c d ids h same.1
      | Some held ↦ λ h. refl
    ] h

pub holder_above : (c : ℕ → Option Held) (fs : ℕ) (ids : List ℕ) → list_any (λ id. is_some (c id)) (filter (λ id. nat_lt fs id) ids) ≡ true → FirstAbove c fs (first_holder c (filter (λ id. nat_lt fs id) ids))
holder_above c fs [] h = absurd (false≢true h)
holder_above c fs (x ∷ ids) h =
    elim (nat_lt fs x) as (λ b. nat_lt fs x ≡ b → list_any (λ id. is_some (c id)) (cond b (x ∷ filter (λ id. nat_lt fs id) ids) (filter (λ id. nat_lt fs id) ids)) ≡ true → FirstAbove c fs (first_holder c (cond b (x ∷ filter (λ id. nat_lt fs id) ids) (filter (λ id. nat_lt fs id) ids)))) [
      | true ↦ λ above some.
          let more : fs < x = grind (arith, nat_tests) in
          elim (c x) as (λ o. c x ≡ o → (is_some o || list_any (λ id. is_some (c id)) (filter (λ id. nat_lt fs id) ids)) ≡ true → FirstAbove c fs (option_or (option_map (λ entry. (x, entry)) o) (first_holder c (filter (λ id. nat_lt fs id) ids)))) [
            | Some held ↦ λ has some. record { at = x; held = held; more = more; has = has; is = refl }
            | None ↦ λ has some. holder_above c fs ids some
          ] refl some
      | false ↦ λ above some. holder_above c fs ids some
    ] refl h

-- a checkpoint of the table that isn't live is gone
pub dead_gone : (t : Table) (fs : ℕ) → IsSome (map.get t.filesets fs) → is_live t fs ≡ false → is_gone t fs ≡ true
dead_gone t fs stands dead = elim (map.get t.filesets fs) as (λ o. IsSome o → option_map_or (λ fileset. not fileset.gone) o false ≡ false → option_map_or (λ fileset. fileset.gone) o false ≡ true) [
  | None ↦ λ s d. s
  | Some fileset ↦ λ s d. not_false fileset.gone d
] stands dead

-- a checkpoint newer than the newest one that isn't gone is gone, if it has an entry
pub gone_above : (t : Table) (n fs : ℕ) (key : Key) → IsOrderly t → newest_live_of t ≡ Some n → 0 < n → n < fs → IsSome (column t key fs) → is_gone t fs ≡ true
gone_above t n fs key is newest above more some = elim (is.homes fs key some) [
  | inl zero ↦ absurd (omega arith)
  | inr stands ↦
      elim (is_live t fs) as (λ b. is_live t fs ≡ b → is_gone t fs ≡ true) [
        | true ↦ λ live. let least = subst (λ o. IsSomeAnd o (λ m. fs ≤ m)) newest (newest_at_least t fs (omega arith) live) in absurd (omega arith)
        | false ↦ λ dead. dead_gone t fs stands dead
      ] refl
]
