-- Only where a fileset from the older checkpoint up to the newer one has an entry can the two differ.
use Rattle.std.proofs.Common.{◌≡◌, ℕ, ◌<◌, ◌≤◌, true, false, cond, List, [], ◌∷◌, ◌++◌, filter, Option, Some, None, is_some, IfSome, IsSome, refl, sym, ap, ◌∙◌, ◌⊎◌, inl, inr, arith}
use Rattle.std.specs.Option.{option_or}
use Rattle.std.specs.FinMap as map
use mathlib.Core.Bool.{false≢true}
use Rattle.std.proofs.lemmas.Bool.Decides.{nat_tests}
use Rattle.ck_model.specs.declared.key.Key.{Key}
use Rattle.ck_model.specs.declared.held.Held.{Held}
use Rattle.ck_model.specs.Table.{Table, newer, column}
use Rattle.ck_model.specs.Chain.{first_entry, present, value_of}
use Rattle.ck_chain.specs.Needless.{in_between}
use Rattle.ck_chain.proofs.NewerLaws.{newer_split}
use Rattle.ck_changed.specs.Difference.{values_differ, EntryBetween}

-- ---- the test

pub same_version : (x : Option Held) → values_differ x x ≡ false
same_version None = refl
same_version (Some x) = grind (arith, nat_tests)

pub no_difference : (x y : Option Held) → x ≡ y → values_differ x y ≡ false
no_difference x y same = ap (values_differ x) (sym same) ∙ same_version x

-- ---- the law

-- a fileset between has an entry, or the rest answers
either_first : (c : ℕ → Option Held) (low high : ℕ) (ids rest : List ℕ) → ((at : ℕ) × ((low < at) × ((at < high) × IsSome (c at)))) ⊎ (first_entry c (filter (in_between low high) ids ++ rest) ≡ first_entry c rest)
either_first c low high [] rest = inr refl
either_first c low high (x ∷ ids) rest =
    let ih = either_first c low high ids rest in
    elim (in_between low high x) as (λ v. in_between low high x ≡ v → ((at : ℕ) × ((low < at) × ((at < high) × IsSome (c at)))) ⊎ (first_entry c (cond v (x ∷ filter (in_between low high) ids) (filter (in_between low high) ids) ++ rest) ≡ first_entry c rest)) [
      | true ↦ λ h.
          let above : low < x = grind (arith, nat_tests) in
          let below : x < high = grind (arith, nat_tests) in
          elim (c x) as (λ o. c x ≡ o → ((at : ℕ) × ((low < at) × ((at < high) × IsSome (c at)))) ⊎ (option_or o (first_entry c (filter (in_between low high) ids ++ rest)) ≡ first_entry c rest)) [
            | None ↦ λ none. ih
            | Some held ↦ λ some. inl (x, (above, (below, ap is_some some)))
          ] refl
      | false ↦ λ h. ih
    ] refl

-- A key at which two checkpoints differ has an entry in a fileset from the older one up to the newer one.
pub differing_entry : (t : Table) (low high : ℕ) (q : Key) → low < high → IsSome (map.get t.filesets high) → values_differ (value_of t low q) (value_of t high q) ≡ true → EntryBetween t low high q
differing_entry t low high q lt stands differ =
    elim (column t q low) as (λ o. column t q low ≡ o → EntryBetween t low high q) [
      | Some held ↦ λ here. record { at = low; from = omega arith; below = lt; entry = ap is_some here }
      | None ↦ λ here. elim (either_first (column t q) low high (map.keys t.filesets) (high ∷ newer t high)) [
        | inl found ↦
            let above : low < found.0 = found.1.0 in
            record { at = found.0; from = omega (arith, above); below = found.1.1.0; entry = found.1.1.1 }
        | inr same ↦
            let value : value_of t low q ≡ value_of t high q =
            ap present (ap (λ o. option_or o (first_entry (column t q) (newer t low))) here ∙ ap (first_entry (column t q)) (newer_split t low high lt stands) ∙ same) in
            absurd (false≢true (sym (no_difference (value_of t low q) (value_of t high q) value) ∙ differ))
      ]
    ] refl

-- ---- where the filesets between end

none_in_front : (low high : ℕ) (ids rest tail : List ℕ) (id : ℕ) → filter (in_between low high) ids ++ rest ≡ id ∷ tail → high ≤ id → filter (in_between low high) ids ≡ []
none_in_front low high [] rest tail id is le = refl
none_in_front low high (x ∷ ids) rest tail id is le =
    elim (in_between low high x) as (λ v. in_between low high x ≡ v → cond v (x ∷ filter (in_between low high) ids) (filter (in_between low high) ids) ++ rest ≡ id ∷ tail → cond v (x ∷ filter (in_between low high) ids) (filter (in_between low high) ids) ≡ []) [
      | true ↦ λ h same. let below : x < high = grind (arith, nat_tests) in let head : x ≡ id = cc in absurd (omega (arith, below, head, le))
      | false ↦ λ h same. none_in_front low high ids rest tail id same le
    ] refl is

-- behind a lower number, the first that isn't below one that stands is that one
pub first_from : (t : Table) (at to id : ℕ) → at < to → IsSome (map.get t.filesets to) → newer t at ≡ id ∷ newer t id → to ≤ id → newer t at ≡ to ∷ newer t to
first_from t at to id lt stands is le =
    let split = newer_split t at to lt stands in
    split ∙ ap (λ (xs : List ℕ). xs ++ to ∷ newer t to) (none_in_front at to (map.keys t.filesets) (to ∷ newer t to) (newer t id) id (sym split ∙ is) le)

not_nothing : (xs : List ℕ) (y : ℕ) (ys : List ℕ) → xs ++ y ∷ ys ≡ [] → ⊥
not_nothing [] y ys h = cc
not_nothing (x ∷ xs) y ys h = cc

-- behind a lower number there is one
pub some_newer : (t : Table) (at to : ℕ) → at < to → IsSome (map.get t.filesets to) → newer t at ≡ [] → ⊥
some_newer t at to lt stands none = not_nothing (filter (in_between at to) (map.keys t.filesets)) to (newer t to) (sym (newer_split t at to lt stands) ∙ none)

-- where the first entries from the older checkpoint on are those from the newer one on, the two don't differ
pub alike_from : (t : Table) (older at newest : ℕ) (q : Key) → newer t at ≡ newest ∷ newer t newest
    → first_entry (column t q) (older ∷ newer t older) ≡ first_entry (column t q) (newer t at)
    → values_differ (value_of t older q) (value_of t newest q) ≡ false
alike_from t older at newest q is same =
    no_difference (value_of t older q) (value_of t newest q) (ap present (same ∙ ap (first_entry (column t q)) is))

-- an entry of a fileset between
pub entry_between : (t : Table) (older newest fs : ℕ) (next : Option Key) → older ≤ fs → fs < newest → IfSome next (λ k. IsSome (column t k fs)) → IfSome next (EntryBetween t older newest)
entry_between t older newest fs None low high entry = tt
entry_between t older newest fs (Some k) low high entry = record { at = fs; from = low; below = high; entry = entry }
