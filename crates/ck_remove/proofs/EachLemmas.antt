-- What tidying several checkpoints at a key leaves as it was.
use Rattle.std.proofs.Common.{◌≡◌, ℕ, ◌<◌, ◌≤◌, true, false, inl, inr, List, [], ◌∷◌, Some, IsSome, refl, sym, ap, ◌∙◌, arith}
use Rattle.std.specs.List.{AllByRecursion}
use Rattle.std.specs.FinMap as map
use Rattle.std.proofs.lemmas.Bool.{true≢false}
use Rattle.ck_model.specs.declared.key.Key.{Key}
use Rattle.ck_model.specs.declared.held.Held.TheVariants.{Absent}
use Rattle.ck_model.specs.Table.{Table, column, record_count}
use Rattle.ck_model.specs.Chain.{is_live, seen}
use Rattle.ck_model.specs.Rules.{IsNeeded, IsOrderly}
use Rattle.ck_chain.specs.Named.{IsNamed}
use Rattle.ck_chain.specs.Needless.{tidied}
use Rattle.ck_model.proofs.CaseLaws.{none_some}
use Rattle.ck_chain.proofs.ReadLaws.{live_stands}
use Rattle.ck_chain.proofs.HolderLaws.{needed_here, needed_tidied, orderly_tidied}
use Rattle.ck_chain.proofs.TidyLaws.{column-tidied, tidied_primary, tidied_reads, tidied_shrinks}
use Rattle.ck_chain.proofs.NameLaws.{named_before_tidied, named_tidied}
use Rattle.ck_remove.specs.Removal.{tidied_each}
use Rattle.ck_remove.proofs.ListLemmas.{all_map}

-- none of these is gone
abbrev pub AllLive : Table → List ℕ → Type 0
AllLive t ids = AllByRecursion (λ id. is_live t id ≡ true) ids

-- the ids of the table's checkpoints are at least 1
abbrev pub IdsPositive : Table → Type 0
IdsPositive t = (id : ℕ) → IsSome (map.get t.filesets id) → 1 ≤ id

pub each_orderly : (u : Table) (key : Key) (ids : List ℕ) → IsOrderly u → IsOrderly (tidied_each u key ids)
each_orderly u key [] is = is
each_orderly u key (f ∷ ids) is = orderly_tidied (tidied_each u key ids) f key (each_orderly u key ids is)

pub each_seen : (u : Table) (key : Key) (ids : List ℕ) → IdsPositive u → AllLive u ids → (fs : ℕ) (q : Key) → 0 < fs → seen (tidied_each u key ids) fs q ≡ seen u fs q
each_seen u key [] positive live fs q above = refl
each_seen u key (f ∷ ids) positive live fs q above =
    let stands = live_stands u f live.0 in
    tidied_reads (tidied_each u key ids) f key (positive f stands) stands fs q above
    ∙ each_seen u key ids positive live.1 fs q above

pub each_primary : (u : Table) (key : Key) (ids : List ℕ) → IdsPositive u → AllLive u ids → (q : Key) → column (tidied_each u key ids) q 0 ≡ column u q 0
each_primary u key [] positive live q = refl
each_primary u key (f ∷ ids) positive live q =
    tidied_primary (tidied_each u key ids) f key (positive f (live_stands u f live.0)) q
    ∙ each_primary u key ids positive live.1 q

pub each_shrinks : (u : Table) (key : Key) (ids : List ℕ) → record_count (tidied_each u key ids) ≤ record_count u
each_shrinks u key [] = omega arith
each_shrinks u key (f ∷ ids) =
    let last = tidied_shrinks (tidied_each u key ids) f key in
    let before = each_shrinks u key ids in
    omega (arith, last, before)

pub each_named : (u : Table) (key : Key) (ids : List ℕ) (block : ℕ) → IsNamed (tidied_each u key ids) block → IsNamed u block
each_named u key [] block named = named
each_named u key (f ∷ ids) block named = each_named u key ids block (named_tidied (tidied_each u key ids) f key block named)

pub named_each : (u : Table) (key : Key) (ids : List ℕ) (block : ℕ) → IsNamed u block → IsNamed (tidied_each u key ids) block
named_each u key [] block named = named
named_each u key (f ∷ ids) block named = named_before_tidied (tidied_each u key ids) f key block (named_each u key ids block named)

-- the entries of a fileset that isn't live
pub each_column : (u : Table) (key : Key) (ids : List ℕ) → AllLive u ids → (fs : ℕ) → is_live u fs ≡ false → (q : Key) → column (tidied_each u key ids) q fs ≡ column u q fs
each_column u key [] live fs dead q = refl
each_column u key (f ∷ ids) live fs dead q =
    elim (column-tidied (tidied_each u key ids) f key fs q) [
      | inl same ↦ same ∙ each_column u key ids live.1 fs dead q
      | inr gone ↦ absurd (true≢false (sym live.0 ∙ ap (is_live u) (sym gone.0) ∙ dead))
    ]

-- ---- the absents that are needed

-- an absent there is needed
abbrev pub NeededAt : Table → Key → ℕ → Type 0
NeededAt t key fs = column t key fs ≡ Some Absent → IsNeeded t key fs

still_needed : (u : Table) (f : ℕ) (key : Key) → IdsPositive u → is_live u f ≡ true → (q : Key) (fs : ℕ) → NeededAt u q fs → NeededAt (tidied u f key) q fs
still_needed u f key positive live q fs before at =
    elim (column-tidied u f key fs q) [
      | inl same ↦ needed_tidied u f key (positive f (live_stands u f live)) live fs q (before (sym same ∙ at))
      | inr gone ↦ absurd (none_some Absent (sym gone.3 ∙ at))
    ]

pub each_needed : (u : Table) (key : Key) (ids : List ℕ) → IdsPositive u → AllLive u ids → (q : Key) (fs : ℕ) → NeededAt u q fs → NeededAt (tidied_each u key ids) q fs
each_needed u key [] positive live q fs before = before
each_needed u key (f ∷ ids) positive live q fs before = still_needed (tidied_each u key ids) f key positive live.0 q fs (each_needed u key ids positive live.1 q fs before)

-- those that are left where it was tidied
pub each_here : (u : Table) (key : Key) (ids : List ℕ) → IdsPositive u → AllLive u ids → AllByRecursion (NeededAt (tidied_each u key ids) key) ids
each_here u key [] positive live = tt
each_here u key (f ∷ ids) positive live =
    let w = tidied_each u key ids in
    (needed_here w f key, all_map (NeededAt w key) (NeededAt (tidied w f key) key) (λ fs before. still_needed w f key positive live.0 key fs before) ids (each_here u key ids positive live.1))
