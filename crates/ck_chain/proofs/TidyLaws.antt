-- What tidying a checkpoint at a key leaves as it was.
use Rattle.std.proofs.Common.{◌≡◌, ◌↔◌, ℕ, ◌+◌, ◌<◌, ◌≤◌, true, false, cond, ◌⊎◌, inl, inr, Option, Some, None, is_some, IsSome, nat_eq, if◌then◌else◌, refl, sym, ap, ◌∙◌, arith}
use Rattle.std.specs.FinMap as map
use Rattle.std.proofs.lemmas.Bool.Decides.{nat_tests}
use Rattle.ck_model.specs.declared.key.Key.{Key}
use Rattle.ck_model.specs.declared.held.Held.{Held}
use Rattle.ck_model.specs.declared.held.Held.TheVariants.{Absent, Extent}
use Rattle.ck_model.specs.Table.{Table, column, with_entry, written, record_count}
use Rattle.ck_model.specs.Chain.{seen}
use Rattle.ck_chain.specs.Needless.{is_needless, tidied}
use Rattle.ck_chain.proofs.ColumnLaws.{column-with_entry, column-with_entry_other, same_or_other}
use Rattle.ck_chain.proofs.ReadLaws.{tidy_reads}
use Rattle.ck_chain.proofs.CountLaws.{record_count-with_entry}
use Rattle.ck_chain.proofs.HolderLaws.{needless_absent, needless_same}

-- what every checkpoint's reader sees
pub tidied_reads : (t : Table) (f : ℕ) (key : Key) → 0 < f → IsSome (map.get t.filesets f) → (fs : ℕ) (q : Key) → 0 < fs → seen (tidied t f key) fs q ≡ seen t fs q
tidied_reads t f key positive stands fs q above =
    elim (is_needless t f key) as (λ b. is_needless t f key ≡ b → seen (record t { entries = if b then written t.entries f key None else t.entries }) fs q ≡ seen t fs q) [
      | true ↦ λ h. tidy_reads t f key positive stands (ap is_some (needless_absent t f key h)) (needless_same t f key h) fs q above
      | false ↦ λ h. refl
    ] refl

-- where an absent goes, all other columns stay
column_without : (t : Table) (f : ℕ) (key : Key) (fs : ℕ) (q : Key) → column t key f ≡ Some Absent
    → (column (with_entry t f key None) q fs ≡ column t q fs) ⊎ ((fs ≡ f) × (q ≡ key) × (column t q fs ≡ Some Absent) × (column (with_entry t f key None) q fs ≡ None))
column_without t f key fs q absent = elim (same_or_other q key) [
  | inr other ↦ inl (ap (λ (c : ℕ → Option Held). c fs) (column-with_entry_other t f key None q other))
  | inl same ↦
      let new : column (with_entry t f key None) q fs ≡ cond (nat_eq fs f) None (column t key fs) = ap (λ u. column (with_entry t f key None) u fs) same ∙ column-with_entry t f key None fs in
      elim (nat_eq fs f) as (λ b. nat_eq fs f ≡ b → column (with_entry t f key None) q fs ≡ cond b None (column t key fs) → (column (with_entry t f key None) q fs ≡ column t q fs) ⊎ ((fs ≡ f) × (q ≡ key) × (column t q fs ≡ Some Absent) × (column (with_entry t f key None) q fs ≡ None))) [
        | true ↦ λ e is. let here : fs ≡ f = grind (arith, nat_tests) in inr (here, same, ap (λ u. column t u fs) same ∙ ap (column t key) here ∙ absent, is)
        | false ↦ λ e is. inl (is ∙ sym (ap (λ u. column t u fs) same))
      ] refl new
]

-- the column of a key, but for the absent that goes
pub column-tidied : (t : Table) (f : ℕ) (key : Key) (fs : ℕ) (q : Key) → (column (tidied t f key) q fs ≡ column t q fs) ⊎ ((fs ≡ f) × (q ≡ key) × (column t q fs ≡ Some Absent) × (column (tidied t f key) q fs ≡ None))
column-tidied t f key fs q =
    elim (is_needless t f key) as (λ b. is_needless t f key ≡ b → (column (record t { entries = if b then written t.entries f key None else t.entries }) q fs ≡ column t q fs) ⊎ ((fs ≡ f) × (q ≡ key) × (column t q fs ≡ Some Absent) × (column (record t { entries = if b then written t.entries f key None else t.entries }) q fs ≡ None))) [
      | true ↦ λ h. column_without t f key fs q (needless_absent t f key h)
      | false ↦ λ h. inl refl
    ] refl

-- the primary's column
pub tidied_primary : (t : Table) (f : ℕ) (key : Key) → 0 < f → (q : Key) → column (tidied t f key) q 0 ≡ column t q 0
tidied_primary t f key positive q = elim (column-tidied t f key 0 q) [ inl same ↦ same | inr gone ↦ let e = gone.0 in absurd (omega arith) ]

-- the extents
pub tidied_extents : (t : Table) (f : ℕ) (key : Key) (fs : ℕ) (q : Key) (stamp block : ℕ) → (column (tidied t f key) q fs ≡ Some (Extent stamp block)) ↔ (column t q fs ≡ Some (Extent stamp block))
tidied_extents t f key fs q stamp block = elim (column-tidied t f key fs q) [
  | inl same ↦ (λ h. sym same ∙ h, λ h. same ∙ h)
  | inr gone ↦ (λ h. let wrong = sym gone.3 ∙ h in cc, λ h. let wrong = sym gone.2 ∙ h in cc)
]

-- one record fewer, or as many
pub tidied_count : (t : Table) (f : ℕ) (key : Key) → record_count (tidied t f key) + cond (is_needless t f key) 1 0 ≡ record_count t
tidied_count t f key =
    elim (is_needless t f key) as (λ b. is_needless t f key ≡ b → record_count (record t { entries = if b then written t.entries f key None else t.entries }) + cond b 1 0 ≡ record_count t) [
      | true ↦ λ h. ap (λ o. record_count (with_entry t f key None) + cond (is_some o) 1 0) (sym (needless_absent t f key h)) ∙ record_count-with_entry t f key None ∙ omega arith
      | false ↦ λ h. omega arith
    ] refl

pub tidied_shrinks : (t : Table) (f : ℕ) (key : Key) → record_count (tidied t f key) ≤ record_count t
tidied_shrinks t f key = let count = tidied_count t f key in omega arith
