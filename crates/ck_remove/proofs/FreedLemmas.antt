-- Which data blocks are named once an entry moved on or went, and the one that is released.
use Rattle.std.proofs.Common.{◌≡◌, ◌↔◌, ℕ, inl, inr, Option, Some, None, refl, sym, ap, ◌∙◌, arith}
use Rattle.ck_model.specs.declared.key.Key.{Key}
use Rattle.ck_model.specs.declared.held.Held.{Held}
use Rattle.ck_model.specs.Table.{Table, IsTable, column, with_entry}
use Rattle.ck_model.specs.Chain.{keeps_data}
use Rattle.ck_model.specs.Rules.{IsOrderly, block_in}
use Rattle.ck_chain.specs.Kept.{pushed}
use Rattle.ck_chain.specs.Named.{block_of, IsNamed}
use Rattle.ck_model.proofs.CaseLaws.{none_some}
use Rattle.ck_chain.proofs.PushedLaws.{block_pushed}
use Rattle.ck_chain.proofs.NameLaws.{named_else, named_entry, named_here, named_without, named_written}
use Rattle.ck_remove.specs.Removal.{moved, older, released, taken_of, unless_kept, without}
use Rattle.ck_remove.proofs.OlderLemmas.{IsNextOlder, taken_cases}
use Rattle.ck_remove.proofs.EachLemmas.{each_named, named_each}
use Rattle.ck_remove.proofs.MoveLemmas.{after, elsewhere}

named_before : (t : Table) (g : ℕ) (key : Key) (block : ℕ) → IsNamed (with_entry t g key None) block → IsNamed t block
named_before t g key block named = elim (named_written t g key None block named) [ inl was ↦ was | inr none ↦ absurd (none_some block none) ]

-- no block is named anew
pub moved_named : (t : Table) (g : ℕ) (key : Key) (h : Held) (block : ℕ) → IsTable t → column t key g ≡ Some h → IsNamed (moved t g key) block → IsNamed t block
moved_named t g key h block lawful at =
    taken_cases t g key h (λ taken. IsNamed (after t g key taken) block → IsNamed t block) lawful at
    (λ none. named_before t g key block)
    (λ n own next there. named_before t g key block)
    (λ n next bare named. elim (named_written (with_entry t g key None) n key (Some (pushed (keeps_data t n) (Some h))) block named) [
      | inl first ↦ named_before t g key block first
      | inr of ↦ named_entry t g key h block at (block_pushed (keeps_data t n) h block of)
    ])

-- the released block, from the two that matter
released_of : (old kept : Option ℕ) (block : ℕ) → unless_kept old kept ≡ Some block → (old ≡ Some block) × (kept ≡ None)
released_of old None block h = (h, refl)
released_of old (Some kept) block h = absurd (none_some block h)

-- where the entry goes
gone_freed : (t : Table) (g : ℕ) (key : Key) (h : Held) (block : ℕ) → IsOrderly t → column t key g ≡ Some h
    → (block_of (Some h) ≡ Some block) ↔ (IsNamed t block × (IsNamed (with_entry t g key None) block → ⊥))
gone_freed t g key h block is at = (
  (λ of. (named_entry t g key h block at of, λ named. named_without t g key block is (ap block_of at ∙ of) named)),
  (λ both. elim (named_else t g key None block both.0) [ inl stays ↦ absurd (both.1 stays) | inr there ↦ sym (ap block_of at) ∙ there ]),
)

-- where a checkpoint takes it over
taken_freed : (t : Table) (g : ℕ) (key : Key) (h : Held) (block : ℕ) (n : ℕ) → IsOrderly t → column t key g ≡ Some h → IsNextOlder t g n → column t key n ≡ None
    → (unless_kept (block_in h) (block_in (pushed (keeps_data t n) (Some h))) ≡ Some block)
    ↔ (IsNamed t block × (IsNamed (with_entry (with_entry t g key None) n key (Some (pushed (keeps_data t n) (Some h)))) block → ⊥))
taken_freed t g key h block n is at next bare = (freed, unnamed)
  where
    freed : unless_kept (block_in h) (block_in (pushed (keeps_data t n) (Some h))) ≡ Some block → IsNamed t block × (IsNamed (with_entry (with_entry t g key None) n key (Some (pushed (keeps_data t n) (Some h)))) block → ⊥)
    freed of =
        let parts = released_of (block_in h) (block_in (pushed (keeps_data t n) (Some h))) block of in (
          named_entry t g key h block at parts.0,
          λ named. elim (named_written (with_entry t g key None) n key (Some (pushed (keeps_data t n) (Some h))) block named) [
            | inl first ↦ named_without t g key block is (ap block_of at ∙ parts.0) first
            | inr taken ↦ none_some block (sym parts.1 ∙ taken)
          ],
        )

    unnamed : IsNamed t block × (IsNamed (with_entry (with_entry t g key None) n key (Some (pushed (keeps_data t n) (Some h)))) block → ⊥) → unless_kept (block_in h) (block_in (pushed (keeps_data t n) (Some h))) ≡ Some block
    unnamed both =
        let w = with_entry t g key None in
        let e = pushed (keeps_data t n) (Some h) in
        let lower = next.lower in
        let none_there : column w key n ≡ None = elsewhere t g key None n (λ same. absurd (omega (arith, same, lower))) key ∙ bare in
        elim (named_else t g key None block both.0) [
          | inl stays ↦ elim (named_else w n key (Some e) block stays) [
            | inl further ↦ absurd (both.1 further)
            | inr there ↦ absurd (none_some block (sym (ap block_of none_there) ∙ there))
          ]
          | inr there ↦
              let of_h : block_in h ≡ Some block = sym (ap block_of at) ∙ there in
              elim (block_in e) as (λ o. block_in e ≡ o → unless_kept (block_in h) o ≡ Some block) [
                | None ↦ λ _. of_h
                | Some kept ↦ λ of_e.
                    let same : ◌≡◌ {A = Option ℕ} (Some kept) (Some block) = sym (block_pushed (keeps_data t n) h kept of_e) ∙ of_h in
                    absurd (both.1 (named_here w n key (Some e) block (of_e ∙ same)))
              ] refl
        ]

moved_freed : (t : Table) (g : ℕ) (key : Key) (h : Held) (block : ℕ) → IsTable t → IsOrderly t → column t key g ≡ Some h
    → (released (Some h) (taken_of t g key) ≡ Some block) ↔ (IsNamed t block × (IsNamed (moved t g key) block → ⊥))
moved_freed t g key h block lawful is at =
    taken_cases t g key h (λ taken. (released (Some h) taken ≡ Some block) ↔ (IsNamed t block × (IsNamed (after t g key taken) block → ⊥))) lawful at
    (λ none. gone_freed t g key h block is at)
    (λ n own next there. gone_freed t g key h block is at)
    (λ n next bare. taken_freed t g key h block n is at next bare)

-- the released block is the one that nothing names any more
pub without_freed : (t : Table) (g : ℕ) (key : Key) (h : Held) (block : ℕ) → IsTable t → IsOrderly t → column t key g ≡ Some h
    → (released (column t key g) (taken_of t g key) ≡ Some block) ↔ (IsNamed t block × (IsNamed (without t g (Some key)) block → ⊥))
without_freed t g key h block lawful is at =
    let freed = moved_freed t g key h block lawful is at in
    let same : released (column t key g) (taken_of t g key) ≡ released (Some h) (taken_of t g key) = ap (λ o. released o (taken_of t g key)) at in (
      (λ of. let both = freed.0 (sym same ∙ of) in (both.0, λ named. both.1 (each_named (moved t g key) key (older t g) block named))),
      (λ both. same ∙ freed.1 (both.0, λ named. both.1 (named_each (moved t g key) key (older t g) block named))),
    )
