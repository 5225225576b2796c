-- Which data blocks are named after a change, and the one that it releases.
use Rattle.std.proofs.Common.{◌≡◌, ◌≢◌, ℕ, ◌<◌, false, cond, ◌⊎◌, inl, inr, Option, Some, None, IfSome, nat_eq, refl, sym, ap, subst, ◌∙◌, arith}
use Rattle.std.specs.Option.{option_map}
use Rattle.std.proofs.lemmas.Bool.Decides.{nat_tests}
use Rattle.ck_model.specs.declared.key.Key.{Key}
use Rattle.ck_model.specs.declared.held.Held.{Held}
use Rattle.ck_model.specs.Table.{Table, IsTable, column, with_entry}
use Rattle.ck_model.specs.Chain.{keeps_data, newest_live_of}
use Rattle.ck_model.specs.Rules.{IsOrderly, block_in}
use Rattle.ck_model.proofs.CaseLaws.{none_some}
use Rattle.ck_chain.specs.Kept.{pushed}
use Rattle.ck_chain.specs.Named.{block_of, IsNamed}
use Rattle.ck_chain.proofs.ColumnLaws.{column-with_entry}
use Rattle.ck_chain.proofs.PushedLaws.{block_pushed}
use Rattle.ck_chain.proofs.NameLaws.{named_here, named_written, named_else, named_without, named_tidied, named_before_tidied}
use Rattle.ck_push.specs.Changed.{push_of, replaced, tidied_in, changed}
use Rattle.ck_push.specs.Released.{unless_kept, released}
use Rattle.ck_push.proofs.ReplacedLemmas.{after_push, replaced_in_steps, primary_stays}
use Rattle.ck_push.proofs.PushLemmas.{IsPush, push_facts, push_bare, push_apart, push_above}

-- the block that the pushed entry names
abbrev pub kept_block : Option (ℕ × Held) → Option ℕ
kept_block push = block_of (option_map (λ (entry : ℕ × Held). entry.1) push)

-- a block named after a push was named before, or is that of the pushed entry
named_pushed : (u : Table) (key : Key) (push : Option (ℕ × Held)) (block : ℕ) → IsNamed (after_push u key push) block → IsNamed u block ⊎ (kept_block push ≡ Some block)
named_pushed u key None block named = inl named
named_pushed u key (Some entry) block named = named_written u entry.0 key (Some entry.1) block named

-- and each named before still is, where the checkpoint had no entry
still_named : (u : Table) (key : Key) (push : Option (ℕ × Held)) (block : ℕ) → IfSome push (λ entry. column u key entry.0 ≡ None) → IsNamed u block → IsNamed (after_push u key push) block
still_named u key None block bare named = named
still_named u key (Some entry) block bare named = elim (named_else u entry.0 key (Some entry.1) block named) [
  | inl stays ↦ stays
  | inr there ↦ absurd (none_some block (sym (ap block_of bare) ∙ there))
]

kept_named : (u : Table) (key : Key) (push : Option (ℕ × Held)) (block : ℕ) → kept_block push ≡ Some block → IsNamed (after_push u key push) block
kept_named u key None block kept = absurd (none_some block kept)
kept_named u key (Some entry) block kept = named_here u entry.0 key (Some entry.1) block kept

-- what is pushed names no block but the primary's
kept_old : (t : Table) (key : Key) (push : Option (ℕ × Held)) (block : ℕ) → IfSome push (IsPush t key) → kept_block push ≡ Some block → block_of (column t key 0) ≡ Some block
kept_old t key None block facts kept = absurd (none_some block kept)
kept_old t key (Some entry) block facts kept =
    let names : block_in (pushed (keeps_data t entry.0) (column t key 0)) ≡ Some block = sym (ap block_in facts.is) ∙ kept in
    elim (column t key 0) as (λ o. block_in (pushed (keeps_data t entry.0) o) ≡ Some block → block_of o ≡ Some block) [
      | None ↦ λ h. h
      | Some held ↦ λ h. block_pushed (keeps_data t entry.0) held block h
    ] names

bare_without : (t : Table) (key : Key) (push : Option (ℕ × Held)) → IsTable t → IfSome push (IsPush t key) → IfSome push (λ entry. column (with_entry t 0 key None) key entry.0 ≡ None)
bare_without t key None lawful facts = tt
bare_without t key (Some entry) lawful facts =
    let above = push_above t key entry lawful facts in
    column-with_entry t 0 key None entry.0 ∙ ap (λ b. cond b None (column t key entry.0)) (other entry.0 above) ∙ push_bare t key entry facts
  where
    other : (n : ℕ) → 0 < n → nat_eq n 0 ≡ false
    other n above = grind (arith, nat_tests)

primary_gone : (t : Table) (key : Key) (push : Option (ℕ × Held)) → IfSome push (λ entry. entry.0 ≢ 0) → column (after_push (with_entry t 0 key None) key push) key 0 ≡ None
primary_gone t key push apart = primary_stays (with_entry t 0 key None) key push apart ∙ column-with_entry t 0 key None 0

named_last : (t : Table) (key : Key) (push : Option (ℕ × Held)) (new : Option Held) (block : ℕ) → IfSome push (λ entry. entry.0 ≢ 0)
    → IsNamed (after_push (with_entry t 0 key None) key push) block → IsNamed (with_entry (after_push (with_entry t 0 key None) key push) 0 key new) block
named_last t key push new block apart named = elim (named_else (after_push (with_entry t 0 key None) key push) 0 key new block named) [
  | inl stays ↦ stays
  | inr there ↦ absurd (none_some block (sym (ap block_of (primary_gone t key push apart)) ∙ there))
]

named_in_steps : (t : Table) (key : Key) (push : Option (ℕ × Held)) (new : Option Held) (block : ℕ) → IsTable t → IfSome push (IsPush t key) → IfSome push (λ entry. entry.0 ≢ 0)
    → IsNamed (with_entry t 0 key None) block → IsNamed (with_entry (after_push (with_entry t 0 key None) key push) 0 key new) block
named_in_steps t key push new block lawful facts apart named =
    named_last t key push new block apart (still_named (with_entry t 0 key None) key push block (bare_without t key push lawful facts) named)

tidied_named : (u : Table) (key : Key) (fs : Option ℕ) (block : ℕ) → IsNamed (tidied_in u key fs) block → IsNamed u block
tidied_named u key None block named = named
tidied_named u key (Some fs) block named = named_tidied u fs key block named

named_tidied_in : (u : Table) (key : Key) (fs : Option ℕ) (block : ℕ) → IsNamed u block → IsNamed (tidied_in u key fs) block
named_tidied_in u key None block named = named
named_tidied_in u key (Some fs) block named = named_before_tidied u fs key block named

-- what the changed table names, from the steps to it
named_changed : (t : Table) (key : Key) (new : Option Held) (block : ℕ) → IsTable t → IsNamed (with_entry (after_push (with_entry t 0 key None) key (push_of t key)) 0 key new) block → IsNamed (changed t key new) block
named_changed t key new block lawful named =
    named_tidied_in (replaced t key (push_of t key) new) key (newest_live_of t) block (subst (λ u. IsNamed u block) (replaced_in_steps t key (push_of t key) new (push_apart t key lawful)) named)

changed_steps : (t : Table) (key : Key) (new : Option Held) (block : ℕ) → IsTable t → IsNamed (changed t key new) block
    → IsNamed (with_entry t 0 key None) block ⊎ ((kept_block (push_of t key) ≡ Some block) ⊎ (block_of new ≡ Some block))
changed_steps t key new block lawful named =
    let steps = subst (λ u. IsNamed u block) (sym (replaced_in_steps t key (push_of t key) new (push_apart t key lawful))) (tidied_named (replaced t key (push_of t key) new) key (newest_live_of t) block named) in
    elim (named_written (after_push (with_entry t 0 key None) key (push_of t key)) 0 key new block steps) [
      | inr of_new ↦ inr (inr of_new)
      | inl before ↦ elim (named_pushed (with_entry t 0 key None) key (push_of t key) block before) [ inl first ↦ inl first | inr kept ↦ inr (inl kept) ]
    ]

named_before_del : (t : Table) (key : Key) (block : ℕ) → IsNamed (with_entry t 0 key None) block → IsNamed t block
named_before_del t key block named = elim (named_written t 0 key None block named) [ inl was ↦ was | inr none ↦ absurd (none_some block none) ]

named_primary : (t : Table) (key : Key) (block : ℕ) → block_of (column t key 0) ≡ Some block → IsNamed t block
named_primary t key block h = (0, (key, h))

-- a block that is named after a change was named before, or is the one that the change writes
pub changed_named : (t : Table) (key : Key) (new : Option Held) (block : ℕ) → IsTable t → IsNamed (changed t key new) block → IsNamed t block ⊎ (block_of new ≡ Some block)
changed_named t key new block lawful named = elim (changed_steps t key new block lawful named) [
  | inl first ↦ inl (named_before_del t key block first)
  | inr rest ↦ elim rest [
    | inl kept ↦ inl (named_primary t key block (kept_old t key (push_of t key) block (push_facts t key) kept))
    | inr of_new ↦ inr of_new
  ]
]

-- the released block, from the two that matter
released_of : (old kept : Option ℕ) (block : ℕ) → unless_kept old kept ≡ Some block → (old ≡ Some block) × (kept ≡ None)
released_of old None block h = (h, refl)
released_of old (Some kept) block h = absurd (none_some block h)

-- it was named before, and nothing names it afterwards
pub released_gone : (t : Table) (key : Key) (new : Option Held) (block : ℕ) → IsTable t → IsOrderly t → ((block : ℕ) → block_of new ≡ Some block → IsNamed t block → ⊥)
    → released (column t key 0) (push_of t key) ≡ Some block → IsNamed t block × (IsNamed (changed t key new) block → ⊥)
released_gone t key new block lawful is free freed =
    let of = released_of (block_of (column t key 0)) (kept_block (push_of t key)) block freed in
    let was = named_primary t key block of.0 in (
      was,
      λ named. elim (changed_steps t key new block lawful named) [
        | inl first ↦ named_without t 0 key block is of.0 first
        | inr rest ↦ elim rest [
          | inl kept ↦ none_some block (sym of.1 ∙ kept)
          | inr of_new ↦ free block of_new was
        ]
      ],
    )

-- a block that nothing names any more is the released one
pub gone_released : (t : Table) (key : Key) (new : Option Held) (block : ℕ) → IsTable t → IsNamed t block → (IsNamed (changed t key new) block → ⊥) → released (column t key 0) (push_of t key) ≡ Some block
gone_released t key new block lawful named gone = elim (named_else t 0 key None block named) [
  | inl stays ↦ absurd (gone (named_changed t key new block lawful (named_in_steps t key (push_of t key) new block lawful (push_facts t key) (push_apart t key lawful) stays)))
  | inr old ↦
      elim (kept_block (push_of t key)) as (λ o. kept_block (push_of t key) ≡ o → unless_kept (block_of (column t key 0)) o ≡ Some block) [
        | None ↦ λ none. old
        | Some kept ↦ λ is.
            let same : ◌≡◌ {A = Option ℕ} (Some kept) (Some block) = sym (kept_old t key (push_of t key) kept (push_facts t key) is) ∙ old in
            absurd (gone (named_changed t key new block lawful (named_last t key (push_of t key) new block (push_apart t key lawful) (kept_named (with_entry t 0 key None) key (push_of t key) block (is ∙ same)))))
      ] refl
]
