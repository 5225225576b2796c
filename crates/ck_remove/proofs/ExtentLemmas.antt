-- No step of a removal adds a data block to those that a table names.
use Rattle.std.proofs.Common.{◌≡◌, ℕ, ◌+◌, ◌≤◌, Bool, true, false, List, [], ◌∷◌, length, Some, None, if◌then◌else◌, refl, ap, ◌∙◌, arith}
use Rattle.ck_model.specs.declared.key.Key.{Key}
use Rattle.ck_model.specs.declared.held.Held.{Held}
use Rattle.ck_model.specs.declared.held.Held.TheVariants.{Absent, Plain, Extent, Mark}
use Rattle.ck_model.specs.Table.{Table, IsTable, column, with_entry, written}
use Rattle.ck_model.specs.Chain.{keeps_data}
use Rattle.ck_model.specs.TableWorld.{blocks_in, extent_count}
use Rattle.ck_chain.specs.Kept.{pushed}
use Rattle.ck_chain.specs.Needless.{is_needless, tidied}
use Rattle.ck_chain.proofs.HolderLaws.{needless_absent}
use Rattle.ck_remove.specs.Extents.{named_in}
use Rattle.ck_remove.specs.Removal.{moved, older, tidied_each, without}
use Rattle.ck_remove.proofs.ExtentLaws.{extent_count-with_entry}
use Rattle.ck_remove.proofs.OlderLemmas.{taken_cases}
use Rattle.ck_remove.proofs.MoveLemmas.{after}

tidied_extent_count : (t : Table) (f : ℕ) (key : Key) → extent_count (tidied t f key) ≡ extent_count t
tidied_extent_count t f key =
    elim (is_needless t f key) as (λ b. is_needless t f key ≡ b → extent_count (record t { entries = if b then written t.entries f key None else t.entries }) ≡ extent_count t) [
      | true ↦ λ h.
          let count : extent_count (with_entry t f key None) + named_in (column t key f) ≡ extent_count t + 0 = extent_count-with_entry t f key None in
          let none : named_in (column t key f) ≡ 0 = ap named_in (needless_absent t f key h) in
          omega (arith, count, none)
      | false ↦ λ _. refl
    ] refl

each_extent_count : (u : Table) (key : Key) (ids : List ℕ) → extent_count (tidied_each u key ids) ≡ extent_count u
each_extent_count u key [] = refl
each_extent_count u key (f ∷ ids) = tidied_extent_count (tidied_each u key ids) f key ∙ each_extent_count u key ids

-- a mark names none
pushed_blocks : (keeps : Bool) (h : Held) → length (blocks_in (pushed keeps (Some h))) ≤ length (blocks_in h)
pushed_blocks true h = omega arith
pushed_blocks false Absent = omega arith
pushed_blocks false (Plain stamp small) = omega arith
pushed_blocks false (Extent stamp block) = omega arith
pushed_blocks false (Mark stamp) = omega arith

moved_extent_count : (t : Table) (g : ℕ) (key : Key) (h : Held) → IsTable t → column t key g ≡ Some h → extent_count (moved t g key) ≤ extent_count t
moved_extent_count t g key h lawful at =
    let own : named_in (column t key g) ≡ length (blocks_in h) = ap named_in at in
    let away : extent_count (with_entry t g key None) + named_in (column t key g) ≡ extent_count t + 0 = extent_count-with_entry t g key None in
    taken_cases t g key h (λ taken. extent_count (after t g key taken) ≤ extent_count t) lawful at
    (λ none. omega (arith, away))
    (λ n own next there. omega (arith, away))
    (λ n next bare.
    let e = pushed (keeps_data t n) (Some h) in
    let count : extent_count (with_entry (with_entry t g key None) n key (Some e)) + named_in (column (with_entry t g key None) key n) ≡ extent_count (with_entry t g key None) + length (blocks_in e)
    = extent_count-with_entry (with_entry t g key None) n key (Some e) in
    let fewer = pushed_blocks (keeps_data t n) h in
    omega (arith, own, away, count, fewer))

-- no data block more is named
pub without_extent_count : (t : Table) (g : ℕ) (key : Key) (h : Held) → IsTable t → column t key g ≡ Some h → extent_count (without t g (Some key)) ≤ extent_count t
without_extent_count t g key h lawful at =
    let same : extent_count (without t g (Some key)) ≡ extent_count (moved t g key) = each_extent_count (moved t g key) key (older t g) in
    let fewer = moved_extent_count t g key h lawful at in
    omega (arith, same, fewer)
