-- What every reader sees as an entry of the oldest checkpoint that is gone moves on or goes.
use Rattle.std.proofs.Common.{◌≡◌, ◌≢◌, ℕ, ◌+◌, ◌<◌, ◌≤◌, true, false, ◌⊎◌, inl, inr, ◌∷◌, Option, Some, None, IsSomeAnd, sym, ap, subst, ◌∙◌, arith}
use Rattle.std.specs.Ordering.{eq_by_cmp}
use Rattle.std.specs.FinMap as map
use Rattle.std.proofs.lemmas.Bool.Decides.{nat_tests}
use Rattle.std.proofs.lemmas.Bool.{true≢false, false_from_ne_true}
use Rattle.ck_model.specs.declared.key.Key.{Key}
use Rattle.ck_model.specs.declared.held.Held.{Held}
use Rattle.ck_model.specs.Key.{key_cmp}
use Rattle.ck_model.specs.Table.{Table, IsTable, column, newer, record_count, with_entry}
use Rattle.ck_model.specs.Chain.{first_entry, is_live, keeps_data, seen}
use Rattle.ck_model.specs.Rules.{IsOrderly}
use Rattle.ck_chain.specs.Kept.{pushed, read_as}
use Rattle.ck_chain.proofs.ColumnLaws.{column-with_entry, column-with_entry_other, same_or_other, write_swap}
use Rattle.ck_chain.proofs.CountLaws.{record_count-with_entry}
use Rattle.ck_chain.specs.Named.{one_of}
use Rattle.ck_chain.proofs.ReadLaws.{same_first, each_above, hidden_reads, moved_reads, keeps_newer, live_stands}
use Rattle.ck_chain.proofs.PushedLaws.{fits_moved}
use Rattle.ck_chain.proofs.OrderlyLaws.{orderly_with, orderly_without, positive_id}
use Rattle.ck_remove.specs.Removal.{moved, next_older, with_taken}
use Rattle.ck_remove.proofs.OldestLemmas.{IsOldest}
use Rattle.ck_remove.proofs.OlderLemmas.{IsNextOlder, live_place, next_at_least, next_newer, taken_cases}

-- the table once the entry is away and this is taken over
abbrev pub after : Table → ℕ → Key → Option (ℕ × Held) → Table
after t g key taken = with_taken (with_entry t g key None) key taken

-- readers of newer filesets see what they saw
newer_reads : (t : Table) (f : ℕ) (key : Key) (w : Option Held) → 0 < f → (fs : ℕ) (q : Key) → f < fs → seen (with_entry t f key w) fs q ≡ seen t fs q
newer_reads t f key w above fs q more = elim (same_or_other q key) [
  | inr other ↦ ap (λ (c : ℕ → Option Held). read_as (keeps_data t fs) (first_entry c (fs ∷ newer t fs))) (column-with_entry_other t f key w q other)
  | inl same ↦
      let d = column (with_entry t f key w) key in
      let agrees : (x : ℕ) → x ≢ f → d x ≡ column t key x = λ x apart. column-with_entry t f key w x ∙ grind (arith, nat_tests) in
      let at_key : seen (with_entry t f key w) fs key ≡ seen t fs key =
      ap (read_as (keeps_data t fs)) (same_first (column t key) d (fs ∷ newer t fs) (agrees 0 (omega arith))
      (agrees fs (omega arith), each_above (λ x. d x ≡ column t key x) fs (map.keys t.filesets) (λ x higher. agrees x (omega arith)))) in
      subst (λ k. seen (with_entry t f key w) fs k ≡ seen t fs k) (sym same) at_key
]

written_there : (t : Table) (f : ℕ) (key : Key) (w : Option Held) → column (with_entry t f key w) key f ≡ w
written_there t f key w = column-with_entry t f key w f ∙ grind (arith, nat_tests)

-- where no older checkpoint is there, none that isn't gone is older
none_lower : (t : Table) (g fs : ℕ) → next_older t g ≡ None → 0 < fs → fs < g → is_live t fs ≡ true → ⊥
none_lower t g fs none positive lower live = subst (λ o. IsSomeAnd o (λ n. fs ≤ n)) none (next_at_least t g fs positive lower live)

-- each checkpoint that isn't gone is at most as new as the next older one, or newer than the one that is gone
place_of : (t : Table) (g n fs : ℕ) → IsOldest t g → IsNextOlder t g n → 0 < fs → is_live t fs ≡ true → (fs ≤ n) ⊎ (g < fs)
place_of t g n fs oldest next positive live = elim (live_place t g fs oldest live) [
  | inl lower ↦ inl (subst (λ o. IsSomeAnd o (λ n. fs ≤ n)) next.is (next_at_least t g fs positive lower live))
  | inr more ↦ inr more
]

pub moved_seen : (t : Table) (g : ℕ) (key : Key) (h : Held) → IsTable t → IsOldest t g → column t key g ≡ Some h
    → (fs : ℕ) (q : Key) → is_live t fs ≡ true → seen (moved t g key) fs q ≡ seen t fs q
moved_seen t g key h lawful oldest at fs q live =
    let least = positive_id t fs lawful (live_stands t fs live) in
    let positive : 0 < fs = omega arith in
    taken_cases t g key h (λ taken. seen (after t g key taken) fs q ≡ seen t fs q) lawful at
    (λ none. elim (live_place t g fs oldest live) [
      | inl lower ↦ absurd (none_lower t g fs none positive lower live)
      | inr more ↦ newer_reads t g key None oldest.above fs q more
    ])
    (λ n own next there. hidden_reads t n g key own None next.above next.lower (live_stands t n next.live) there fs q positive (place_of t g n fs oldest next positive live))
    (λ n next bare.
    let w = pushed (keeps_data t n) (Some h) in
    let lower = next.lower in
    let apart : g ≢ n = λ same. absurd (omega (arith, same, lower)) in
    ap (λ u. seen u fs q) (write_swap t g n key None (Some w) apart)
    ∙ hidden_reads (with_entry t n key (Some w)) n g key w None next.above next.lower (live_stands t n next.live) (written_there t n key (Some w)) fs q positive (place_of t g n fs oldest next positive live)
    ∙ moved_reads t n g key h next.above (live_stands t n next.live) (next_newer t g n oldest next) bare at fs q positive)

-- the rules but the one on absents stay
pub orderly_moved : (t : Table) (g : ℕ) (key : Key) (h : Held) → IsTable t → IsOrderly t → column t key g ≡ Some h → IsOrderly (moved t g key)
orderly_moved t g key h lawful is at =
    taken_cases t g key h (λ taken. IsOrderly (after t g key taken)) lawful at
    (λ none. orderly_without t g key is)
    (λ n own next there. orderly_without t g key is)
    (λ n next bare.
    let lower = next.lower in
    orderly_with (with_entry t g key None) n key (pushed (keeps_data t n) (Some h)) (orderly_without t g key is)
    (fits_moved t g n key h is at next.above (live_stands t n next.live) (λ stamp mark.
    false_from_ne_true (keeps_data t n) (λ keeps. true≢false (sym (keeps_newer t n g (omega (arith, lower)) keeps) ∙ is.marks g key stamp (at ∙ ap (λ (x : Held). Some x) mark))))))

-- no record more
pub moved_shrinks : (t : Table) (g : ℕ) (key : Key) (h : Held) → IsTable t → column t key g ≡ Some h → record_count (moved t g key) ≤ record_count t
moved_shrinks t g key h lawful at =
    let one : one_of (column t key g) ≡ 1 = ap one_of at in
    let less : record_count (with_entry t g key None) + one_of (column t key g) ≡ record_count t + 0 = record_count-with_entry t g key None in
    taken_cases t g key h (λ taken. record_count (after t g key taken) ≤ record_count t) lawful at
    (λ none. omega (arith, one, less))
    (λ n own next there. omega (arith, one, less))
    (λ n next bare.
    let more : record_count (with_entry (with_entry t g key None) n key (Some (pushed (keeps_data t n) (Some h)))) + one_of (column (with_entry t g key None) key n) ≡ record_count (with_entry t g key None) + 1
    = record_count-with_entry (with_entry t g key None) n key (Some (pushed (keeps_data t n) (Some h))) in
    omega (arith, one, less, more))

-- ---- the entries

pub elsewhere : (t : Table) (f : ℕ) (key : Key) (w : Option Held) (x : ℕ) → x ≢ f → (q : Key) → column (with_entry t f key w) q x ≡ column t q x
elsewhere t f key w x apart q = elim (same_or_other q key) [
  | inr other ↦ ap (λ (c : ℕ → Option Held). c x) (column-with_entry_other t f key w q other)
  | inl same ↦
      let at_key : column (with_entry t f key w) key x ≡ column t key x = column-with_entry t f key w x ∙ grind (arith, nat_tests) in
      subst (λ k. column (with_entry t f key w) k x ≡ column t k x) (sym same) at_key
]

-- those of all but the two checkpoints
pub moved_elsewhere : (t : Table) (g : ℕ) (key : Key) (h : Held) → IsTable t → column t key g ≡ Some h → (x : ℕ) → x ≢ g → ((n : ℕ) → IsNextOlder t g n → x ≢ n) → (q : Key) → column (moved t g key) q x ≡ column t q x
moved_elsewhere t g key h lawful at x apart other q =
    let first = elsewhere t g key None x apart q in
    taken_cases t g key h (λ taken. column (after t g key taken) q x ≡ column t q x) lawful at
    (λ none. first)
    (λ n own next there. first)
    (λ n next bare. elsewhere (with_entry t g key None) n key (Some (pushed (keeps_data t n) (Some h))) x (other n next) q ∙ first)

-- and at any other key
pub moved_other : (t : Table) (g : ℕ) (key : Key) (h : Held) → IsTable t → column t key g ≡ Some h → (q : Key) → eq_by_cmp key_cmp q key ≡ false → column (moved t g key) q ≡ column t q
moved_other t g key h lawful at q other =
    let first = column-with_entry_other t g key None q other in
    taken_cases t g key h (λ taken. column (after t g key taken) q ≡ column t q) lawful at
    (λ none. first)
    (λ n own next there. first)
    (λ n next bare. column-with_entry_other (with_entry t g key None) n key (Some (pushed (keeps_data t n) (Some h))) q other ∙ first)

-- its own is away
pub moved_away : (t : Table) (g : ℕ) (key : Key) (h : Held) → IsTable t → column t key g ≡ Some h → column (moved t g key) key g ≡ None
moved_away t g key h lawful at =
    let first : column (with_entry t g key None) key g ≡ None = written_there t g key None in
    taken_cases t g key h (λ taken. column (after t g key taken) key g ≡ None) lawful at
    (λ none. first)
    (λ n own next there. first)
    (λ n next bare.
    let lower = next.lower in
    elsewhere (with_entry t g key None) n key (Some (pushed (keeps_data t n) (Some h))) g (λ same. absurd (omega (arith, same, lower))) key ∙ first)
