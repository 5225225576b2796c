-- What a checkpoint's reader sees after a change, and what the primary and the other keys hold.
use Rattle.std.proofs.Common.{◌≡◌, ◌≢◌, ℕ, ◌<◌, ◌≤◌, Bool, true, false, cond, inl, inr, ◌∷◌, Option, Some, None, IsSome, IfSome, IsSomeAnd, nat_eq, refl, sym, ap, subst, ◌∙◌, arith}
use Rattle.std.specs.Ordering.{eq_by_cmp}
use Rattle.std.specs.Option.{option_or}
use Rattle.std.specs.FinMap as map
use Rattle.std.proofs.lemmas.Bool.Decides.{nat_tests}
use Rattle.ck_model.specs.declared.key.Key.{Key}
use Rattle.ck_model.specs.declared.held.Held.{Held}
use Rattle.ck_model.specs.Key.{key_cmp}
use Rattle.ck_model.specs.Table.{Table, newer, column, with_entry}
use Rattle.ck_model.specs.Chain.{first_entry, keeps_data, seen, is_live, newest_live_of, is_covered}
use Rattle.ck_chain.specs.Kept.{pushed, read_as}
use Rattle.ck_chain.proofs.ColumnLaws.{column-with_entry, column-with_entry_other, same_or_other}
use Rattle.ck_chain.proofs.ReadLaws.{older_reads, keeps_newer, pushed_reads, none_first, some_first, each_above, live_stands, last_passes, newest_at_least}
use Rattle.ck_chain.proofs.TidyLaws.{column-tidied}
use Rattle.ck_push.specs.Changed.{with_push, push_into, push_of, replaced, tidied_in}

-- the table that a change leaves, where n is the newest live checkpoint
abbrev pub after : Table → ℕ → Key → Option Held → Table
after t n key new = replaced t key (push_into t key (Some n)) new

pub column-after_other : (t : Table) (n : ℕ) (key : Key) (new : Option Held) (q : Key) → eq_by_cmp key_cmp q key ≡ false → column (after t n key new) q ≡ column t q
column-after_other t n key new q other =
    column-with_entry_other (record t { entries = with_push t.entries key (push_into t key (Some n)) }) 0 key new q other
    ∙ elim (is_covered t n key) as (λ b. column (record t { entries = with_push t.entries key (cond b None (Some (n, pushed (keeps_data t n) (column t key 0)))) }) q ≡ column t q) [
      | true ↦ refl
      | false ↦ column-with_entry_other t n key (Some (pushed (keeps_data t n) (column t key 0))) q other
    ]

pub column-after : (t : Table) (n : ℕ) (key : Key) (new : Option Held) (x : ℕ) → column (after t n key new) key x ≡ cond (nat_eq x 0) new (cond (is_covered t n key) (column t key x) (cond (nat_eq x n) (Some (pushed (keeps_data t n) (column t key 0))) (column t key x)))
column-after t n key new x =
    column-with_entry (record t { entries = with_push t.entries key (push_into t key (Some n)) }) 0 key new x
    ∙ ap (cond (nat_eq x 0) new) (elim (is_covered t n key) as (λ b. column (record t { entries = with_push t.entries key (cond b None (Some (n, pushed (keeps_data t n) (column t key 0)))) }) key x ≡ cond b (column t key x) (cond (nat_eq x n) (Some (pushed (keeps_data t n) (column t key 0))) (column t key x))) [
      | true ↦ refl
      | false ↦ column-with_entry t n key (Some (pushed (keeps_data t n) (column t key 0))) x
    ])

-- a reader of the newest live checkpoint
newest_reads : (t : Table) (n : ℕ) (key : Key) (new : Option Held) (b : Bool) → 0 < n → (b ≡ true → keeps_data t n ≡ true)
    → read_as b (first_entry (column (after t n key new) key) (n ∷ newer t n)) ≡ read_as b (first_entry (column t key) (n ∷ newer t n))
newest_reads t n key new b positive keeps = go (is_covered t n key) refl
  where
    go : (covered : Bool) → is_covered t n key ≡ covered → read_as b (first_entry (column (after t n key new) key) (n ∷ newer t n)) ≡ read_as b (first_entry (column t key) (n ∷ newer t n))
    go true h =
        let same : (x : ℕ) → 0 < x → column (after t n key new) key x ≡ column t key x = λ x above. column-after t n key new x ∙ grind (arith, nat_tests) in
        ap (read_as b) (some_first (column t key) (column (after t n key new) key) (n ∷ newer t n) h (same n positive, each_above _ n (map.keys t.filesets) (λ x above. same x (omega arith))))
    go false h =
        let here : column (after t n key new) key n ≡ Some (pushed (keeps_data t n) (column t key 0)) = column-after t n key new n ∙ grind (arith, nat_tests) in
        ap (λ o. read_as b (option_or o (first_entry (column (after t n key new) key) (newer t n)))) here
        ∙ pushed_reads b (keeps_data t n) (column t key 0) keeps
        ∙ ap (read_as b) (sym (none_first (column t key) (n ∷ newer t n) h))

after_reads : (t : Table) (n : ℕ) (key : Key) (new : Option Held) → 0 < n → is_live t n ≡ true → (fs : ℕ) (q : Key) → 0 < fs → fs ≤ n → seen (after t n key new) fs q ≡ seen t fs q
after_reads t n key new above live fs q positive le = elim (same_or_other q key) [
  | inr other ↦ ap (λ (c : ℕ → Option Held). read_as (keeps_data t fs) (first_entry c (fs ∷ newer t fs))) (column-after_other t n key new q other)
  | inl same ↦
      subst (λ k. seen (after t n key new) fs k ≡ seen t fs k) (sym same)
      (older_reads t (column (after t n key new) key) key (keeps_data t fs) fs n positive le (live_stands t n live)
      (λ x low high. column-after t n key new x ∙ grind (arith, nat_tests))
      (newest_reads t n key new (keeps_data t fs) above (keeps_newer t fs n le)))
]

-- The push and the primary's new entry leave what every live checkpoint's reader sees.
pub replaced_reads : (t : Table) (key : Key) (new : Option Held) → ((id : ℕ) → IsSome (map.get t.filesets id) → 1 ≤ id) → (fs : ℕ) (q : Key) → is_live t fs ≡ true → seen (replaced t key (push_of t key) new) fs q ≡ seen t fs q
replaced_reads t key new positive fs q live =
    let above : 0 < fs = positive fs (live_stands t fs live) in
    elim (newest_live_of t) as (λ o. IfSome o (λ n. is_live t n ≡ true) → IsSomeAnd o (λ n. fs ≤ n) → seen (replaced t key (push_into t key o) new) fs q ≡ seen t fs q) [
      | Some n ↦ λ passes le. after_reads t n key new (omega arith) passes fs q above le
      | None ↦ λ passes le. absurd le
    ] (last_passes (is_live t) (newer t 0)) (newest_at_least t fs above live)

apart : (q key : Key) → q ≢ key → eq_by_cmp key_cmp q key ≡ false
apart q key differ = elim (same_or_other q key) [ inl same ↦ absurd (differ same) | inr other ↦ other ]

pub other_tidied : (u : Table) (key : Key) (fs : Option ℕ) (q : Key) → q ≢ key → column (tidied_in u key fs) q ≡ column u q
other_tidied u key None q differ = refl
other_tidied u key (Some fs) q differ = λ i g. (elim (column-tidied u fs key g q) as (λ _. column (tidied_in u key (Some fs)) q g ≡ column u q g) [ inl same ↦ same | inr gone ↦ absurd (differ gone.1) ]) i

pub other_replaced : (t : Table) (key : Key) (push : Option (ℕ × Held)) (new : Option Held) (q : Key) → q ≢ key → column (replaced t key push new) q ≡ column t q
other_replaced t key None new q differ = column-with_entry_other t 0 key new q (apart q key differ)
other_replaced t key (Some entry) new q differ =
    column-with_entry_other (with_entry t entry.0 key (Some entry.1)) 0 key new q (apart q key differ)
    ∙ column-with_entry_other t entry.0 key (Some entry.1) q (apart q key differ)
