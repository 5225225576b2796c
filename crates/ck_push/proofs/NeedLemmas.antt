-- All rules hold after a change: each absent that stands then is needed.
use Rattle.std.proofs.Common.{◌≡◌, ◌≢◌, ℕ, ◌<◌, ◌≤◌, Bool, true, false, ◌⊎◌, inl, inr, ◌∷◌, Option, Some, None, IfSome, IsSomeAnd, refl, sym, ap, subst, ◌∙◌, arith}
use Rattle.std.specs.Option.{option_or, option_map}
use Rattle.std.specs.FinMap as map
use Rattle.std.proofs.lemmas.Bool.{cases_lt}
use Rattle.std.proofs.lemmas.Bool.Decides.{nat_tests}
use Rattle.ck_model.specs.declared.key.Key.{Key}
use Rattle.ck_model.specs.declared.held.Held.{Held}
use Rattle.ck_model.specs.declared.held.Held.TheVariants.{Absent, Plain, Extent, Mark}
use Rattle.ck_model.specs.Table.{Table, IsTable, newer, column}
use Rattle.ck_model.specs.Chain.{is_covered, is_gone, is_live, keeps_data, newest_live_of}
use Rattle.ck_model.specs.Rules.{IsNeeded, IsOrderly, IsOwn, IsSound, KeyBelow, first_holder}
use Rattle.ck_chain.specs.Kept.{pushed}
use Rattle.ck_chain.specs.Needless.{tidied, Says}
use Rattle.ck_chain.proofs.ColumnLaws.{same_or_other}
use Rattle.ck_chain.proofs.ReadLaws.{each_above, last_passes, live_stands, newest_at_least}
use Rattle.ck_chain.proofs.OrderlyLaws.{positive_id}
use Rattle.ck_chain.proofs.HolderLaws.{says_still, some_holder, none_holder, needed_here, needed_tidied, orderly_tidied}
use Rattle.ck_chain.proofs.TidyLaws.{column-tidied}
use Rattle.ck_push.specs.Changed.{push_into, push_of, replaced, tidied_in, changed}
use Rattle.ck_push.proofs.PushLemmas.{MaySet, orderly_replaced}
use Rattle.ck_push.proofs.SeenLemmas.{after, column-after, column-after_other}

-- what is pushed of a primary's entry is no absent
pub own_pushed : (keeps : Bool) (old : Held) → IsOwn old → pushed keeps (Some old) ≢ Absent
own_pushed true Absent own h = own
own_pushed true (Plain stamp small) own h = cc
own_pushed true (Extent stamp block) own h = cc
own_pushed true (Mark stamp) own h = own
own_pushed false Absent own h = own
own_pushed false (Plain stamp small) own h = cc
own_pushed false (Extent stamp block) own h = cc
own_pushed false (Mark stamp) own h = cc

-- the columns above the primary, where nothing is pushed
pub covered_stays : (t : Table) (n : ℕ) (key : Key) (new : Option Held) → is_covered t n key ≡ true → (x : ℕ) → 0 < x → column (after t n key new) key x ≡ column t key x
covered_stays t n key new covered x above = column-after t n key new x ∙ grind (arith, nat_tests)

-- and where something is, but for the checkpoint
pub older_stays : (t : Table) (n : ℕ) (key : Key) (new : Option Held) (x : ℕ) → 0 < x → x ≢ n → column (after t n key new) key x ≡ column t key x
older_stays t n key new x above apart = column-after t n key new x ∙ grind (arith, nat_tests)

-- the checkpoint's own
pub pushed_there : (t : Table) (n : ℕ) (key : Key) (new : Option Held) → 0 < n → is_covered t n key ≡ false → column (after t n key new) key n ≡ Some (pushed (keeps_data t n) (column t key 0))
pushed_there t n key new above bare = column-after t n key new n ∙ grind (arith, nat_tests)

-- from the newest checkpoint on, a first entry that said something still does
says_from_newest : (t : Table) (n : ℕ) (key : Key) (new : Option Held) → IsOrderly t → 0 < n
    → Says t (first_holder (column t key) (n ∷ newer t n)) → Says t (first_holder (column (after t n key new) key) (n ∷ newer t n))
says_from_newest t n key new is above says = go (is_covered t n key) refl
  where
    go : (covered : Bool) → is_covered t n key ≡ covered → Says t (first_holder (column (after t n key new) key) (n ∷ newer t n))
    go true h =
        let d = column (after t n key new) key in
        subst (Says t) (sym (some_holder (column t key) d (n ∷ newer t n) h (covered_stays t n key new h n above, each_above (λ x. d x ≡ column t key x) n (map.keys t.filesets) (λ x more. covered_stays t n key new h x (omega arith))))) says
    go false h =
        let d = column (after t n key new) key in
        let was = subst (Says t) (none_holder (column t key) (n ∷ newer t n) h) says in
        subst (λ o. Says t (option_or (option_map (λ entry. (n, entry)) o) (first_holder d (newer t n)))) (sym (pushed_there t n key new above h)) (
        elim (column t key 0) as (λ o. column t key 0 ≡ o → Says t (option_map (λ entry. (0, entry)) o) → (is_gone t n ≡ true) ⊎ (pushed (keeps_data t n) o ≢ Absent)) [
          | None ↦ λ none s. absurd s
          | Some old ↦ λ at s. inr (own_pushed (keeps_data t n) old (is.primary key old at))
        ] refl was)

absent_once : (o : Option Held) → o ≡ None → o ≡ Some Absent → ⊥
absent_once o none some = let wrong : ◌≡◌ {A = Option Held} None (Some Absent) = sym none ∙ some in cc

-- an absent of an older checkpoint is needed
needed_older : (t : Table) (n : ℕ) (key : Key) (new : Option Held) → IsSound t → 0 < n → is_live t n ≡ true
    → (fs : ℕ) → 0 < fs → fs < n → is_live t fs ≡ true → column (after t n key new) key fs ≡ Some Absent → IsNeeded (after t n key new) key fs
needed_older t n key new sound above live fs positive lt lives at =
    let d = column (after t n key new) key in
    let was : column t key fs ≡ Some Absent = sym (older_stays t n key new fs positive (omega arith)) ∙ at in
    says_still t d key fs n lt (live_stands t n live) (λ x low high. older_stays t n key new x (omega arith) (omega arith))
    (says_from_newest t n key new sound.orderly above) (sound.absents fs key lives was)

-- an absent at any other key is
needed_other : (t : Table) (n : ℕ) (key : Key) (new : Option Held) → IsSound t → (fs : ℕ) (q : Key) → column (after t n key new) q ≡ column t q
    → is_live t fs ≡ true → column (after t n key new) q fs ≡ Some Absent → IsNeeded (after t n key new) q fs
needed_other t n key new sound fs q same lives at =
    subst (λ (c : ℕ → Option Held). Says t (first_holder c (newer t fs))) (sym same) (sound.absents fs q lives (sym (ap (λ (c : ℕ → Option Held). c fs) same) ∙ at))

-- once the newest checkpoint is tidied, each absent is needed
needed_after : (t : Table) (n : ℕ) (key : Key) (new : Option Held) → IsSound t → 0 < n → is_live t n ≡ true
    → (fs : ℕ) (q : Key) → 0 < fs → fs ≤ n → is_live t fs ≡ true → column (tidied (after t n key new) n key) q fs ≡ Some Absent → IsNeeded (tidied (after t n key new) n key) q fs
needed_after t n key new sound above live fs q positive le lives at =
    let u = after t n key new in
    elim (same_or_other q key) [
      | inr other ↦ elim (column-tidied u n key fs q) [
        | inl same ↦ needed_tidied u n key above live fs q (needed_other t n key new sound fs q (column-after_other t n key new q other) lives (sym same ∙ at))
        | inr gone ↦ absurd (absent_once (column (tidied u n key) q fs) gone.3 at)
      ]
      | inl is ↦
          let here : column (tidied u n key) key fs ≡ Some Absent = subst (λ k. column (tidied u n key) k fs ≡ Some Absent) is at in
          let at_key : IsNeeded (tidied u n key) key fs = elim (cases_lt fs n) [
            | inl lt ↦ elim (column-tidied u n key fs key) [
              | inl same ↦ needed_tidied u n key above live fs key (needed_older t n key new sound above live fs positive lt lives (sym same ∙ here))
              | inr gone ↦ absurd (absent_once (column (tidied u n key) key fs) gone.3 here)
            ]
            | inr ge ↦
                let one : fs ≡ n = omega arith in
                subst (λ x. IsNeeded (tidied u n key) key x) (sym one) (needed_here u n key (subst (λ x. column (tidied u n key) key x ≡ Some Absent) one here))
          ] in
          subst (λ k. IsNeeded (tidied u n key) k fs) (sym is) at_key
    ]

tidied_orderly : (u : Table) (key : Key) (fs : Option ℕ) → IsOrderly u → IsOrderly (tidied_in u key fs)
tidied_orderly u key None is = is
tidied_orderly u key (Some fs) is = orderly_tidied u fs key is

-- all rules hold after a change
pub sound_changed : (t : Table) (key : Key) (new : Option Held) → IsTable t → IsSound t → KeyBelow t.counters.number key → IfSome new (MaySet t key) → IsSound (changed t key new)
sound_changed t key new lawful sound below may = record {
  orderly = tidied_orderly (replaced t key (push_of t key) new) key (newest_live_of t) (orderly_replaced t key new lawful sound.orderly below may);
  absents = λ fs q live at.
      let above : 0 < fs = (let least = positive_id t fs lawful (live_stands t fs live) in omega arith) in
      elim (newest_live_of t) as (λ o. IfSome o (λ n. is_live t n ≡ true) → IsSomeAnd o (λ n. fs ≤ n)
      → column (tidied_in (replaced t key (push_into t key o) new) key o) q fs ≡ Some Absent → IsNeeded (tidied_in (replaced t key (push_into t key o) new) key o) q fs) [
        | None ↦ λ passes le h. absurd le
        | Some n ↦ λ passes le h. let positive : 0 < n = omega arith in needed_after t n key new sound positive passes fs q above le live h
      ] (last_passes (is_live t) (newer t 0)) (newest_at_least t fs above live) at;
}
