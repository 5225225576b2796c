-- How many records the table has after a change.
use Rattle.std.proofs.Common.{◌≡◌, ◌≢◌, ℕ, ◌+◌, ◌<◌, Bool, true, false, cond, ◌&&◌, ◌||◌, not, List, [], ◌∷◌, Option, Some, None, is_some, IsSome, IfSome, refl, sym, ap, ◌∙◌, arith}
use Rattle.std.specs.Option.{option_map}
use Rattle.std.specs.List.{list_any, AllByRecursion}
use Rattle.std.specs.FinMap as map
use mathlib.Core.Bool.{false≢true}
use Rattle.std.proofs.lemmas.Bool.Decides.{nat_tests}
use Rattle.ck_model.specs.declared.key.Key.{Key}
use Rattle.ck_model.specs.declared.key.Key.TheVariants.{Block}
use Rattle.ck_model.specs.declared.held.Held.{Held}
use Rattle.ck_model.specs.declared.held.Held.TheVariants.{Absent, Plain, Extent, Mark}
use Rattle.ck_model.specs.declared.change.Change.{Change}
use Rattle.ck_model.specs.declared.change.Change.TheVariants.{Put, Write, Del}
use Rattle.ck_model.specs.Table.{Table, IsTable, newer, column, record_count}
use Rattle.ck_model.specs.Chain.{is_covered, is_gone, is_live, keeps_data, newest_live_of}
use Rattle.ck_model.specs.Rules.{IsOrderly, IsOwn, first_holder}
use Rattle.ck_model.proofs.CaseLaws.{not_first, not_second, or_left}
use Rattle.ck_chain.specs.Kept.{pushed}
use Rattle.ck_chain.specs.Needless.{is_absent, says_nothing, is_needless, tidied}
use Rattle.ck_chain.specs.Named.{one_of}
use Rattle.ck_chain.specs.Changes.{key_of, value_after}
use Rattle.ck_chain.proofs.ReadLaws.{each_above, last_passes, live_stands}
use Rattle.ck_chain.proofs.CountLaws.{record_count-with_entry}
use Rattle.ck_chain.proofs.OrderlyLaws.{positive_id}
use Rattle.ck_chain.proofs.HolderLaws.{holder_above, none_holder, some_holder, gone_above}
use Rattle.ck_chain.proofs.TidyLaws.{tidied_count}
use Rattle.ck_push.specs.Changed.{push_into, push_of, replaced, tidied_in, changed}
use Rattle.ck_push.specs.Growth.{one_if, absent_goes, gain, loss}
use Rattle.ck_push.proofs.ReplacedLemmas.{after_push, primary_stays}
use Rattle.ck_push.proofs.PushLemmas.{IsPush, push_facts, push_bare, push_apart}
use Rattle.ck_push.proofs.SeenLemmas.{after, column-after}
use Rattle.ck_push.proofs.NeedLemmas.{own_pushed, covered_stays, older_stays, pushed_there}

push_counts : (t : Table) (key : Key) (push : Option (ℕ × Held)) → IfSome push (IsPush t key) → record_count (after_push t key push) ≡ record_count t + one_if (is_some push)
push_counts t key None facts = omega arith
push_counts t key (Some entry) facts =
    let bare = push_bare t key entry facts in
    let none : one_of (column t key entry.0) ≡ 0 = ap one_of bare in
    let count : record_count (after_push t key (Some entry)) + one_of (column t key entry.0) ≡ record_count t + 1 = record_count-with_entry t entry.0 key (Some entry.1) in
    omega arith

-- once the primary's entry is replaced
count_replaced : (t : Table) (key : Key) (new : Option Held) → IsTable t → record_count (replaced t key (push_of t key) new) + one_of (column t key 0) ≡ record_count t + one_if (is_some (push_of t key)) + one_of new
count_replaced t key new lawful =
    let same : one_of (column (after_push t key (push_of t key)) key 0) ≡ one_of (column t key 0) = ap one_of (primary_stays t key (push_of t key) (push_apart t key lawful)) in
    let count : record_count (replaced t key (push_of t key) new) + one_of (column (after_push t key (push_of t key)) key 0) ≡ record_count (after_push t key (push_of t key)) + one_of new
    = record_count-with_entry (after_push t key (push_of t key)) 0 key new in
    let pushes = push_counts t key (push_of t key) (push_facts t key) in
    omega arith

absent_no : (held : Held) → held ≢ Absent → is_absent (Some held) ≡ false
absent_no Absent h = absurd (h refl)
absent_no (Plain stamp small) h = refl
absent_no (Extent stamp block) h = refl
absent_no (Mark stamp) h = refl

own_no_absent : (held : Held) → IsOwn held → is_absent (Some held) ≡ false
own_no_absent Absent own = absurd own
own_no_absent (Plain stamp small) own = refl
own_no_absent (Extent stamp block) own = refl
own_no_absent (Mark stamp) own = absurd own

no_entry : (o : Option Held) → is_some o ≡ false → is_absent o ≡ false
no_entry None h = refl
no_entry (Some held) h = cc

-- where a newer fileset has an entry, that stands in a checkpoint that is gone
said_by_gone : (t : Table) (n : ℕ) (key : Key) → IsOrderly t → newest_live_of t ≡ Some n → 0 < n → list_any (λ id. is_some (column t key id)) (newer t n) ≡ true → says_nothing t (first_holder (column t key) (newer t n)) ≡ false
said_by_gone t n key is newest above some =
    let first = holder_above (column t key) n (map.keys t.filesets) some in
    let gone : is_gone t first.at ≡ true = gone_above t n first.at key is newest above first.more (ap is_some first.has) in
    ap (says_nothing t) first.is ∙ not_second (is_absent (Some first.held)) (not (is_gone t first.at)) (ap not gone)

same_any : (c d : ℕ → Option Held) (ids : List ℕ) → AllByRecursion (λ x. d x ≡ c x) ids → list_any (λ id. is_some (d id)) ids ≡ list_any (λ id. is_some (c id)) ids
same_any c d [] same = refl
same_any c d (x ∷ ids) same = λ i. is_some (same.0 i) || same_any c d ids same.1 i

-- no column above the newest checkpoint changes
newer_stay : (t : Table) (n : ℕ) (key : Key) (new : Option Held) → 0 < n → AllByRecursion (λ x. column (after t n key new) key x ≡ column t key x) (newer t n)
newer_stay t n key new above = each_above (λ x. column (after t n key new) key x ≡ column t key x) n (map.keys t.filesets) (λ x more. older_stays t n key new x (omega arith) (omega arith))

primary_after : (t : Table) (n : ℕ) (key : Key) (new : Option Held) → column (after t n key new) key 0 ≡ new
primary_after t n key new = column-after t n key new 0 ∙ grind (arith, nat_tests)

-- where no newer fileset has an entry, the primary's new one is the next
primary_next : (t : Table) (n : ℕ) (key : Key) (new : Option Held) → 0 < n → list_any (λ id. is_some (column t key id)) (newer t n) ≡ false → first_holder (column (after t n key new) key) (newer t n) ≡ option_map (λ entry. (0, entry)) new
primary_next t n key new above none =
    let d = column (after t n key new) key in
    none_holder d (newer t n) (same_any (column t key) d (newer t n) (newer_stay t n key new above) ∙ none)
    ∙ ap (option_map (λ entry. (0, entry))) (primary_after t n key new)

-- where one has, it says something
newer_says : (t : Table) (n : ℕ) (key : Key) (new : Option Held) → IsOrderly t → newest_live_of t ≡ Some n → 0 < n → list_any (λ id. is_some (column t key id)) (newer t n) ≡ true → is_needless (after t n key new) n key ≡ false
newer_says t n key new is newest above some =
    let d = column (after t n key new) key in
    ap (λ o. is_absent (d n) && says_nothing t o) (some_holder (column t key) d (newer t n) some (newer_stay t n key new above))
    ∙ not_second (is_absent (d n)) _ (said_by_gone t n key is newest above some)

-- a deletion where the newest checkpoint or a newer one has an entry
needless_covered : (t : Table) (n : ℕ) (key : Key) → IsOrderly t → newest_live_of t ≡ Some n → 0 < n → is_covered t n key ≡ true → is_needless (after t n key None) n key ≡ absent_goes t key (Some n)
needless_covered t n key is newest above covered = go (list_any (λ id. is_some (column t key id)) (newer t n)) refl
  where
    go : (some : Bool) → list_any (λ id. is_some (column t key id)) (newer t n) ≡ some → is_needless (after t n key None) n key ≡ absent_goes t key (Some n)
    go true h = newer_says t n key None is newest above h ∙ sym (not_second (is_absent (column t key n)) _ (ap not h))
    go false h =
        ap (λ o. is_absent (column (after t n key None) key n) && says_nothing t o) (primary_next t n key None above h)
        ∙ ap (λ o. is_absent o && true) (covered_stays t n key None covered n above)
        ∙ sym (ap (λ b. is_absent (column t key n) && not b) h)

-- and where none has
needless_bare : (t : Table) (n : ℕ) (key : Key) → IsOrderly t → 0 < n → IsSome (column t key 0) → is_covered t n key ≡ false → is_needless (after t n key None) n key ≡ absent_goes t key (Some n)
needless_bare t n key is above there bare =
    let u = after t n key None in
    let pushes : is_absent (column u key n) ≡ false = ap is_absent (pushed_there t n key None above bare) ∙
    elim (column t key 0) as (λ o. column t key 0 ≡ o → IsSome o → is_absent (Some (pushed (keeps_data t n) o)) ≡ false) [
      | None ↦ λ at some. absurd (false≢true some)
      | Some old ↦ λ at some. absent_no (pushed (keeps_data t n) (Some old)) (own_pushed (keeps_data t n) old (is.primary key old at))
    ] refl there in
    not_first (is_absent (column u key n)) _ pushes
    ∙ sym (not_first (is_absent (column t key n)) _ (no_entry (column t key n) (or_left (is_some (column t key n)) _ bare)))

-- the newest checkpoint's entry is needless after a deletion exactly where it is an absent that only the primary's made needed
needless_deleted : (t : Table) (n : ℕ) (key : Key) → IsOrderly t → newest_live_of t ≡ Some n → 0 < n → IsSome (column t key 0) → is_needless (after t n key None) n key ≡ absent_goes t key (Some n)
needless_deleted t n key is newest above there = go (is_covered t n key) refl
  where
    go : (covered : Bool) → is_covered t n key ≡ covered → is_needless (after t n key None) n key ≡ absent_goes t key (Some n)
    go true h = needless_covered t n key is newest above h
    go false h = needless_bare t n key is above there h

-- and never after another change
pub needless_set : (t : Table) (n : ℕ) (key : Key) (new : Held) → IsOrderly t → newest_live_of t ≡ Some n → 0 < n → IsOwn new → is_needless (after t n key (Some new)) n key ≡ false
needless_set t n key new is newest above own = go (list_any (λ id. is_some (column t key id)) (newer t n)) refl
  where
    go : (some : Bool) → list_any (λ id. is_some (column t key id)) (newer t n) ≡ some → is_needless (after t n key (Some new)) n key ≡ false
    go true h = newer_says t n key (Some new) is newest above h
    go false h =
        ap (λ o. is_absent (column (after t n key (Some new)) key n) && says_nothing t o) (primary_next t n key (Some new) above h)
        ∙ not_second (is_absent (column (after t n key (Some new)) key n)) _ (not_first (is_absent (Some new)) _ (own_no_absent new own))

-- a fact for each newest checkpoint that there may be
pub each_newest : (t : Table) (P : Option ℕ → Type 0) → IsTable t → P None → ((n : ℕ) → newest_live_of t ≡ Some n → 0 < n → P (Some n)) → P (newest_live_of t)
each_newest t P lawful none some =
    elim (newest_live_of t) as (λ o. newest_live_of t ≡ o → IfSome o (λ n. is_live t n ≡ true) → P o) [
      | None ↦ λ newest passes. none
      | Some n ↦ λ newest passes. some n newest (let least = positive_id t n lawful (live_stands t n passes) in omega arith)
    ] refl (last_passes (is_live t) (newer t 0))

-- the records after a deletion
pub count_deleted : (t : Table) (key : Key) → IsTable t → IsOrderly t → IsSome (column t key 0)
    → record_count (changed t key None) + (1 + one_if (absent_goes t key (newest_live_of t))) ≡ record_count t + one_if (is_some (push_of t key))
count_deleted t key lawful is there =
    let u = replaced t key (push_of t key) None in
    let tidies : record_count (changed t key None) + one_if (absent_goes t key (newest_live_of t)) ≡ record_count u =
    each_newest t (λ o. record_count (tidied_in (replaced t key (push_into t key o) None) key o) + one_if (absent_goes t key o) ≡ record_count (replaced t key (push_into t key o) None)) lawful
    (omega arith)
    (λ n newest above. ap (λ b. record_count (tidied (after t n key None) n key) + one_if b) (sym (needless_deleted t n key is newest above there)) ∙ tidied_count (after t n key None) n key) in
    let one : one_of (column t key 0) ≡ 1 = ap (λ b. cond b 1 0) there in
    let count : record_count u + one_of (column t key 0) ≡ record_count t + one_if (is_some (push_of t key)) + 0 = count_replaced t key None lawful in
    omega arith

not_there : (o : Option Held) → one_of o + one_if (not (is_some o)) ≡ 1
not_there None = refl
not_there (Some held) = refl

and_none : {x y : ℕ} → x + 0 ≡ y → x ≡ y
and_none h = omega arith

-- and after another change
pub count_set : (t : Table) (key : Key) (new : Held) → IsTable t → IsOrderly t → IsOwn new
    → record_count (changed t key (Some new)) ≡ record_count t + (one_if (is_some (push_of t key)) + one_if (not (is_some (column t key 0))))
count_set t key new lawful is own =
    let u = replaced t key (push_of t key) (Some new) in
    let tidies : record_count (changed t key (Some new)) ≡ record_count u =
    each_newest t (λ o. record_count (tidied_in (replaced t key (push_into t key o) (Some new)) key o) ≡ record_count (replaced t key (push_into t key o) (Some new))) lawful
    refl
    (λ n newest above. and_none (ap (λ b. record_count (tidied (after t n key (Some new)) n key) + one_if b) (sym (needless_set t n key new is newest above own)) ∙ tidied_count (after t n key (Some new)) n key)) in
    let other : one_of (column t key 0) + one_if (not (is_some (column t key 0))) ≡ 1 = not_there (column t key 0) in
    let count : record_count u + one_of (column t key 0) ≡ record_count t + one_if (is_some (push_of t key)) + 1 = count_replaced t key (Some new) lawful in
    omega arith

-- the records after a change
pub count_changed : (t : Table) (change : Change) (stamp : ℕ) → IsTable t → IsOrderly t → (value_after change stamp ≡ None → IsSome (column t (key_of change) 0))
    → record_count (changed t (key_of change) (value_after change stamp)) + loss t change ≡ record_count t + gain t change
count_changed t (Put key small) stamp lawful is there = let count = count_set t key (Plain stamp small) lawful is tt in omega arith
count_changed t (Write number index block) stamp lawful is there = let count = count_set t (Block number index) (Extent stamp block) lawful is tt in omega arith
count_changed t (Del key) stamp lawful is there = let count = count_deleted t key lawful is (there refl) in omega arith
