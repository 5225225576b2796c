-- An entry that says what the next newer one says is an absent, since no version of a key stands twice.
use Rattle.std.proofs.Common.{◌≡◌, ◌↔◌, ℕ, ◌<◌, Bool, true, false, ◌&&◌, not, ◌⊎◌, inl, inr, Option, Some, None, is_some, IsSome, IfSome, if◌then◌else◌, refl, sym, ap, subst, ◌∙◌, arith}
use Rattle.std.specs.Option.{option_map}
use Rattle.std.specs.List.{list_any}
use Rattle.std.specs.FinMap as map
use mathlib.Core.Bool.{false≢true}
use Rattle.std.proofs.lemmas.Bool.Decides.{nat_tests}
use Rattle.ck_model.specs.declared.key.Key.{Key}
use Rattle.ck_model.specs.declared.held.Held.{Held}
use Rattle.ck_model.specs.declared.held.Held.TheVariants.{Absent, Plain, Extent, Mark}
use Rattle.ck_model.specs.Table.{Table, column, newer, written}
use Rattle.ck_model.specs.Chain.{first_entry, is_gone, present}
use Rattle.ck_model.specs.Rules.{IsOrderly, first_holder, stamp_in}
use Rattle.ck_model.proofs.CaseLaws.{and_right, some_same}
use Rattle.ck_chain.specs.Needless.{is_absent, is_needless, says_nothing, tidied, SaysSame}
use Rattle.ck_chain.proofs.ColumnLaws.{column-with_entry}
use Rattle.ck_chain.proofs.HolderLaws.{entry_of_holder, holder_above, needless_same, none_holder}

from_primary : (o : Option Held) (h : ℕ × Held) → option_map (λ entry. (0, entry)) o ≡ Some h → (o ≡ Some h.1) × (h.0 ≡ 0)
from_primary None h e = cc
from_primary (Some held) h e = let same = some_same (0, held) h e in (ap (λ (p : ℕ × Held). Some p.1) same, sym (ap (λ (p : ℕ × Held). p.0) same))

-- the first holder has its entry, and is the primary or newer
pub holder_place : (t : Table) (key : Key) (fs : ℕ) (h : ℕ × Held) → first_holder (column t key) (newer t fs) ≡ Some h → (column t key h.0 ≡ Some h.1) × ((h.0 ≡ 0) ⊎ (fs < h.0))
holder_place t key fs h is = go (list_any (λ id. is_some (column t key id)) (newer t fs)) refl
  where
    go : (some : Bool) → list_any (λ id. is_some (column t key id)) (newer t fs) ≡ some → (column t key h.0 ≡ Some h.1) × ((h.0 ≡ 0) ⊎ (fs < h.0))
    go true e =
        let first = holder_above (column t key) fs (map.keys t.filesets) e in
        let same = some_same (first.at, first.held) h (sym first.is ∙ is) in
        (subst (λ (p : ℕ × Held). column t key p.0 ≡ Some p.1) same first.has, inr (subst (λ (p : ℕ × Held). fs < p.0) same first.more))
    go false e =
        let at = from_primary (column t key 0) h (sym (none_holder (column t key) (newer t fs) e) ∙ is) in
        (ap (column t key) at.1 ∙ at.0, inl at.1)

found_holder : (holder : Option (ℕ × Held)) (held : Held) → present (option_map (λ (h : ℕ × Held). h.1) holder) ≡ Some held → (h : ℕ × Held) × ((holder ≡ Some h) × (h.1 ≡ held))
found_holder None held e = cc
found_holder (Some h) held e = (h, (refl, shown h.1 held e))
  where
    shown : (x held : Held) → present (Some x) ≡ Some held → x ≡ held
    shown Absent held e = cc
    shown (Plain stamp small) held e = cc
    shown (Extent stamp block) held e = cc
    shown (Mark stamp) held e = cc

-- no other entry says what an entry with a version says
no_other : (t : Table) (fs : ℕ) (key : Key) (held : Held) (stamp : ℕ) → IsOrderly t → 0 < fs → column t key fs ≡ Some held → stamp_in held ≡ Some stamp
    → Some held ≡ present (first_entry (column t key) (newer t fs)) → ⊥
no_other t fs key held stamp is above at of same =
    let found = found_holder (first_holder (column t key) (newer t fs)) held (sym (ap present (entry_of_holder (column t key) (newer t fs))) ∙ sym same) in
    let place = holder_place t key fs found.0 found.1.0 in
    let one : fs ≡ found.0.0 = is.versions fs found.0.0 key held found.0.1 stamp at place.0 of (ap stamp_in found.1.1 ∙ of) in
    elim place.1 [ inl zero ↦ absurd (omega arith) | inr more ↦ absurd (omega arith) ]

same_is_absent : (t : Table) (fs : ℕ) (key : Key) (held : Held) → IsOrderly t → 0 < fs → column t key fs ≡ Some held → present (Some held) ≡ present (first_entry (column t key) (newer t fs)) → held ≡ Absent
same_is_absent t fs key Absent is above at same = refl
same_is_absent t fs key (Plain stamp small) is above at same = absurd (no_other t fs key (Plain stamp small) stamp is above at refl same)
same_is_absent t fs key (Extent stamp block) is above at same = absurd (no_other t fs key (Extent stamp block) stamp is above at refl same)
same_is_absent t fs key (Mark stamp) is above at same = absurd (no_other t fs key (Mark stamp) stamp is above at refl same)

quiet : (t : Table) (holder : Option (ℕ × Held)) → present (option_map (λ (h : ℕ × Held). h.1) holder) ≡ None → IfSome holder (λ h. is_gone t h.0 ≡ false) → says_nothing t holder ≡ true
quiet t None none stands = refl
quiet t (Some h) none stands = absent_here t h.0 h.1 none stands
  where
    absent_here : (t : Table) (g : ℕ) (held : Held) → present (Some held) ≡ None → is_gone t g ≡ false → (is_absent (Some held) && not (is_gone t g)) ≡ true
    absent_here t g Absent none stands = ap not stands
    absent_here t g (Plain stamp small) none stands = cc
    absent_here t g (Extent stamp block) none stands = cc
    absent_here t g (Mark stamp) none stands = cc

stands_still : (t : Table) (holder : Option (ℕ × Held)) → says_nothing t holder ≡ true → IfSome holder (λ h. is_gone t h.0 ≡ false)
stands_still t None h = tt
stands_still t (Some holder) h = unless (is_absent (Some holder.1)) (is_gone t holder.0) h
  where
    unless : (a b : Bool) → (a && not b) ≡ true → b ≡ false
    unless true true h = cc
    unless true false h = refl
    unless false b h = cc

-- the entry that says the same is the one that is needless
pub needless_says_same : (t : Table) (fs : ℕ) (key : Key) → is_needless t fs key ≡ true → SaysSame t fs key
needless_says_same t fs key h = record {
  value = needless_same t fs key h;
  stands = stands_still t (first_holder (column t key) (newer t fs)) (and_right (is_absent (column t key fs)) _ h);
}

pub same_is_needless : (t : Table) (fs : ℕ) (key : Key) → IsOrderly t → 0 < fs → IsSome (column t key fs) → SaysSame t fs key → is_needless t fs key ≡ true
same_is_needless t fs key is above some same =
    elim (column t key fs) as (λ o. column t key fs ≡ o → IsSome o → is_needless t fs key ≡ true) [
      | None ↦ λ none some. absurd (false≢true some)
      | Some held ↦ λ at some.
          let absent : held ≡ Absent = same_is_absent t fs key held is above at (sym (ap present at) ∙ same.value) in
          let there : column t key fs ≡ Some Absent = at ∙ ap (λ (x : Held). Some x) absent in
          let none : present (option_map (λ (h : ℕ × Held). h.1) (first_holder (column t key) (newer t fs))) ≡ None = sym (ap present (entry_of_holder (column t key) (newer t fs))) ∙ sym same.value ∙ ap present there in
          ap (λ o. is_absent o && says_nothing t (first_holder (column t key) (newer t fs))) there ∙ quiet t (first_holder (column t key) (newer t fs)) none same.stands
    ] refl some

-- an entry goes exactly where the newer filesets say the same
pub goes_where_same : (t : Table) (fs : ℕ) (key : Key) → IsOrderly t → 0 < fs → IsSome (column t key fs) → (column (tidied t fs key) key fs ≡ None) ↔ SaysSame t fs key
goes_where_same t fs key is above some = (gone, went)
  where
    gone : column (tidied t fs key) key fs ≡ None → SaysSame t fs key
    gone = elim (is_needless t fs key) as (λ b. is_needless t fs key ≡ b → column (record t { entries = if b then written t.entries fs key None else t.entries }) key fs ≡ None → SaysSame t fs key) [
      | true ↦ λ h none. needless_says_same t fs key h
      | false ↦ λ h none. absurd (false≢true (sym (ap is_some none) ∙ some))
    ] refl

    went : SaysSame t fs key → column (tidied t fs key) key fs ≡ None
    went same =
        ap (λ (b : Bool). column (record t { entries = if b then written t.entries fs key None else t.entries }) key fs) (same_is_needless t fs key is above some same)
        ∙ column-with_entry t fs key None fs ∙ grind (arith, nat_tests)
