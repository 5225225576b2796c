-- What the conditions of a change give, and the checkpoints' entries after it.
use Rattle.std.proofs.Common.{◌≡◌, ◌≢◌, ℕ, ◌<◌, Bool, true, false, cond, ◌⊎◌, inl, inr, Option, Some, None, is_some, IsSome, IfSome, nat_eq, if◌then◌else◌, refl, sym, ap, subst, ◌∙◌, arith}
use mathlib.Core.Bool.{false≢true}
use Rattle.std.proofs.lemmas.Bool.Decides.{nat_tests}
use Rattle.ck_model.specs.declared.key.Key.{Key}
use Rattle.ck_model.specs.declared.held.Held.{Held}
use Rattle.ck_model.specs.declared.held.Held.TheVariants.{Absent}
use Rattle.ck_model.specs.declared.change.Change.{Change}
use Rattle.ck_model.specs.declared.change.Change.TheVariants.{Put, Write, Del}
use Rattle.ck_model.specs.Table.{Table, IsTable, newer, column, with_entry, written}
use Rattle.ck_model.specs.Chain.{is_covered, is_live, newest_live_of, keeps_data}
use Rattle.ck_model.specs.Rules.{IsOrderly, IsOwn, KeyBelow, HeldBelow, stamp_in}
use Rattle.ck_model.proofs.CaseLaws.{some_is, some_same}
use Rattle.ck_chain.specs.Kept.{pushed}
use Rattle.ck_chain.specs.Named.{block_of, IsNamed}
use Rattle.ck_chain.specs.Needless.{tidied}
use Rattle.ck_chain.specs.Changes.{key_of, is_deletion, value_after}
use Rattle.ck_chain.proofs.ReadLaws.{last_passes}
use Rattle.ck_chain.proofs.ColumnLaws.{column-with_entry}
use Rattle.ck_chain.proofs.TidyLaws.{column-tidied}
use Rattle.ck_push.specs.Changed.{push_into, push_of, replaced, tidied_in, changed}
use Rattle.ck_push.proofs.PushLemmas.{MaySet, IsPush, push_facts, push_above, push_bare, map_some}
use Rattle.ck_push.proofs.SeenLemmas.{after}
use Rattle.ck_push.proofs.NeedLemmas.{own_pushed, pushed_there}
use Rattle.ck_push.proofs.CountLemmas.{needless_set}

-- a change that leaves nothing is a deletion
pub deletes : (change : Change) (stamp : ℕ) → value_after change stamp ≡ None → is_deletion change ≡ true
deletes (Put key small) stamp h = cc
deletes (Write number index block) stamp h = cc
deletes (Del key) stamp h = refl

-- and its numbers were given
pub key_below : (t : Table) (change : Change) (stamp : ℕ) → IsOrderly t → (is_deletion change ≡ true → IsSome (column t (key_of change) 0))
    → IfSome (value_after change stamp) (λ held. KeyBelow t.counters.number (key_of change) × HeldBelow t.counters.number held) → KeyBelow t.counters.number (key_of change)
key_below t (Put key small) stamp is there numbers = numbers.0
key_below t (Write number index block) stamp is there numbers = numbers.0
key_below t (Del key) stamp is there numbers = let found = some_is (column t key 0) (there refl) in (is.numbers 0 key found.0 found.1).0

-- the new entry may become the primary's
pub may_set : (t : Table) (change : Change) (stamp : ℕ) → stamp < t.counters.stamp
    → ((fs : ℕ) (held : Held) → column t (key_of change) fs ≡ Some held → stamp_in held ≢ Some stamp)
    → IfSome (value_after change stamp) (λ held. KeyBelow t.counters.number (key_of change) × HeldBelow t.counters.number held)
    → IfSome (block_of (value_after change stamp)) (λ block. (block < t.blocks) × (IsNamed t block → ⊥))
    → IfSome (value_after change stamp) (MaySet t (key_of change))
may_set t (Put key small) stamp next version numbers block = record {
  stamp = next;
  number = numbers;
  block = tt;
  own = tt;
  free = λ at names named. cc;
  version = λ fs again s at of_again of_new. version fs again at (of_again ∙ sym of_new);
}
may_set t (Write number index place) stamp next version numbers block = record {
  stamp = next;
  number = numbers;
  block = block.0;
  own = tt;
  free = λ at names named. block.1 (subst (IsNamed t) (sym (same_number place at names)) named);
  version = λ fs again s at of_again of_new. version fs again at (of_again ∙ sym of_new);
}
  where
    same_number : (x y : ℕ) → ◌≡◌ {A = Option ℕ} (Some x) (Some y) → x ≡ y
    same_number x y h = cc
may_set t (Del key) stamp next version numbers block = tt

-- the new entry names no block that was named
pub new_block : (t : Table) (change : Change) (stamp : ℕ) → IfSome (block_of (value_after change stamp)) (λ block. (block < t.blocks) × (IsNamed t block → ⊥))
    → (block : ℕ) → block_of (value_after change stamp) ≡ Some block → IsNamed t block → ⊥
new_block t change stamp free block is = (subst (λ o. IfSome o (λ at. (at < t.blocks) × (IsNamed t at → ⊥))) is free).1

there_twice : (o : Option Held) → o ≡ None → IsSome o → ⊥
there_twice o none some = false≢true (sym (ap is_some none) ∙ some)

-- an entry of a checkpoint stays as the primary's is replaced
replaced_entry : (t : Table) (key : Key) (push : Option (ℕ × Held)) (new : Option Held) → IfSome push (IsPush t key) → (fs : ℕ) → 0 < fs → IsSome (column t key fs) → column (replaced t key push new) key fs ≡ column t key fs
replaced_entry t key None new facts fs above some = column-with_entry t 0 key new fs ∙ grind (arith, nat_tests)
replaced_entry t key (Some entry) new facts fs above some =
    let last : column (replaced t key (Some entry) new) key fs ≡ column (with_entry t entry.0 key (Some entry.1)) key fs = column-with_entry (with_entry t entry.0 key (Some entry.1)) 0 key new fs ∙ grind (arith, nat_tests) in
    last ∙ column-with_entry t entry.0 key (Some entry.1) fs
    ∙ elim (nat_eq fs entry.0) as (λ b. nat_eq fs entry.0 ≡ b → cond b (Some entry.1) (column t key fs) ≡ column t key fs) [
      | true ↦ λ e. let same : fs ≡ entry.0 = grind (arith, nat_tests) in absurd (there_twice (column t key fs) (ap (column t key) same ∙ push_bare t key entry facts) some)
      | false ↦ λ e. refl
    ] refl

-- it stays after a change, or was an absent that goes
pub entry_stays : (t : Table) (key : Key) (new : Option Held) → IsTable t → (fs : ℕ) → 0 < fs → IsSome (column t key fs)
    → (column (changed t key new) key fs ≡ column t key fs) ⊎ ((column t key fs ≡ Some Absent) × (column (changed t key new) key fs ≡ None))
entry_stays t key new lawful fs above some =
    let u = replaced t key (push_of t key) new in
    let first : column u key fs ≡ column t key fs = replaced_entry t key (push_of t key) new (push_facts t key) fs above some in
    elim (newest_live_of t) as (λ o. (column (tidied_in u key o) key fs ≡ column t key fs) ⊎ ((column t key fs ≡ Some Absent) × (column (tidied_in u key o) key fs ≡ None))) [
      | None ↦ inl first
      | Some n ↦ elim (column-tidied u n key fs key) [
        | inl same ↦ inl (same ∙ first)
        | inr gone ↦ inr (sym first ∙ gone.2, gone.3)
      ]
    ]

-- where a checkpoint has no entry and gets none, it has none as the primary's is replaced
replaced_bare : (t : Table) (key : Key) (push : Option (ℕ × Held)) (new : Option Held) (fs : ℕ) → 0 < fs → IfSome push (λ entry. entry.0 ≢ fs) → column (replaced t key push new) key fs ≡ column t key fs
replaced_bare t key None new fs above apart = column-with_entry t 0 key new fs ∙ grind (arith, nat_tests)
replaced_bare t key (Some entry) new fs above apart =
    let last : column (replaced t key (Some entry) new) key fs ≡ column (with_entry t entry.0 key (Some entry.1)) key fs = column-with_entry (with_entry t entry.0 key (Some entry.1)) 0 key new fs ∙ grind (arith, nat_tests) in
    last ∙ column-with_entry t entry.0 key (Some entry.1) fs
    ∙ elim (nat_eq fs entry.0) as (λ b. nat_eq fs entry.0 ≡ b → cond b (Some entry.1) (column t key fs) ≡ column t key fs) [
      | true ↦ λ e. let same : fs ≡ entry.0 = grind (arith, nat_tests) in absurd (apart (sym same))
      | false ↦ λ e. refl
    ] refl

-- and after a change
pub bare_stays : (t : Table) (key : Key) (new : Option Held) (fs : ℕ) → 0 < fs → IfSome (push_of t key) (λ entry. entry.0 ≢ fs) → column t key fs ≡ None → column (changed t key new) key fs ≡ None
bare_stays t key new fs above apart none =
    let u = replaced t key (push_of t key) new in
    let first : column u key fs ≡ None = replaced_bare t key (push_of t key) new fs above apart ∙ none in
    elim (newest_live_of t) as (λ o. column (tidied_in u key o) key fs ≡ None) [
      | None ↦ first
      | Some n ↦ elim (column-tidied u n key fs key) [ inl same ↦ same ∙ first | inr gone ↦ gone.3 ]
    ]

-- what is pushed is there, also after the tidying
push_there : (t : Table) (n : ℕ) (key : Key) (new : Option Held) → IsOrderly t → newest_live_of t ≡ Some n → 0 < n → is_covered t n key ≡ false → IfSome new IsOwn → (new ≡ None → IsSome (column t key 0))
    → column (tidied (after t n key new) n key) key n ≡ Some (pushed (keeps_data t n) (column t key 0))
push_there t n key None is newest above bare own there =
    let u = after t n key None in
    let pushes : column u key n ≡ Some (pushed (keeps_data t n) (column t key 0)) = pushed_there t n key None above bare in
    elim (column-tidied u n key n key) [
      | inl same ↦ same ∙ pushes
      | inr gone ↦
          let old = some_is (column t key 0) (there refl) in
          let absent : pushed (keeps_data t n) (Some old.0) ≡ Absent = some_same _ _ (ap (λ o. Some (pushed (keeps_data t n) o)) (sym old.1) ∙ sym pushes ∙ gone.2) in
          absurd (own_pushed (keeps_data t n) old.0 (is.primary key old.0 old.1) absent)
    ]
push_there t n key (Some new) is newest above bare own there =
    let u = after t n key (Some new) in
    ap (λ (b : Bool). column (record u { entries = if b then written u.entries n key None else u.entries }) key n) (needless_set t n key new is newest above own)
    ∙ pushed_there t n key (Some new) above bare

push_at : (t : Table) (key : Key) (new : Option Held) (entry : ℕ × Held) → IsTable t → IsOrderly t → IfSome new IsOwn → (new ≡ None → IsSome (column t key 0)) → IsPush t key entry → column (changed t key new) key entry.0 ≡ Some entry.1
push_at t key new entry lawful is own there push =
    ap (λ o. column (tidied_in (replaced t key (push_into t key o) new) key o) key entry.0) push.newest
    ∙ push_there t entry.0 key new is push.newest (push_above t key entry lawful push) push.bare own there
    ∙ ap (λ (h : Held). Some h) (sym push.is)

pub push_stays : (t : Table) (key : Key) (new : Option Held) → IsTable t → IsOrderly t → IfSome new IsOwn → (new ≡ None → IsSome (column t key 0))
    → IfSome (push_of t key) (λ entry. column (changed t key new) key entry.0 ≡ Some entry.1)
push_stays t key new lawful is own there = map_some (IsPush t key) (λ entry. column (changed t key new) key entry.0 ≡ Some entry.1) (push_of t key) (λ entry push. push_at t key new entry lawful is own there push) (push_facts t key)

-- what a change sets may stand in the primary
pub own_value : (change : Change) (stamp : ℕ) → IfSome (value_after change stamp) IsOwn
own_value (Put key small) stamp = tt
own_value (Write number index block) stamp = tt
own_value (Del key) stamp = tt

-- the newest checkpoint isn't gone
pub newest_live : (t : Table) → IfSome (newest_live_of t) (λ n. is_live t n ≡ true)
newest_live t = last_passes (is_live t) (newer t 0)
