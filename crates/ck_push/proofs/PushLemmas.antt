-- What is pushed, and the rules of the table in which the primary's entry is replaced.
use Rattle.std.proofs.Common.{◌≡◌, ◌≢◌, ℕ, ◌<◌, Bool, true, false, ◌||◌, ◌⊎◌, inl, inr, Option, Some, None, is_some, IfSome, if◌then◌else◌, refl, sym, ap, subst, ◌∙◌, arith}
use Rattle.ck_model.specs.declared.key.Key.{Key}
use Rattle.ck_model.specs.declared.held.Held.{Held}
use Rattle.ck_model.specs.declared.held.Held.TheVariants.{Absent, Plain, Extent, Mark}
use Rattle.ck_model.specs.Table.{Table, IsTable, newer, column, with_entry}
use Rattle.ck_model.specs.Held.{IsEntry, IsKey}
use Rattle.ck_model.specs.Chain.{is_covered, is_live, keeps_data, newest_live_of}
use Rattle.ck_model.specs.Rules.{IsOrderly, IsOwn, KeyBelow, HeldBelow, stamp_in, block_in}
use Rattle.ck_model.proofs.CaseLaws.{some_same}
use Rattle.ck_chain.specs.Kept.{pushed}
use Rattle.ck_chain.specs.Named.{IsNamed}
use Rattle.ck_chain.specs.Fits.{Fits}
use Rattle.ck_chain.proofs.ReadLaws.{last_passes, live_stands}
use Rattle.ck_chain.proofs.OrderlyLaws.{orderly_with, orderly_without, positive_id, still_stood, written_or_before}
use Rattle.ck_chain.proofs.PushedLaws.{fits_moved, fits_absent, stamp_pushed, block_pushed, entry_pushed}
use Rattle.ck_chain.proofs.NameLaws.{named_entry}
use Rattle.ck_push.specs.Changed.{push_into, push_of, replaced}
use Rattle.ck_push.proofs.ReplacedLemmas.{after_push, replaced_in_steps}

-- the primary's entry goes into the newest checkpoint that isn't gone, where neither it nor a newer one has an entry
pub record IsPush (t : Table) (key : Key) (entry : ℕ × Held) : Type 0 where
  pub newest : newest_live_of t ≡ Some entry.0
  pub live : is_live t entry.0 ≡ true
  pub bare : is_covered t entry.0 key ≡ false
  pub is : entry.1 ≡ pushed (keeps_data t entry.0) (column t key 0)

pub push_facts : (t : Table) (key : Key) → IfSome (push_of t key) (IsPush t key)
push_facts t key =
    elim (newest_live_of t) as (λ o. newest_live_of t ≡ o → IfSome o (λ n. is_live t n ≡ true) → IfSome (push_into t key o) (IsPush t key)) [
      | None ↦ λ newest live. tt
      | Some n ↦ λ newest live.
          elim (is_covered t n key) as (λ b. is_covered t n key ≡ b → IfSome (if b then None else Some (n, pushed (keeps_data t n) (column t key 0))) (IsPush t key)) [
            | true ↦ λ covered. tt
            | false ↦ λ bare. record { newest = newest; live = live; bare = bare; is = refl }
          ] refl
    ] refl (last_passes (is_live t) (newer t 0))

no_entry : (o : Option Held) (b : Bool) → (is_some o || b) ≡ false → o ≡ None
no_entry None b h = refl
no_entry (Some held) b h = cc

-- the checkpoint has no entry yet
pub push_bare : (t : Table) (key : Key) (entry : ℕ × Held) → IsPush t key entry → column t key entry.0 ≡ None
push_bare t key entry is = no_entry (column t key entry.0) _ is.bare

pub push_above : (t : Table) (key : Key) (entry : ℕ × Held) → IsTable t → IsPush t key entry → 0 < entry.0
push_above t key entry lawful is = let least = positive_id t entry.0 lawful (live_stands t entry.0 is.live) in omega arith

pub map_some : {X : Type 0} (P Q : X → Type 0) (o : Option X) → ((x : X) → P x → Q x) → IfSome o P → IfSome o Q
map_some P Q None step h = tt
map_some P Q (Some x) step h = step x h

pub push_apart : (t : Table) (key : Key) → IsTable t → IfSome (push_of t key) (λ entry. entry.0 ≢ 0)
push_apart t key lawful = map_some (IsPush t key) (λ entry. entry.0 ≢ 0) (push_of t key) (λ entry is zero. let above = push_above t key entry lawful is in absurd (omega arith)) (push_facts t key)

-- what is pushed is an entry that a table may have
pub push_entry : (t : Table) (key : Key) → IsTable t → IsKey key → IfSome (push_of t key) (λ entry. IsEntry key entry.1)
push_entry t key lawful place = map_some (IsPush t key) (λ entry. IsEntry key entry.1) (push_of t key) (λ entry is.
    subst (IsEntry key) (sym is.is) (
    elim (column t key 0) as (λ o. column t key 0 ≡ o → IsEntry key (pushed (keeps_data t entry.0) o)) [
      | None ↦ λ at. record { place = place; value = tt }
      | Some held ↦ λ at. entry_pushed (keeps_data t entry.0) key held (lawful.entries 0 key held at).1
    ] refl)) (push_facts t key)

own_no_mark : (held : Held) (stamp : ℕ) → IsOwn held → held ≡ Mark stamp → ⊥
own_no_mark Absent stamp own h = own
own_no_mark (Plain at small) stamp own h = cc
own_no_mark (Extent at block) stamp own h = cc
own_no_mark (Mark at) stamp own h = own

-- what is pushed fits once the primary's entry is away
push_fits : (t : Table) (key : Key) (entry : ℕ × Held) → IsTable t → IsOrderly t → KeyBelow t.counters.number key → IsPush t key entry → Fits (with_entry t 0 key None) entry.0 key entry.1
push_fits t key entry lawful is below push =
    let above = push_above t key entry lawful push in
    let stands = live_stands t entry.0 push.live in
    subst (Fits (with_entry t 0 key None) entry.0 key) (sym push.is) (
    elim (column t key 0) as (λ o. column t key 0 ≡ o → Fits (with_entry t 0 key None) entry.0 key (pushed (keeps_data t entry.0) o)) [
      | None ↦ λ at. fits_absent (with_entry t 0 key None) entry.0 key above stands below
      | Some held ↦ λ at. fits_moved t 0 entry.0 key held is at above stands (λ stamp mark. absurd (own_no_mark held stamp (is.primary key held at) mark))
    ] refl)

-- an entry of the table with the primary's away and the push made: one of before, the primary's moved, or an absent
abbrev pub Comes : Table → Key → ℕ → Key → Held → Type 0
Comes t key g q held = (column t q g ≡ Some held) ⊎ (((q ≡ key) × ((old : Held) × ((column t key 0 ≡ Some old) × ((keeps : Bool) × (held ≡ pushed keeps (Some old)))))) ⊎ (held ≡ Absent))

-- the pushed entry is the primary's moved, or an absent
pushed_comes : (t : Table) (key : Key) (entry : ℕ × Held) (g : ℕ) (q : Key) (held : Held) → IsPush t key entry → q ≡ key → entry.1 ≡ held → Comes t key g q held
pushed_comes t key entry g q held push at same =
    let is : held ≡ pushed (keeps_data t entry.0) (column t key 0) = sym same ∙ push.is in
    elim (column t key 0) as (λ o. column t key 0 ≡ o → held ≡ pushed (keeps_data t entry.0) o → Comes t key g q held) [
      | None ↦ λ none h. inr (inr h)
      | Some old ↦ λ there h. inr (inl (at, (old, (there, (keeps_data t entry.0, h)))))
    ] refl is

pub entry_comes : (t : Table) (key : Key) (push : Option (ℕ × Held)) → IfSome push (IsPush t key) → (g : ℕ) (q : Key) (held : Held)
    → column (after_push (with_entry t 0 key None) key push) q g ≡ Some held → Comes t key g q held
entry_comes t key None facts g q held at = inl (still_stood t 0 key g q held at)
entry_comes t key (Some entry) facts g q held at = elim (written_or_before (with_entry t 0 key None) entry.0 key (Some entry.1) g q held at) [
  | inl is ↦ pushed_comes t key entry g q held facts is.1 (some_same entry.1 held is.2)
  | inr stood ↦ inl (still_stood t 0 key g q held stood)
]

-- its block was named before
pub comes_named : (t : Table) (key : Key) (g : ℕ) (q : Key) (held : Held) (block : ℕ) → Comes t key g q held → block_in held ≡ Some block → IsNamed t block
comes_named t key g q held block comes names = elim comes [
  | inl stood ↦ named_entry t g q held block stood names
  | inr rest ↦ elim rest [
    | inl moved ↦ let old = moved.1 in named_entry t 0 key old.0 block old.1.0 (block_pushed old.1.1.0 old.0 block (sym (ap block_in old.1.1.1) ∙ names))
    | inr absent ↦ let wrong : ◌≡◌ {A = Option ℕ} None (Some block) = sym (ap block_in absent) ∙ names in cc
  ]
]

-- some entry of the key had its stamp before
pub comes_version : (t : Table) (key : Key) (g : ℕ) (held : Held) (stamp : ℕ) → Comes t key g key held → stamp_in held ≡ Some stamp → (fs : ℕ) × ((again : Held) × ((column t key fs ≡ Some again) × (stamp_in again ≡ Some stamp)))
comes_version t key g held stamp comes of = elim comes [
  | inl stood ↦ (g, (held, (stood, of)))
  | inr rest ↦ elim rest [
    | inl moved ↦ let old = moved.1 in (0, (old.0, (old.1.0, sym (stamp_pushed old.1.1.0 old.0) ∙ sym (ap stamp_in old.1.1.1) ∙ of)))
    | inr absent ↦ let wrong : ◌≡◌ {A = Option ℕ} None (Some stamp) = sym (ap stamp_in absent) ∙ of in cc
  ]
]

-- an entry that may become the primary's
pub record MaySet (t : Table) (key : Key) (new : Held) : Type 0 where
  pub stamp : IfSome (stamp_in new) (λ stamp. stamp < t.counters.stamp)
  pub number : KeyBelow t.counters.number key × HeldBelow t.counters.number new
  pub block : IfSome (block_in new) (λ block. block < t.blocks)
  pub own : IsOwn new
  pub free : (block : ℕ) → block_in new ≡ Some block → IsNamed t block → ⊥
  pub version : (fs : ℕ) (again : Held) (stamp : ℕ) → column t key fs ≡ Some again → stamp_in again ≡ Some stamp → stamp_in new ≡ Some stamp → ⊥

set_fits : (t : Table) (key : Key) (push : Option (ℕ × Held)) (new : Held) → IfSome push (IsPush t key) → MaySet t key new → Fits (after_push (with_entry t 0 key None) key push) 0 key new
set_fits t key push new facts may =
    let u = after_push (with_entry t 0 key None) key push in
    record {
      home = inl refl;
      stamp = may.stamp;
      number = may.number;
      block = may.block;
      primary = λ zero. may.own;
      mark = λ stamp mark. absurd (own_no_mark new stamp may.own mark);
      unshared = λ gs other again block there of_again of_new. absurd (may.free block of_new (comes_named t key gs other again block (entry_comes t key push facts gs other again there) of_again));
      version = λ gs again stamp there of_again of_new.
          let was = comes_version t key gs again stamp (entry_comes t key push facts gs key again there) of_again in
          absurd (may.version was.0 was.1.0 stamp was.1.1.0 was.1.1.1 of_new);
    }

-- the rules of the table with the push made
orderly_pushed : (t : Table) (key : Key) (push : Option (ℕ × Held)) → IsTable t → IsOrderly t → KeyBelow t.counters.number key → IfSome push (IsPush t key) → IsOrderly (after_push (with_entry t 0 key None) key push)
orderly_pushed t key None lawful is below facts = orderly_without t 0 key is
orderly_pushed t key (Some entry) lawful is below facts = orderly_with (with_entry t 0 key None) entry.0 key entry.1 (orderly_without t 0 key is) (push_fits t key entry lawful is below facts)

orderly_set : (t : Table) (key : Key) (push : Option (ℕ × Held)) (new : Option Held) → IsTable t → IsOrderly t → KeyBelow t.counters.number key → IfSome push (IsPush t key) → IfSome new (MaySet t key)
    → IsOrderly (with_entry (after_push (with_entry t 0 key None) key push) 0 key new)
orderly_set t key push None lawful is below facts may = orderly_without (after_push (with_entry t 0 key None) key push) 0 key (orderly_pushed t key push lawful is below facts)
orderly_set t key push (Some new) lawful is below facts may = orderly_with (after_push (with_entry t 0 key None) key push) 0 key new (orderly_pushed t key push lawful is below facts) (set_fits t key push new facts may)

-- the rules but the one on absents hold once the primary's entry is replaced
pub orderly_replaced : (t : Table) (key : Key) (new : Option Held) → IsTable t → IsOrderly t → KeyBelow t.counters.number key → IfSome new (MaySet t key) → IsOrderly (replaced t key (push_of t key) new)
orderly_replaced t key new lawful is below may =
    subst IsOrderly (replaced_in_steps t key (push_of t key) new (push_apart t key lawful)) (orderly_set t key (push_of t key) new lawful is below (push_facts t key) may)
