-- The blocks' states from the tests for free and pending ones, after each change of a test.
use Rattle.std.proofs.Common.{◌≡◌, ℕ, ◌<◌, ◌==◌, ◌||◌, ◌&&◌, nat_lt, Bool, true, false, not, inl, inr, List, refl, sym, ap, ◌∙◌, arith}
use Rattle.std.specs.List.{list_any, All}
use Rattle.std.specs.FinSet as set
use Rattle.std.proofs.lemmas.Bool.{cases_eq, cases_Bool, eq-eqb, ne_eqb, lt-ltb, ltb-true, not-true, and_parts, or_parts, or_right, false≢true}
use Rattle.ck_alloc.specs.Bits.{count_below}
use Rattle.ck_alloc.specs.Members.{members_below, allocation_of}
use Rattle.ck_alloc.specs.Blocks.{used_alone, IsFree, free_count, IsPartition}
use Rattle.ck_alloc.proofs.Counts.{count_below-rest}
use Rattle.ck_alloc.proofs.MemberLemmas.{contains-members_below, len-members_below, members_below-same, members_below-insert, members_below-remove, members_below-none, members_below-list}

-- no block passes both tests
abbrev pub AreApart : (ℕ → Bool) → (ℕ → Bool) → Type 0
AreApart free pending = (at : ℕ) → free at ≡ true → pending at ≡ false

pub AreApart-more_free : (free pending more : ℕ → Bool) (at : ℕ) → AreApart free pending → pending at ≡ false → ((k : ℕ) → more k ≡ ((k == at) || free k)) → AreApart more pending
AreApart-more_free free pending more at apart settled one k is_free =
    elim (cases_eq k at) [
      | inl here ↦ ap pending here ∙ settled
      | inr other ↦ apart k (sym (ap (λ b. b || free k) (ne_eqb k at other)) ∙ sym (one k) ∙ is_free)
    ]

pub AreApart-more_pending : (free pending more : ℕ → Bool) (at : ℕ) → AreApart free pending → free at ≡ false → ((k : ℕ) → more k ≡ ((k == at) || pending k)) → AreApart free more
AreApart-more_pending free pending more at apart taken one k is_free =
    elim (cases_eq k at) [
      | inl here ↦ absurd (false≢true (sym (ap free here ∙ taken) ∙ is_free))
      | inr other ↦ one k ∙ ap (λ b. b || pending k) (ne_eqb k at other) ∙ apart k is_free
    ]

-- ---- one block

pub IsFree-from : (n : ℕ) (free pending : ℕ → Bool) (at : ℕ) → at < n → free at ≡ true → pending at ≡ false → IsFree (allocation_of n free pending) at
unfolding allocation_of
IsFree-from n free pending at within is_free settled = record {
  within = within;
  unused = contains-members_below (λ k. not (free k || pending k)) n at ∙ rw (is_free, lt-ltb at n within) refl;
  settled = contains-members_below pending n at ∙ rw (settled, lt-ltb at n within) refl;
}

pub free_from_IsFree : (n : ℕ) (free pending : ℕ → Bool) (at : ℕ) → IsFree (allocation_of n free pending) at → free at ≡ true
unfolding allocation_of
free_from_IsFree n free pending at is_free =
    let inside = lt-ltb at n is_free.within in
    let settled : pending at ≡ false = rw inside at (sym (contains-members_below pending n at) ∙ is_free.settled) in
    let unused : not (free at || pending at) ≡ false = rw inside at (sym (contains-members_below (λ k. not (free k || pending k)) n at) ∙ is_free.unused) in
    elim (cases_Bool (free at)) [
      | inl yes_free ↦ yes_free
      | inr not_free ↦ absurd (false≢true (sym unused ∙ rw (not_free, settled) refl))
    ]

-- what is known of a used block
pub record Used (n : ℕ) (free pending : ℕ → Bool) (at : ℕ) : Type 0 where
  pub within : at < n
  pub taken : free at ≡ false
  pub kept : pending at ≡ false

pub used_parts : (n : ℕ) (free pending : ℕ → Bool) (at : ℕ) → set.contains (allocation_of n free pending).used at ≡ true → Used n free pending at
unfolding allocation_of
used_parts n free pending at used =
    let parts = and_parts (nat_lt at n) (not (free at || pending at)) (sym (contains-members_below (λ k. not (free k || pending k)) n at) ∙ used) in
    let neither = or_parts (free at) (pending at) (not-true (free at || pending at) parts.1) in
    record { within = ltb-true at n parts.0; taken = neither.0; kept = neither.1 }

-- ---- changes

pub allocation_of-taken : (n : ℕ) (free pending fewer : ℕ → Bool) (at : ℕ) → at < n → free at ≡ true → pending at ≡ false → ((k : ℕ) → fewer k ≡ (not (k == at) && free k))
    → allocation_of n fewer pending ≡ record (allocation_of n free pending) { used = set.insert (allocation_of n free pending).used at }
unfolding allocation_of
allocation_of-taken n free pending fewer at within is_free settled one =
    let step : (k : ℕ) → not (fewer k || pending k) ≡ ((k == at) || not (free k || pending k)) = λ k. elim (cases_eq k at) [
      | inl here ↦ rw (one k, eq-eqb k at here, ap pending here, settled) refl
      | inr other ↦ rw (one k, ne_eqb k at other) refl
    ] in
    let used = members_below-insert (λ k. not (free k || pending k)) (λ k. not (fewer k || pending k)) at n within step in
    λ i. record { total = n; used = used i; pending = members_below pending n }

pub allocation_of-released : (n : ℕ) (free pending more : ℕ → Bool) (at : ℕ) → at < n → ((k : ℕ) → more k ≡ ((k == at) || pending k))
    → allocation_of n free more ≡ record (allocation_of n free pending) { used = set.remove (allocation_of n free pending).used at; pending = set.insert (allocation_of n free pending).pending at }
unfolding allocation_of
allocation_of-released n free pending more at within one =
    let step : (k : ℕ) → not (free k || more k) ≡ (not (k == at) && not (free k || pending k)) = λ k. elim (cases_eq k at) [
      | inl here ↦ rw (one k, eq-eqb k at here, or_right (free k) true refl) refl
      | inr other ↦ rw (one k, ne_eqb k at other) refl
    ] in
    let used = members_below-remove (λ k. not (free k || pending k)) (λ k. not (free k || more k)) at n step in
    let waiting = members_below-insert pending more at n within one in
    λ i. record { total = n; used = used i; pending = waiting i }

pub allocation_of-given_back : (n : ℕ) (free pending more : ℕ → Bool) (at : ℕ) → ((k : ℕ) → more k ≡ ((k == at) || free k))
    → allocation_of n more pending ≡ record (allocation_of n free pending) { used = set.remove (allocation_of n free pending).used at }
unfolding allocation_of
allocation_of-given_back n free pending more at one =
    let step : (k : ℕ) → not (more k || pending k) ≡ (not (k == at) && not (free k || pending k)) = λ k. elim (cases_eq k at) [
      | inl here ↦ rw (one k, eq-eqb k at here) refl
      | inr other ↦ rw (one k, ne_eqb k at other) refl
    ] in
    let used = members_below-remove (λ k. not (free k || pending k)) (λ k. not (more k || pending k)) at n step in
    λ i. record { total = n; used = used i; pending = members_below pending n }

still : (a b : Bool) → not ((a || b) || false) ≡ not (a || b)
still true b = refl
still false true = refl
still false false = refl

pub allocation_of-settled : (n : ℕ) (free pending more none : ℕ → Bool) → ((k : ℕ) → more k ≡ (free k || pending k)) → ((k : ℕ) → none k ≡ false)
    → allocation_of n more none ≡ record (allocation_of n free pending) { pending = set.empty }
unfolding allocation_of
allocation_of-settled n free pending more none each empty =
    let step : (k : ℕ) → k < n → not (more k || none k) ≡ not (free k || pending k) = λ k _. rw (each k, empty k) (still (free k) (pending k)) in
    let used = members_below-same (λ k. not (more k || none k)) (λ k. not (free k || pending k)) n step in
    let waiting = members_below-none none n empty in
    λ i. record { total = n; used = used i; pending = waiting i }

listed : (a : Bool) → not ((true && not a) || false) ≡ a
listed true = refl
listed false = refl

pub allocation_of-rebuilt : (n : ℕ) (free none : ℕ → Bool) (used : List ℕ) → All (λ k. k < n) used → ((k : ℕ) → free k ≡ (nat_lt k n && not (list_any (λ m. m == k) used))) → ((k : ℕ) → none k ≡ false)
    → allocation_of n free none ≡ used_alone n used
unfolding allocation_of
allocation_of-rebuilt n free none used within each empty =
    let step : (k : ℕ) → k < n → not (free k || none k) ≡ list_any (λ m. m == k) used = λ k h. rw (each k, empty k, lt-ltb k n h) (listed (list_any (λ m. m == k) used)) in
    let taken = members_below-list (λ k. not (free k || none k)) used n within step in
    let waiting = members_below-none none n empty in
    λ i. record { total = n; used = taken i; pending = waiting i }

-- ---- counts

pub free_count-allocation_of : (n : ℕ) (free pending : ℕ → Bool) → AreApart free pending → free_count (allocation_of n free pending) ≡ count_below free n
unfolding allocation_of
free_count-allocation_of n free pending apart =
    let used = len-members_below (λ k. not (free k || pending k)) n in
    let waiting = len-members_below pending n in
    let all = count_below-rest free pending n apart in
    omega (arith, used, waiting, all)

pub len-pending : (n : ℕ) (free pending : ℕ → Bool) → set.len (allocation_of n free pending).pending ≡ count_below pending n
unfolding allocation_of
len-pending n free pending = len-members_below pending n

pub IsPartition-allocation_of : (n : ℕ) (free pending : ℕ → Bool) → AreApart free pending → IsPartition (allocation_of n free pending)
unfolding allocation_of
IsPartition-allocation_of n free pending apart = record {
  used = λ at used. ltb-true at n (and_parts (nat_lt at n) _ (sym (contains-members_below (λ k. not (free k || pending k)) n at) ∙ used)).0;
  pending = λ at waits. ltb-true at n (and_parts (nat_lt at n) _ (sym (contains-members_below pending n at) ∙ waits)).0;
  apart = λ at used.
      let parts = and_parts (nat_lt at n) (not (free at || pending at)) (sym (contains-members_below (λ k. not (free k || pending k)) n at) ∙ used) in
      contains-members_below pending n at ∙ rw ((or_parts (free at) (pending at) (not-true (free at || pending at) parts.1)).1, parts.0) refl;
  counted =
      let used = len-members_below (λ k. not (free k || pending k)) n in
      let waiting = len-members_below pending n in
      let all = count_below-rest free pending n apart in
      omega (arith, used, waiting, all);
}
