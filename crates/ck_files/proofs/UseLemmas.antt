-- The data blocks in use, as a change is applied and the block that it frees is given up.
use Rattle.std.proofs.Common.{List, [], ◌∷◌, ◌++◌, ◌≡◌, ◌≢◌, ℕ, Bool, true, false, not, ◌&&◌, ◌||◌, Option, Some, None, is_some, IsSome, IfSome, nat_eq, refl, sym, ap, subst, ◌∙◌, ◌⊎◌, inl, inr, arith}
use Rattle.std.specs.Ordering.{nat_cmp, eq_by_cmp}
use Rattle.std.specs.Cmp.{unsigned_tied}
use Rattle.std.specs.FinSet as set
use Rattle.std.proofs.lemmas.Bool.Decides.{nat_tests}
use Rattle.std.proofs.lemmas.Cmp.{nat_cmp_total}
use mathlib.Core.Bool.{false≢true}
use Rattle.ck_model.specs.declared.held.Held.{Held}
use Rattle.ck_model.specs.declared.held.Held.TheVariants.{Absent, Plain, Extent, Mark}
use Rattle.ck_model.specs.declared.change.Freed.{Freed}
use Rattle.ck_model.specs.Table.{Table}
use Rattle.ck_chain.specs.Named.{block_of, IsNamed}
use Rattle.ck_push.specs.Released.{IsFreed}
use Rattle.ck_alloc.specs.Blocks.{Allocation, IsPartition}
use Rattle.ck_files.specs.Allocated.{is_named, is_taken, IsAllocated, IsAllocatedBut, AreUnnamed, blocks_held, is_busy, KeepsBusy}
use Rattle.ck_files.proofs.NamedLaws.{is-named, named-is}

some_is : (x y : ℕ) → ◌≡◌ {A = Option ℕ} (Some x) (Some y) → x ≡ y
some_is x y h = cc

or_none : (a : Bool) → (a || false) ≡ a
or_none true = refl
or_none false = refl

pub any_append : (block : ℕ) (xs ys : List ℕ) → is_taken (xs ++ ys) block ≡ (is_taken xs block || is_taken ys block)
any_append block [] ys = refl
any_append block (x ∷ xs) ys = ap (λ b. nat_eq block x || b) (any_append block xs ys) ∙ or_assoc (nat_eq block x) (is_taken xs block) (is_taken ys block)
  where
    or_assoc : (a b c : Bool) → (a || (b || c)) ≡ ((a || b) || c)
    or_assoc true b c = refl
    or_assoc false b c = refl

both_ways : (a b : Bool) → (a ≡ true → b ≡ true) → (b ≡ true → a ≡ true) → a ≡ b
both_ways true b to from = sym (to refl)
both_ways false true to from = from refl
both_ways false false to from = refl

pub one_or : (a b : Bool) → (a || b) ≡ true → (a ≡ true) ⊎ (b ≡ true)
one_or true b h = inl refl
one_or false b h = inr h

or_true : (a b : Bool) → b ≡ true → (a || b) ≡ true
or_true true b h = refl
or_true false b h = h

left_true : (a b : Bool) → a ≡ true → (a || b) ≡ true
left_true true b h = refl
left_true false b h = cc

pub true_false : (b : Bool) → (b ≡ true → ⊥) → b ≡ false
true_false true h = absurd (h refl)
true_false false h = refl

-- A change replaces a table. It names the blocks that it writes, and no others that weren't named; the rest are taken still.
module _ (old new : Table) (freed : Freed) (written rest : List ℕ) (is_freed : IsFreed old new freed)
    (named : (block : ℕ) → IsNamed new block → IsNamed old block ⊎ (is_taken written block ≡ true))
    (now : (block : ℕ) → is_taken written block ≡ true → IsNamed new block)
    (unnamed : AreUnnamed rest old) where
  some_apart : (x : ℕ) → ◌≡◌ {A = Option ℕ} None (Some x) → ⊥
  some_apart x h = false≢true (ap is_some h)

  -- what stays named, but for the freed block
  still : (block : ℕ) → is_named old block ≡ true → ((f : ℕ) → freed.block ≡ Some f → f ≢ block) → is_named new block ≡ true
  still block was apart =
      elim (is_named new block) as (λ b. is_named new block ≡ b → b ≡ true) [
        | true ↦ λ _. refl
        | false ↦ λ gone. absurd (apart block ((is_freed block).1 (is-named old block was, λ h. false≢true (sym gone ∙ named-is new block h))) refl)
      ] refl

  -- of a block that isn't the freed one
  same_use : (block : ℕ) → ((f : ℕ) → freed.block ≡ Some f → f ≢ block) → (is_named old block || is_taken written block) ≡ is_named new block
  same_use block apart =
      both_ways (is_named old block || is_taken written block) (is_named new block)
      (λ h. elim (one_or (is_named old block) (is_taken written block) h) [
        | inl was ↦ still block was apart
        | inr took ↦ named-is new block (now block took)
      ])
      (λ h. elim (named block (is-named new block h)) [
        | inl was ↦ left_true (is_named old block) (is_taken written block) (named-is old block was)
        | inr took ↦ or_true (is_named old block) (is_taken written block) took
      ])

  whole_use : (block : ℕ) → ((f : ℕ) → freed.block ≡ Some f → f ≢ block) → (is_named old block || is_taken (written ++ rest) block) ≡ (is_named new block || is_taken rest block)
  whole_use block apart =
      ap (λ b. is_named old block || b) (any_append block written rest)
      ∙ or_assoc (is_named old block) (is_taken written block) (is_taken rest block)
      ∙ ap (λ b. b || is_taken rest block) (same_use block apart)
    where
      or_assoc : (a b c : Bool) → (a || (b || c)) ≡ ((a || b) || c)
      or_assoc true b c = refl
      or_assoc false b c = refl

  -- the freed block isn't named any more, and isn't taken
  freed_gone : (f : ℕ) → freed.block ≡ Some f → is_named new f ≡ false
  freed_gone f h = true_false (is_named new f) (λ is. ((is_freed f).0 h).1 (is-named new f is))

  freed_untaken : (f : ℕ) → freed.block ≡ Some f → is_taken rest f ≡ false
  freed_untaken f h = true_false (is_taken rest f) (λ is. false≢true (sym (unnamed f is) ∙ named-is old f ((is_freed f).0 h).0))

  -- it is in use until then
  freed_used : (blocks : Allocation) → IsAllocatedBut (written ++ rest) old blocks → (f : ℕ) → freed.block ≡ Some f → set.contains blocks.used f ≡ true
  freed_used blocks allocated f h = allocated.used f ∙ left_true (is_named old f) (is_taken (written ++ rest) f) (named-is old f ((is_freed f).0 h).0)

  -- nothing was freed
  applied_none : (blocks : Allocation) → IsAllocatedBut (written ++ rest) old blocks → new.blocks ≡ old.blocks → freed.block ≡ None → IsAllocatedBut rest new blocks
  applied_none blocks allocated limit none = record {
    total = allocated.total ∙ sym limit;
    used = λ block. allocated.used block ∙ whole_use block (λ f is. absurd (some_apart f (sym none ∙ is)));
    partition = allocated.partition;
  }

  -- the freed block is given up
  applied_some : (blocks left : Allocation) → IsAllocatedBut (written ++ rest) old blocks → new.blocks ≡ old.blocks → (f : ℕ) → freed.block ≡ Some f
      → left ≡ record blocks { used = set.remove blocks.used f; pending = set.insert blocks.pending f } → IsPartition left → IsAllocatedBut rest new left
  applied_some blocks left allocated limit f is after partition = record {
    total = ap (λ a. a.total) after ∙ allocated.total ∙ sym limit;
    used = λ block. ap (λ a. set.contains a.used block) after ∙ set.contains-remove nat_cmp_total blocks.used f block ∙ at block;
    partition = partition;
  }
    where
      at : (block : ℕ) → (not (eq_by_cmp nat_cmp block f) && set.contains blocks.used block) ≡ (is_named new block || is_taken rest block)
      at block =
          ap (λ b. not b && set.contains blocks.used block) (unsigned_tied block f)
          ∙ elim (nat_eq block f) as (λ b. nat_eq block f ≡ b → (not b && set.contains blocks.used block) ≡ (is_named new block || is_taken rest block)) [
            | true ↦ λ same. let one : f ≡ block = grind (arith, nat_tests) in
                sym (ap (λ x. is_named new x || is_taken rest x) (sym one) ∙ (λ i. freed_gone f is i || freed_untaken f is i))
            | false ↦ λ other. allocated.used block ∙ whole_use block (λ g has same.
                let alike : f ≡ g = some_is f g (sym is ∙ has) in let whole : block ≡ f = sym same ∙ sym alike in let clash : nat_eq block f ≡ true = grind (arith, nat_tests) in false≢true (sym other ∙ clash))
          ] refl

-- ---- blocks that aren't free

-- what holds of whatever stands there
pub each_some : {X : Type 0} (o : Option X) (P : X → Type 0) → ((x : X) → o ≡ Some x → P x) → IfSome o P
each_some None P h = tt
each_some (Some x) P h = h x refl

busy_same : (blocks left : Allocation) → left ≡ blocks → KeepsBusy blocks left
busy_same blocks left same block h = ap (λ a. is_busy a block) same ∙ h

busy_given : (blocks left : Allocation) (f : ℕ) → left ≡ record blocks { used = set.remove blocks.used f; pending = set.insert blocks.pending f } → KeepsBusy blocks left
busy_given blocks left f after block h =
    ap (λ a. is_busy a block) after
    ∙ (λ i. set.contains-remove nat_cmp_total blocks.used f block i || set.contains-insert nat_cmp_total blocks.pending f block i)
    ∙ moved (eq_by_cmp nat_cmp block f) (set.contains blocks.used block) (set.contains blocks.pending block) h
  where
    moved : (e u p : Bool) → (u || p) ≡ true → ((not e && u) || (e || p)) ≡ true
    moved true u p h = refl
    moved false u p h = h

-- the block that a change freed was given up, if there was one
pub record IsGivenUp (blocks left : Allocation) (freed : Freed) : Type 0 where
  pub given : IfSome freed.block (λ block. left ≡ record blocks { used = set.remove blocks.used block; pending = set.insert blocks.pending block })
  pub partition : IsSome freed.block → IsPartition left
  pub same : freed.block ≡ None → left ≡ blocks

module _ (old new : Table) (freed : Freed) (written rest : List ℕ) (is_freed : IsFreed old new freed)
    (named : (block : ℕ) → IsNamed new block → IsNamed old block ⊎ (is_taken written block ≡ true))
    (now : (block : ℕ) → is_taken written block ≡ true → IsNamed new block) (unnamed : AreUnnamed rest old)
    (blocks left : Allocation) (allocated : IsAllocatedBut (written ++ rest) old blocks) (limit : new.blocks ≡ old.blocks) (given : IsGivenUp blocks left freed) where
  pub allocated_after : IsAllocatedBut rest new left
  allocated_after =
      elim freed.block as (λ o. freed.block ≡ o → IfSome o (λ block. left ≡ record blocks { used = set.remove blocks.used block; pending = set.insert blocks.pending block }) → IsAllocatedBut rest new left) [
        | None ↦ λ none _. subst (IsAllocatedBut rest new) (sym (given.same none)) (applied_none old new freed written rest is_freed named now unnamed blocks allocated limit none)
        | Some f ↦ λ is after. applied_some old new freed written rest is_freed named now unnamed blocks left allocated limit f is after (given.partition (ap is_some is))
      ] refl given.given

pub busy_after : (freed : Freed) (blocks left : Allocation) → IsGivenUp blocks left freed → KeepsBusy blocks left
busy_after freed blocks left given =
    elim freed.block as (λ o. freed.block ≡ o → IfSome o (λ block. left ≡ record blocks { used = set.remove blocks.used block; pending = set.insert blocks.pending block }) → KeepsBusy blocks left) [
      | None ↦ λ none _. busy_same blocks left (given.same none)
      | Some f ↦ λ is after. busy_given blocks left f after
    ] refl given.given

-- ---- a change that nobody sees: no block is named anew

module _ (old new : Table) (freed : Freed) (is_freed : IsFreed old new freed) (named : (block : ℕ) → IsNamed new block → IsNamed old block) where
  pub freed_unseen : (blocks : Allocation) → IsAllocated old blocks → IfSome freed.block (λ block. set.contains blocks.used block ≡ true)
  freed_unseen blocks allocated =
      each_some freed.block (λ block. set.contains blocks.used block ≡ true) (λ block is.
      freed_used old new freed [] [] is_freed (λ b h. inl (named b h)) (λ b took. absurd (false≢true took)) (λ b took. absurd (false≢true took)) blocks allocated block is)

  pub allocated_unseen : (blocks left : Allocation) → IsAllocated old blocks → new.blocks ≡ old.blocks → IsGivenUp blocks left freed → IsAllocated new left
  allocated_unseen blocks left allocated limit given =
      allocated_after old new freed [] [] is_freed (λ b h. inl (named b h)) (λ b took. absurd (false≢true took)) (λ b took. absurd (false≢true took)) blocks left allocated limit given

-- the block of a value, among those that it names
pub held_block : (o : Option Held) (block : ℕ) → block_of o ≡ Some block → is_taken (blocks_held o) block ≡ true
held_block None block h = absurd (false≢true (ap is_some h))
held_block (Some Absent) block h = absurd (false≢true (ap is_some h))
held_block (Some (Plain s small)) block h = absurd (false≢true (ap is_some h))
held_block (Some (Extent s b)) block h = let same : b ≡ block = some_is b block h in left_true (nat_eq block b) false (grind (arith, nat_tests))
held_block (Some (Mark s)) block h = absurd (false≢true (ap is_some h))

pub block_held : (o : Option Held) (block : ℕ) → is_taken (blocks_held o) block ≡ true → block_of o ≡ Some block
block_held None block h = absurd (false≢true h)
block_held (Some Absent) block h = absurd (false≢true h)
block_held (Some (Plain s small)) block h = absurd (false≢true h)
block_held (Some (Extent s b)) block h = elim (one_or (nat_eq block b) false h) [
  | inl same ↦ let is : b ≡ block = grind (arith, nat_tests) in ap (λ x. Some x) is
  | inr none ↦ absurd (false≢true none)
]
block_held (Some (Mark s)) block h = absurd (false≢true h)
