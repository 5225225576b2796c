-- The rules of a table, as a checkpoint takes over an entry that a newer fileset gives up.
use Rattle.std.proofs.Common.{◌≡◌, ℕ, ◌<◌, Bool, true, false, inr, Option, Some, None, IsSome, IfSome, refl, sym, ap, subst, ◌∙◌, arith}
use Rattle.std.specs.FinMap as map
use Rattle.std.proofs.lemmas.Bool.Decides.{nat_tests}
use Rattle.ck_model.specs.declared.key.Key.{Key}
use Rattle.ck_model.specs.declared.key.Key.TheVariants.{Name, Node, Block}
use Rattle.ck_model.specs.declared.held.Held.{Held}
use Rattle.ck_model.specs.declared.held.Held.TheVariants.{Absent, Plain, Extent, Mark}
use Rattle.ck_model.specs.Table.{Table, column, with_entry}
use Rattle.ck_model.specs.Held.{IsEntry, BelongsTo}
use Rattle.ck_model.specs.Chain.{keeps_data, as_mark}
use Rattle.ck_model.specs.Rules.{IsOrderly, KeyBelow, HeldBelow, stamp_in, block_in}
use Rattle.ck_model.proofs.CaseLaws.{none_some}
use Rattle.ck_chain.specs.Kept.{pushed}
use Rattle.ck_chain.specs.Fits.{Fits}
use Rattle.ck_chain.proofs.ColumnLaws.{column-with_entry}
use Rattle.ck_chain.proofs.OrderlyLaws.{still_stood}

-- an entry and its mark are of one version
pub stamp_pushed : (keeps : Bool) (held : Held) → stamp_in (pushed keeps (Some held)) ≡ stamp_in held
stamp_pushed true held = refl
stamp_pushed false Absent = refl
stamp_pushed false (Plain stamp small) = refl
stamp_pushed false (Extent stamp block) = refl
stamp_pushed false (Mark stamp) = refl

-- what is pushed names no other block
pub block_pushed : (keeps : Bool) (held : Held) (block : ℕ) → block_in (pushed keeps (Some held)) ≡ Some block → block_in held ≡ Some block
block_pushed true held block h = h
block_pushed false Absent block h = h
block_pushed false (Plain stamp small) block h = h
block_pushed false (Extent stamp at) block h = cc
block_pushed false (Mark stamp) block h = h

-- and where the block is below a bound, so is it
bounded_pushed : (keeps : Bool) (held : Held) (limit : ℕ) → IfSome (block_in held) (λ block. block < limit) → IfSome (block_in (pushed keeps (Some held))) (λ block. block < limit)
bounded_pushed true held limit h = h
bounded_pushed false Absent limit h = h
bounded_pushed false (Plain stamp small) limit h = h
bounded_pushed false (Extent stamp at) limit h = tt
bounded_pushed false (Mark stamp) limit h = h

below_pushed : (keeps : Bool) (held : Held) (limit : ℕ) → HeldBelow limit held → HeldBelow limit (pushed keeps (Some held))
below_pushed true held limit h = h
below_pushed false Absent limit h = h
below_pushed false (Plain stamp small) limit h = h
below_pushed false (Extent stamp at) limit h = h
below_pushed false (Mark stamp) limit h = h

mark_pushed : (keeps : Bool) (held : Held) (stamp : ℕ) → ((stamp : ℕ) → held ≡ Mark stamp → keeps ≡ false) → pushed keeps (Some held) ≡ Mark stamp → keeps ≡ false
mark_pushed true held stamp only h = only stamp h
mark_pushed false held stamp only h = refl

belongs_marked : (key : Key) (held : Held) → BelongsTo key held → BelongsTo key (as_mark held)
belongs_marked key Absent h = h
belongs_marked key (Plain stamp small) h = h
belongs_marked (Name directory name) (Extent stamp block) h = h
belongs_marked (Node number) (Extent stamp block) h = h
belongs_marked (Block number index) (Extent stamp block) h = h.0
belongs_marked key (Mark stamp) h = h

-- what is pushed is an entry that a table may have
pub entry_pushed : (keeps : Bool) (key : Key) (held : Held) → IsEntry key held → IsEntry key (pushed keeps (Some held))
entry_pushed true key held h = h
entry_pushed false key held h = record { place = h.place; value = belongs_marked key held h.value }

-- the entry of one fileset may go to a checkpoint, as a mark where that doesn't keep data
pub fits_moved : (t : Table) (g f : ℕ) (key : Key) (held : Held) → IsOrderly t → column t key g ≡ Some held → 0 < f → IsSome (map.get t.filesets f)
    → ((stamp : ℕ) → held ≡ Mark stamp → keeps_data t f ≡ false) → Fits (with_entry t g key None) f key (pushed (keeps_data t f) (Some held))
fits_moved t g f key held is at positive stands only =
    let keeps = keeps_data t f in
    let none : column (with_entry t g key None) key g ≡ None = column-with_entry t g key None g ∙ grind (arith, nat_tests) in
    record {
      home = inr stands;
      stamp = subst (λ o. IfSome o (λ stamp. stamp < t.counters.stamp)) (sym (stamp_pushed keeps held)) (is.stamps g key held at);
      number = let was = is.numbers g key held at in (was.0, below_pushed keeps held t.counters.number was.1);
      block = bounded_pushed keeps held t.blocks (is.blocks g key held at);
      primary = λ zero. absurd (omega arith);
      mark = λ stamp same. mark_pushed keeps held stamp only same;
      unshared = λ gs other again block there of_again of_new.
          let one = is.unshared gs g other key again held block (still_stood t g key gs other again there) at of_again (block_pushed keeps held block of_new) in
          let wrong : ◌≡◌ {A = Option Held} None (Some again) = sym none ∙ sym (ap (λ k. column (with_entry t g key None) k g) one.1) ∙ sym (ap (column (with_entry t g key None) other) one.0) ∙ there in
          absurd (none_some again wrong);
      version = λ gs again stamp there of_again of_new.
          let one = is.versions gs g key again held stamp (still_stood t g key gs key again there) at of_again (sym (stamp_pushed keeps held) ∙ of_new) in
          let wrong : ◌≡◌ {A = Option Held} None (Some again) = sym none ∙ sym (ap (column (with_entry t g key None) key) one) ∙ there in
          absurd (none_some again wrong);
    }

-- an absent may stand in any checkpoint
pub fits_absent : (t : Table) (f : ℕ) (key : Key) → 0 < f → IsSome (map.get t.filesets f) → KeyBelow t.counters.number key → Fits t f key Absent
fits_absent t f key positive stands below = record {
  home = inr stands;
  stamp = tt;
  number = (below, tt);
  block = tt;
  primary = λ zero. absurd (omega arith);
  mark = λ stamp same. cc;
  unshared = λ gs other again block there of_again of_new. cc;
  version = λ gs again stamp there of_again of_new. cc;
}
