-- A call's changes, one after the other: what is left may be made as before.
use Rattle.std.proofs.Common.{◌≡◌, ℕ, ◌-◌, ◌<◌, ◌≤◌, Bool, true, false, ◌&&◌, List, [], ◌∷◌, Some, IfSome, refl, sym, subst, ◌∙◌, inl, inr}
use mathlib.Core.Bool.{false≢true}
use Rattle.ck_model.specs.declared.change.Change.{Change}
use Rattle.ck_model.specs.Table.{Table, IsSized, spare_count}
use Rattle.ck_chain.specs.Named.{block_of, IsNamed}
use Rattle.ck_chain.specs.Changes.{deletions_first, key_of, value_after}
use Rattle.ck_push.specs.Changed.{changed}
use Rattle.ck_push.specs.Growth.{gains, losses}
use Rattle.ck_push.proofs.RoomLaws.{room_after}
use Rattle.ck_alloc.specs.Blocks.{Allocation}
use Rattle.ck_files.specs.Files.{IsOurs}
use Rattle.ck_files.specs.Allocated.{is_named, is_taken, AreUnnamed, IsAllocatedBut, blocks_held}
use Rattle.ck_files.specs.Changes.{written_by}
use Rattle.ck_push.specs.Changes.{MayChangeAll, MayChange}
use Rattle.ck_files.proofs.UseLemmas.{block_held, any_append, one_or, true_false}
use Rattle.ck_files.proofs.NamedLaws.{is-named}
use Rattle.ck_push.proofs.ChangeLaws.{counted_after, may_all_after, gains_stay, losses_stay}

-- the changes that are left may be made, and there is room for them
pub record MayMake (t : Table) (blocks : Allocation) (items : List Change) (stamp : ℕ) : Type 0 where
  pub first : deletions_first items ≡ true
  pub room : gains t items - losses t items ≤ spare_count t
  pub stamp_below : stamp < t.counters.stamp
  pub may : MayChangeAll t items stamp
  pub allocated : IsAllocatedBut (written_by items stamp) t blocks

both : (a b : Bool) → (a && b) ≡ true → (a ≡ true) × (b ≡ true)
both true b h = (refl, h)
both false b h = cc

-- no entry names a block that they write
unnamed_block : (t : Table) (item : Change) (stamp : ℕ) → MayChange t item stamp → (block : ℕ) → is_taken (blocks_held (value_after item stamp)) block ≡ true → is_named t block ≡ false
unnamed_block t item stamp may block took =
    let is : block_of (value_after item stamp) ≡ Some block = block_held (value_after item stamp) block took in
    let free = subst (λ o. IfSome o (λ b. (b < t.blocks) × (IsNamed t b → ⊥))) is may.block in
    true_false (is_named t block) (λ named. free.1 (is-named t block named))

pub unnamed_all : (t : Table) (items : List Change) (stamp : ℕ) → MayChangeAll t items stamp → AreUnnamed (written_by items stamp) t
unnamed_all t [] stamp may block h = absurd (false≢true h)
unnamed_all t (item ∷ items) stamp may block h =
    elim (one_or (is_taken (blocks_held (value_after item stamp)) block) (is_taken (written_by items stamp) block) (sym (any_append block (blocks_held (value_after item stamp)) (written_by items stamp)) ∙ h)) [
      | inl here ↦ unnamed_block t item stamp may.0 block here
      | inr rest ↦ unnamed_all t items stamp may.2 block rest
    ]

-- one change more is made
pub made_one : (t u : Table) (blocks left : Allocation) (item : Change) (items : List Change) (stamp : ℕ) → IsOurs t → IsSized u → MayMake t blocks (item ∷ items) stamp
    → u ≡ changed t (key_of item) (value_after item stamp) → IsAllocatedBut (written_by items stamp) u left → MayMake u left items stamp
made_one t u blocks left item items stamp ours sized may is allocated =
    let v = changed t (key_of item) (value_after item stamp) in
    let counted = counted_after t item stamp ours.lawful ours.sound may.stamp_below may.may.0 in
    let sized_v : IsSized v = subst IsSized is sized in
    record {
      first = (both _ (deletions_first items) may.first).1;
      room = subst (λ x. gains x items - losses x items ≤ spare_count x) (sym is)
          (room_after t v item items may.first may.room ours.sized.fits sized_v.fits refl counted (gains_stay t item stamp items may.may.1) (losses_stay t item stamp items may.may.1));
      stamp_below = subst (λ (x : Table). stamp < x.counters.stamp) (sym is) may.stamp_below;
      may = subst (λ x. MayChangeAll x items stamp) (sym is) (may_all_after t item stamp ours.lawful ours.sound may.stamp_below may.may.0 items may.may.1 may.may.2);
      allocated = allocated;
    }
