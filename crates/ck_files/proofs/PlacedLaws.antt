-- A call's planned changes, once the data blocks that they write are stored: they may be made, and lead to the model's world.
use Rattle.std.proofs.Common.{◌≡◌, ℕ, ◌-◌, ◌<◌, ◌≤◌, ◌^◌, true, false, List, [], ◌∷◌, refl, sym, ap, subst, ◌∙◌, arith}
use Rattle.std.specs.List.{AllByRecursion}
use Rattle.std.specs.FinMap as map
use mathlib.Core.Bool.{false≢true}
use Rattle.ck_model.specs.declared.call.Call.{Call}
use Rattle.ck_model.specs.declared.change.Change.{Change}
use Rattle.ck_model.specs.declared.reply.Reply.TheVariants.{Done}
use Rattle.ck_model.specs.FileCalls.{changed_by}
use Rattle.ck_model.specs.Held.{IsCounters}
use Rattle.ck_model.specs.Step.{changing}
use Rattle.ck_model.specs.Table.{Table, spare_count}
use Rattle.ck_model.specs.Values.{Store}
use Rattle.ck_model.specs.World.{Mounts}
use Rattle.ck_model.specs.TableWorld.{world_on}
use Rattle.ck_chain.specs.Changes.{deletions_first}
use Rattle.ck_push.specs.Growth.{gains, losses, write_count}
use Rattle.ck_tree.specs.Plan.{IsPlan, block_by, numbers_after}
use Rattle.ck_alloc.specs.Blocks.{Allocation}
use Rattle.ck_files.specs.Allocated.{is_named, IsAllocatedBut, SameNamed}
use Rattle.ck_files.specs.Changes.{raised, IsRaised, written_by}
use Rattle.ck_push.specs.Changes.{MayChangeAll, changed_all}
use Rattle.ck_files.specs.Places.{ArePlaced, AreHeld}
use Rattle.ck_files.specs.Files.{IsOurs}
use Rattle.ck_files.specs.Room.{has_room, answered_with}
use Rattle.ck_nodata.specs.declared.item.StripItem.{StripItem}
use Rattle.ck_nodata.specs.StripItem.{IsStrippedTo}
use Rattle.ck_nodata.proofs.PlaceLaws.{stripped_changed_all}
use Rattle.ck_files.proofs.NamedLaws.{named-is}
use Rattle.ck_files.proofs.ChangeLemmas.{raised_lawful, raised_sound}
use Rattle.ck_files.proofs.PlacedLemmas.{IsPlace, placed_gains, placed_losses, placed_first, placed_blocks, room_records, planned_up, planned_raised, planned_may, planned-fits}

-- the numbers that are given next after it
module _ (t : Table) (c : Call) (changes : List Change) (ours : IsOurs t) (plan : IsPlan t c changes) where
  pub after_lawful : IsCounters (numbers_after c t.counters)
  after_lawful = (planned_up (λ block. []) map.empty t c changes ours plan).lawful

  pub after_raised : IsRaised t (numbers_after c t.counters) t.blocks
  after_raised = planned_raised (λ block. []) map.empty t c changes ours plan t.blocks (omega arith)

are_places : (t : Table) (places : List ℕ) → AllByRecursion (λ place. place < t.blocks) places → AllByRecursion (λ place. is_named t place ≡ false) places → AllByRecursion (IsPlace t t.blocks) places
are_places t [] within unnamed = tt
are_places t (place ∷ places) within unnamed = ((within.0, λ named. false≢true (sym unnamed.0 ∙ named-is t place named)), are_places t places within.1 unnamed.1)

module _ (t : Table) (c : Call) (changes new : List Change) (after : Allocation) (ours : IsOurs t) (plan : IsPlan t c changes) (placed : ArePlaced t after changes new) where
  are : AllByRecursion (IsPlace t t.blocks) placed.places
  are = are_places t placed.places placed.within placed.unnamed

  most : t.blocks ≤ 2 ^ 31
  most = let sized = ours.sized.blocks in omega (arith, sized)

  pub stored_first : deletions_first new ≡ true
  stored_first = ap deletions_first placed.are ∙ placed_first changes placed.places ∙ plan.first

  pub stored_room : has_room t (write_count changes) (gains t changes - losses t changes) ≡ true → gains t new - losses t new ≤ spare_count t
  stored_room room =
      let same : gains t new - losses t new ≡ gains t changes - losses t changes =
      ap (λ items. gains t items - losses t items) placed.are ∙ (λ i. placed_gains t changes placed.places i - placed_losses t changes placed.places i) in
      subst (λ n. n ≤ spare_count t) (sym same) (room_records t (write_count changes) (gains t changes - losses t changes) room)

  pub stored_may : MayChangeAll (raised t (numbers_after c t.counters) t.blocks) new t.counters.stamp
  stored_may = subst (λ items. MayChangeAll (raised t (numbers_after c t.counters) t.blocks) items t.counters.stamp) (sym placed.are)
      (planned_may (λ block. []) map.empty t c changes ours plan placed.places t.blocks placed.many placed.distinct are most)

  pub stored_allocated : (stamp : ℕ) → IsAllocatedBut (written_by new stamp) t after
  stored_allocated stamp = subst (λ taken. IsAllocatedBut taken t after) (sym (ap (λ items. written_by items stamp) placed.are ∙ placed_blocks changes placed.places stamp placed.many)) placed.allocated

  -- they lead to the model's world
  pub stored-done : (store other : Store) (mounts : Mounts) → SameNamed t store other → AreHeld (block_by (world_on store mounts t) c) other new
      → has_room t (write_count changes) (gains t changes - losses t changes) ≡ true → (u : Table) → u ≡ changed_all (raised t (numbers_after c t.counters) t.blocks) new t.counters.stamp
      → changing (world_on store mounts t) (changed_by (world_on store mounts t) c) ≡ answered_with Done (world_on other mounts u)
  stored-done store other mounts same held room u is =
      planned-fits store mounts t c changes ours plan other placed.places t.blocks placed.many placed.distinct are (omega arith) most same
      (subst (AreHeld (block_by (world_on store mounts t) c) other) placed.are held) room refl u
      (is ∙ ap (λ items. changed_all (raised t (numbers_after c t.counters) t.blocks) items t.counters.stamp) placed.are)

  -- no data block is left to strip where none was
  pub stored_stripped : (last : StripItem) → IsStrippedTo t last → (u : Table) → u ≡ changed_all (raised t (numbers_after c t.counters) t.blocks) new t.counters.stamp → IsStrippedTo u last
  stored_stripped last done u is =
      let next = numbers_after c t.counters in
      let up = after_raised t c changes ours plan in
      let below = (planned_up (λ block. []) map.empty t c changes ours plan).stamp in
      subst (λ (x : Table). IsStrippedTo x last) (sym is)
      (stripped_changed_all (raised t next t.blocks) new t.counters.stamp last (raised_lawful t next t.blocks ours.lawful up) (raised_sound t next t.blocks ours.sound up) below stored_may done)
