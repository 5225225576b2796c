use Rattle.std.proofs.Common.{◌≡◌, ◌<◌, ◌≤◌, length, ◌||◌, ◌&&◌, not, true, false, ℕ, List, [], take, get_or, inl, refl, sym, ap, subst, ◌∙◌, IsTrue, arith}
use Rattle.std.specs.FinSet as set
use Rattle.std.specs.List.{AllByRecursion}
use Rattle.ck_alloc.specs.Blocks.{Allocation, IsPartition}
use Rattle.ck_model.specs.declared.change.Change.{Change}
use Rattle.ck_model.specs.declared.change.Change.TheVariants.{Write}
use Rattle.ck_model.specs.TableWorld.{world_on}
use Rattle.ck_model.specs.Table.{Table}
use Rattle.ck_model.specs.World.{World}
use Rattle.ck_tree.specs.Plan.{block_by}
use Rattle.ck_files.specs.Allocated.{is_named, is_taken, IsAllocated, IsAllocatedBut, SameNamed}
use Rattle.ck_data.specs.Device.{store_on}
use Rattle.ck_files.specs.Places.{with_places, places_of, AreDistinct, AreHeld}
use Rattle.ck_data.proofs.PlaceLemmas.{placing-start, next, front, not_write, held_other, held_more, held_kept, placing-other, placing-write, all_done, placed, places-with_places, all_used, given-back, busy_placing, free_before}
use Rattle.ck_data.proofs.StoredLaws.{kept_there, stores_none, stores_on, after_read_fault}
use Rattle.ck_files.proofs.WorldLaws.{world_same}
use Rattle.ck_data.proofs.places.store_all.Goals as goal

pub loop-at-init : goal.loop-at-init
loop-at-init g c = record {
  placing = placing-start _ (g.M.Meta.table c.args.meta.now) c.args.changes.now c.args.blocks.now c.requires.allocated c.requires.free (λ told mounts. tt);
  pending = refl;
  device = stores_none c.args.area.base c.args.blocks.now (g.D.Disk.means c.args.disk.now);
}

pub loop-at-preserved-in_default : goal.loop-at-preserved-in_default
loop-at-preserved-in_default g c =
    let t = g.M.Meta.table c.args.meta.now in
    let inv = c.loop-at.invariant in
    let old = g.D.Disk.means c.args.disk.now in
    let store = store_on (g.D.Disk.means c.loop-at.disk).shows c.args.area.base in
    let was = store_on old.shows c.args.area.base in
    let low : c.loop-at.at < length c.loop-at.changes = omega arith in
    let other = not_write (get_or c.loop-at.changes c.loop-at.at _) c.in_default.not-Write in
    record {
      placing = placing-other _ t c.args.changes.now c.loop-at.changes c.loop-at.at c.loop-at.blocks inv.placing _ (next _ t c.args.changes.now c.loop-at.changes c.loop-at.at c.loop-at.blocks inv.placing _ _ low refl) other
          (λ held told mounts. held_more (block_by (world_on was mounts t) c.args.call.now) store (with_places inv.placing.done inv.placing.places) _ (held told mounts) (held_other (block_by (world_on was mounts t) c.args.call.now) store _ other));
      pending = inv.pending;
      device = inv.device;
    }

pub loop-at-preserved : goal.loop-at-preserved
loop-at-preserved g c =
    let t = g.M.Meta.table c.args.meta.now in
    let inv = c.loop-at.invariant in
    let p = inv.placing in
    let base = c.args.area.base in
    let old = g.D.Disk.means c.args.disk.now in
    let mid = g.D.Disk.means c.loop-at.disk in
    let new = g.D.Disk.means c.store_changed.new.disk in
    let place = c.in-Ok.place in
    let e = c.in-Ok.ensures in
    let call = c.args.call.now in
    let low : c.loop-at.at < length c.loop-at.changes = omega arith in
    let found = next _ t c.args.changes.now c.loop-at.changes c.loop-at.at c.loop-at.blocks p (Write c.in-Write.node c.in-Write.index c.in-Write.field-2) _ low c.in-Write.is in
    record {
      placing = placing-write _ t c.args.changes.now c.loop-at.changes c.loop-at.at c.loop-at.blocks p _ c.in-Write.node c.in-Write.index c.in-Write.field-2 place c.store_changed.new.blocks found e.free_block e.taken c.store_changed.ensures.partition
          (λ apart held told mounts.
          let mid_told : IsTrue mid.tells = subst IsTrue (sym inv.device.tells) told in
          let bytes : ℕ → ℕ → List ℕ = block_by (world_on (store_on old.shows base) mounts t) call in
          let same : SameNamed t (store_on mid.shows base) (store_on old.shows base) = λ block named.
          sym (kept_there base c.args.blocks.now old.shows mid.shows block (inv.device.shows told)
          (ap (λ b. b || set.contains c.args.blocks.now.pending block) (c.requires.allocated.used block ∙ ap (λ b. b || false) named))) in
          let stored : store_on new.shows base place ≡ bytes c.in-Write.node c.in-Write.index =
          e.stored mid_told mounts ∙ ap (λ (w : World). block_by w call c.in-Write.node c.in-Write.index) (world_same t mounts (store_on mid.shows base) (store_on old.shows base) same) in
          held_more bytes (store_on new.shows base) (with_places p.done p.places) (Write c.in-Write.node c.in-Write.index place)
          (held_kept bytes (store_on mid.shows base) (store_on new.shows base) place (e.others mid_told) p.done p.places p.many apart (held told mounts)) (stored, tt));
      pending = ap (λ (a : Allocation). a.pending) e.taken ∙ inv.pending;
      device = stores_on base c.args.blocks.now c.loop-at.blocks old mid new (free_before t p.places c.args.blocks.now c.loop-at.blocks c.requires.allocated p.allocated inv.pending) inv.device c.store_changed.ensures.device;
    }

pub give_back_all-requires-clause-distinct : goal.give_back_all-requires-clause-distinct
give_back_all-requires-clause-distinct g c =
    let p = c.loop-at.invariant.placing in
    let places = ap places_of (front _ (g.M.Meta.table c.args.meta.now) c.args.changes.now c.loop-at.changes c.loop-at.at c.loop-at.blocks p) ∙ places-with_places p.done p.places p.many in
    subst AreDistinct (sym places) p.distinct

pub give_back_all-requires-clause-used : goal.give_back_all-requires-clause-used
give_back_all-requires-clause-used g c =
    let t = g.M.Meta.table c.args.meta.now in
    let p = c.loop-at.invariant.placing in
    let places = ap places_of (front _ t c.args.changes.now c.loop-at.changes c.loop-at.at c.loop-at.blocks p) ∙ places-with_places p.done p.places p.many in
    let same : c.store_changed.new.blocks ≡ c.loop-at.blocks = after_read_fault c.in-Err-ReadFault.field-0 c.in-Err-ReadFault.field-0-is c.in-Err-ReadFault.ensures.err in
    subst (λ (b : Allocation). AllByRecursion (λ place. set.contains b.used place ≡ true) (places_of (take c.loop-at.at c.loop-at.changes))) (sym same)
    (subst (AllByRecursion (λ place. set.contains c.loop-at.blocks.used place ≡ true)) (sym places) (all_used t p.places c.loop-at.blocks p.allocated))

-- what the table names is in use again, and nothing else
after_read : (t : Table) (written : List Change) (first mid same left : Allocation) (places : List ℕ) → IsAllocated t first → IsAllocatedBut places t mid → mid.pending ≡ first.pending → AllByRecursion (λ place. is_named t place ≡ false) places
    → same ≡ mid → places_of written ≡ places → ((block : ℕ) → set.contains left.used block ≡ (set.contains same.used block && not (is_taken (places_of written) block))) → left.pending ≡ same.pending → left.total ≡ same.total → IsPartition left
    → IsAllocated t left × (left.pending ≡ first.pending)
after_read t written first mid same left places allocated placed pending unnamed is are used still total partition = (
  given-back t places mid left placed unnamed
      (λ b. used b ∙ (λ i. set.contains (is i).used b && not (is_taken (are i) b)))
      (total ∙ ap (λ (a : Allocation). a.total) is) partition,
  still ∙ ap (λ (a : Allocation). a.pending) is ∙ pending,
)

pub returns-in-Err-ReadFault-clause-busy : goal.returns-in-Err-ReadFault-clause-busy
returns-in-Err-ReadFault-clause-busy g c =
    let t = g.M.Meta.table c.args.meta.now in
    let inv = c.loop-at.invariant in
    let p = inv.placing in
    let places = ap places_of (front _ t c.args.changes.now c.loop-at.changes c.loop-at.at c.loop-at.blocks p) ∙ places-with_places p.done p.places p.many in
    let same : c.store_changed.new.blocks ≡ c.loop-at.blocks = after_read_fault c.in-Err-ReadFault.field-0 c.in-Err-ReadFault.field-0-is c.in-Err-ReadFault.ensures.err in
    let e = c.give_back_all.ensures in
    let after = after_read t (take c.loop-at.at c.loop-at.changes) c.args.blocks.now c.loop-at.blocks c.store_changed.new.blocks c.give_back_all.new.blocks p.places c.requires.allocated p.allocated inv.pending p.unnamed same places e.used e.pending e.total e.partition in
    busy_placing t [] c.args.blocks.now c.give_back_all.new.blocks c.requires.allocated after.0 after.1

pub returns-in-Err-ReadFault-clause-err : goal.returns-in-Err-ReadFault-clause-err
returns-in-Err-ReadFault-clause-err g c =
    let t = g.M.Meta.table c.args.meta.now in
    let inv = c.loop-at.invariant in
    let p = inv.placing in
    let places = ap places_of (front _ t c.args.changes.now c.loop-at.changes c.loop-at.at c.loop-at.blocks p) ∙ places-with_places p.done p.places p.many in
    let same : c.store_changed.new.blocks ≡ c.loop-at.blocks = after_read_fault c.in-Err-ReadFault.field-0 c.in-Err-ReadFault.field-0-is c.in-Err-ReadFault.ensures.err in
    let e = c.give_back_all.ensures in
    let after = after_read t (take c.loop-at.at c.loop-at.changes) c.args.blocks.now c.loop-at.blocks c.store_changed.new.blocks c.give_back_all.new.blocks p.places c.requires.allocated p.allocated inv.pending p.unnamed same places e.used e.pending e.total e.partition in
    inl (refl, after.0)

pub returns-in-Err-ReadFault-clause-device : goal.returns-in-Err-ReadFault-clause-device
returns-in-Err-ReadFault-clause-device g c =
    let t = g.M.Meta.table c.args.meta.now in
    let inv = c.loop-at.invariant in
    stores_on c.args.area.base c.args.blocks.now c.loop-at.blocks (g.D.Disk.means c.args.disk.now) (g.D.Disk.means c.loop-at.disk) (g.D.Disk.means c.store_changed.new.disk)
    (free_before t inv.placing.places c.args.blocks.now c.loop-at.blocks c.requires.allocated inv.placing.allocated inv.pending) inv.device c.store_changed.ensures.device

pub returns-in-Err-WriteFault-clause-device : goal.returns-in-Err-WriteFault-clause-device
returns-in-Err-WriteFault-clause-device g c =
    let t = g.M.Meta.table c.args.meta.now in
    let inv = c.loop-at.invariant in
    stores_on c.args.area.base c.args.blocks.now c.loop-at.blocks (g.D.Disk.means c.args.disk.now) (g.D.Disk.means c.loop-at.disk) (g.D.Disk.means c.store_changed.new.disk)
    (free_before t inv.placing.places c.args.blocks.now c.loop-at.blocks c.requires.allocated inv.placing.allocated inv.pending) inv.device c.store_changed.ensures.device

pub returns-clause-held : goal.returns-clause-held
returns-clause-held g c = λ told mounts.
    let t = g.M.Meta.table c.args.meta.now in
    let p = c.loop-at.invariant.placing in
    let all : length c.loop-at.changes ≤ c.loop-at.at = omega arith in
    subst
    (AreHeld (block_by (world_on (store_on (g.D.Disk.means c.args.disk.now).shows c.args.area.base) mounts t) c.args.call.now) (store_on (g.D.Disk.means c.loop-at.disk).shows c.args.area.base))
    (sym (all_done _ t c.args.changes.now c.loop-at.changes c.loop-at.at c.loop-at.blocks p all))
    (p.held told mounts)
