use Rattle.std.proofs.Common.{◌≡◌, ◌||◌, false, sym, ap, subst, ◌∙◌}
use Rattle.std.specs.FinSet as set
use Rattle.ck_model.specs.declared.checkpoint.Counters.{Counters}
use Rattle.ck_model.specs.Held.{IsCounters}
use Rattle.ck_tree.specs.Plan.{numbers_after}
use Rattle.ck_files.specs.Changes.{IsRaised, raised}
use Rattle.ck_push.specs.Changes.{MayChangeAll, changed_all}
use Rattle.ck_data.specs.Device.{store_on}
use Rattle.ck_files.proofs.PlacedLaws.{after_lawful, after_raised, stored_first, stored_room, stored_may, stored_allocated, stored_stripped, stored-done}
use Rattle.ck_data.proofs.StoredLaws.{kept_there}
use Rattle.ck_data.proofs.writes.apply_planned.Goals as goal

pub numbers_after-next-requires : goal.numbers_after-next-requires
numbers_after-next-requires g c =
    let t = g.M.Meta.table c.args.meta.now in
    subst (λ (k : Counters). IsCounters (numbers_after c.args.call.now k)) (sym c.counters-counters.ensures)
    (after_lawful t c.args.call.now c.args.changes.now c.requires.files.ours c.requires.plan)

pub change_all-requires-clause-raised : goal.change_all-requires-clause-raised
change_all-requires-clause-raised g c =
    let t = g.M.Meta.table c.args.meta.now in
    let next : c.numbers_after-next.result ≡ numbers_after c.args.call.now t.counters = c.numbers_after-next.ensures ∙ ap (numbers_after c.args.call.now) c.counters-counters.ensures in
    subst (λ (k : Counters). IsRaised t k t.blocks) (sym next) (after_raised t c.args.call.now c.args.changes.now c.requires.files.ours c.requires.plan)

pub change_all-requires-clause-first : goal.change_all-requires-clause-first
change_all-requires-clause-first g c =
    stored_first (g.M.Meta.table c.args.meta.now) c.args.call.now c.args.changes.now c.store_all.new.changes c.store_all.new.blocks c.requires.files.ours c.requires.plan c.in_ok-store_all.ensures.placed

pub change_all-requires-clause-room : goal.change_all-requires-clause-room
change_all-requires-clause-room g c =
    stored_room (g.M.Meta.table c.args.meta.now) c.args.call.now c.args.changes.now c.store_all.new.changes c.store_all.new.blocks c.requires.files.ours c.requires.plan c.in_ok-store_all.ensures.placed c.requires.room

pub change_all-requires-clause-may : goal.change_all-requires-clause-may
change_all-requires-clause-may g c =
    let t = g.M.Meta.table c.args.meta.now in
    let next : c.numbers_after-next.result ≡ numbers_after c.args.call.now t.counters = c.numbers_after-next.ensures ∙ ap (numbers_after c.args.call.now) c.counters-counters.ensures in
    subst (λ (k : Counters). MayChangeAll (raised t k t.blocks) c.store_all.new.changes c.counters-counters.result.stamp) (sym next)
    (subst (λ (k : Counters). MayChangeAll (raised t (numbers_after c.args.call.now t.counters) t.blocks) c.store_all.new.changes k.stamp) (sym c.counters-counters.ensures)
    (stored_may t c.args.call.now c.args.changes.now c.store_all.new.changes c.store_all.new.blocks c.requires.files.ours c.requires.plan c.in_ok-store_all.ensures.placed))

pub change_all-requires-clause-allocated : goal.change_all-requires-clause-allocated
change_all-requires-clause-allocated g c =
    stored_allocated (g.M.Meta.table c.args.meta.now) c.args.call.now c.args.changes.now c.store_all.new.changes c.store_all.new.blocks c.requires.files.ours c.requires.plan c.in_ok-store_all.ensures.placed c.counters-counters.result.stamp

pub returns-clause-done : goal.returns-clause-done
returns-clause-done g c = λ told mounts.
    let t = g.M.Meta.table c.args.meta.now in
    let old = (g.D.Disk.means c.args.disk.now).shows in
    let new = (g.D.Disk.means c.store_all.new.disk).shows in
    let base = c.args.area.base in
    let blocks = c.args.blocks.now in
    let next : c.numbers_after-next.result ≡ numbers_after c.args.call.now t.counters = c.numbers_after-next.ensures ∙ ap (numbers_after c.args.call.now) c.counters-counters.ensures in
    let after : g.M.Meta.table c.change_all.new.meta ≡ changed_all (raised t (numbers_after c.args.call.now t.counters) t.blocks) c.store_all.new.changes t.counters.stamp =
    c.change_all.ensures.changed
    ∙ ap (λ (k : Counters). changed_all (raised t k t.blocks) c.store_all.new.changes c.counters-counters.result.stamp) next
    ∙ ap (λ (k : Counters). changed_all (raised t (numbers_after c.args.call.now t.counters) t.blocks) c.store_all.new.changes k.stamp) c.counters-counters.ensures in
    stored-done t c.args.call.now c.args.changes.now c.store_all.new.changes c.store_all.new.blocks c.requires.files.ours c.requires.plan c.in_ok-store_all.ensures.placed
    (store_on old base) (store_on new base) mounts
    (λ block named. kept_there base blocks old new block (c.store_all.ensures.device.shows told)
    (ap (λ b. b || set.contains blocks.pending block) (c.requires.files.allocated.used block ∙ ap (λ b. b || false) named)))
    (c.in_ok-store_all.ensures.held told mounts) c.requires.room (g.M.Meta.table c.change_all.new.meta) after

pub returns-clause-stripped : goal.returns-clause-stripped
returns-clause-stripped g c = λ last done.
    let t = g.M.Meta.table c.args.meta.now in
    let next : c.numbers_after-next.result ≡ numbers_after c.args.call.now t.counters = c.numbers_after-next.ensures ∙ ap (numbers_after c.args.call.now) c.counters-counters.ensures in
    stored_stripped t c.args.call.now c.args.changes.now c.store_all.new.changes c.store_all.new.blocks c.requires.files.ours c.requires.plan c.in_ok-store_all.ensures.placed last done (g.M.Meta.table c.change_all.new.meta)
    (c.change_all.ensures.changed
    ∙ ap (λ (k : Counters). changed_all (raised t k t.blocks) c.store_all.new.changes c.counters-counters.result.stamp) next
    ∙ ap (λ (k : Counters). changed_all (raised t (numbers_after c.args.call.now t.counters) t.blocks) c.store_all.new.changes k.stamp) c.counters-counters.ensures)
