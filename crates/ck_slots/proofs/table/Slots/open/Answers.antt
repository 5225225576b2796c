use Rattle.std.proofs.Common.{sym, subst, ap, ◌∙◌}
use Rattle.ck_model.specs.Table.{Table}
use Rattle.ck_model.specs.Rules.{IsSound}
use Rattle.ck_area.specs.Damage.{damage}
use Rattle.ck_area.specs.Area.{table_of as area_table}
use Rattle.ck_area.proofs.TableLaws.{records_of_slots, undamaged_sound}
use Rattle.ck_slots.specs.Maps.{AreRecords}
use Rattle.ck_slots.proofs.table.Slots.open.Goals as goal

pub build-requires-clause-within_limits : goal.build-requires-clause-within_limits
build-requires-clause-within_limits g c =
    let read = c.in_ok-area.ensures.slots in
    subst (λ a. AreRecords a) (sym c.deref-2.ensures.value) (records_of_slots read.blocks c.in_ok-area.area.items read.slots)

pub returns-clause-sound : goal.returns-clause-sound
returns-clause-sound g c =
    let region = c.args.region.now in
    let area = c.in_ok-area.area.items in
    subst (λ t. IsSound t) (sym (c.in_ok-slots.ensures.table ∙ ap (area_table region.blocks region.records) c.deref-2.ensures.value))
    (undamaged_sound region.blocks region.records area (ap (damage region.blocks region.records) (sym c.deref.ensures.value) ∙ c.in_ok-check_slots.ensures.undamaged))

pub returns-clause-sizes : goal.returns-clause-sizes
returns-clause-sizes g c = (ap (λ (t : Table). t.blocks) c.in_ok-slots.ensures.table, ap (λ (t : Table). t.records) c.in_ok-slots.ensures.table)
