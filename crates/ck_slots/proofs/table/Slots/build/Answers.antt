use Rattle.std.proofs.Common.{◌≡◌, sym, subst, ◌∙◌, arith}
use Rattle.ck_model.specs.Table.{IsTable, IsSized}
use Rattle.ck_area.specs.Area.{table_of as area_table}
use Rattle.ck_area.proofs.TableLaws.{table_within, undamaged_few, undamaged_sized}
use Rattle.ck_slots.specs.Lawful.{table_of}
use Rattle.ck_slots.proofs.MapLemmas.{same_table}
use Rattle.ck_slots.proofs.table.Slots.build.Goals as goal

pub entries_from-requires-clause-few : goal.entries_from-requires-clause-few
entries_from-requires-clause-few c =
    omega (arith, undamaged_few c.args.region.now.blocks c.args.region.now.records c.args.area.now c.requires.undamaged, c.records-records.ensures.value)

pub filesets_from-requires : goal.filesets_from-requires
filesets_from-requires c =
    omega (arith, undamaged_few c.args.region.now.blocks c.args.region.now.records c.args.area.now c.requires.undamaged, c.records-records.ensures.value)

pub invariant_of-result : goal.invariant_of-result
invariant_of-result c =
    let region = c.args.region.now in
    let area = c.args.area.now in
    let filesets = c.in_ok-filesets.ensures.filesets in
    let sized = c.blocks-blocks.ensures.sized in
    let limit = c.in_ok-entries.ensures.limit ∙ c.records-records.ensures.value in
    let is : table_of c.in_ok-entries.entries c.in_ok-filesets.filesets.items c.counters_from.result c.blocks-blocks.result ≡ area_table region.blocks region.records area =
    same_table _ _ _ _ _ _ _ _ _ _ c.in_ok-entries.ensures.entries filesets.means c.counters_from.ensures c.blocks-blocks.ensures.value limit in
    record {
      sorted = filesets.sorted;
      room = omega (arith, c.in_ok-filesets.ensures.room, c.in_ok-entries.ensures.limit);
      within_limits = subst (λ t. IsTable t) (sym is) (table_within region.blocks region.records area c.requires.within_limits);
      fits = subst (λ t. IsSized t) (sym is) (undamaged_sized region.blocks region.records area c.requires.undamaged sized.few_blocks sized.few_records);
    }

pub returns : goal.returns
returns c = record {
  table = same_table _ _ _ _ _ _ _ _ _ _ c.in_ok-entries.ensures.entries c.in_ok-filesets.ensures.filesets.means c.counters_from.ensures c.blocks-blocks.ensures.value (c.in_ok-entries.ensures.limit ∙ c.records-records.ensures.value);
}
