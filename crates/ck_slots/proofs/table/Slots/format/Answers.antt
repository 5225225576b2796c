use Rattle.std.proofs.Common.{ap, sym, subst, ◌∙◌, inr, arith}
use Rattle.std.specs.FinMap.{len-empty}
use Rattle.std.specs.FinMap as map
use Rattle.ck_model.specs.declared.held.Held.{Held}
use Rattle.ck_model.specs.Key.{entry_cmp}
use Rattle.ck_model.specs.Table.{IsTable, IsSized}
use Rattle.ck_model.specs.Rules.{IsSound}
use Rattle.ck_log.specs.Layout.{table_blocks}
use Rattle.ck_log.specs.FirstTable.{first_table}
use Rattle.ck_area.specs.Area.{AreSlots}
use Rattle.ck_area.proofs.NewTableLaws.{new_table_within, new_table_sized, new_table_sound}
use Rattle.ck_area.proofs.NewWorldLaws.{new_stands}
use Rattle.ck_slots.specs.Formatted.{StandsForEmpty}
use Rattle.ck_slots.specs.Written.{slots_of}
use Rattle.ck_slots.proofs.FirstLemmas.{first_are_slots}
use Rattle.ck_slots.proofs.FormattedLemmas.{table_of-root}
use Rattle.ck_slots.proofs.table.Slots.format.Goals as goal

pub put-requires : goal.put-requires
put-requires c =
    let none = ap map.len c.in_ok-entries.ensures.entries ∙ len-empty entry_cmp Held in
    inr (omega (arith, none, c.in_ok-entries.ensures.limit, c.records-records.ensures.value, c.records-records.ensures.sized.some_records))

pub invariant_of-result-clause-within_limits : goal.invariant_of-result-clause-within_limits
invariant_of-result-clause-within_limits c =
    let region = c.args.region.now in
    let e = c.in_ok-entries.entries in
    let is = table_of-root e c.put.new.self c.in_ok-with_capacity.field-0.items c.blocks-blocks.result region.blocks region.records c.put.ensures.entries c.in_ok-entries.ensures.entries c.in_ok-with_capacity.ensures.items c.blocks-blocks.ensures.value c.put.ensures.limit (c.in_ok-entries.ensures.limit ∙ c.records-records.ensures.value) in
    subst (λ t. IsTable t) (sym is) (new_table_within region.blocks region.records)

pub invariant_of-result-clause-fits : goal.invariant_of-result-clause-fits
invariant_of-result-clause-fits c =
    let region = c.args.region.now in
    let e = c.in_ok-entries.entries in
    let is = table_of-root e c.put.new.self c.in_ok-with_capacity.field-0.items c.blocks-blocks.result region.blocks region.records c.put.ensures.entries c.in_ok-entries.ensures.entries c.in_ok-with_capacity.ensures.items c.blocks-blocks.ensures.value c.put.ensures.limit (c.in_ok-entries.ensures.limit ∙ c.records-records.ensures.value) in
    let sized = c.blocks-blocks.ensures.sized in
    subst (λ t. IsSized t) (sym is) (new_table_sized region.blocks region.records sized.few_blocks sized.few_records (omega (arith, sized.some_records)))

pub returns-clause-table : goal.returns-clause-table
returns-clause-table c =
    let region = c.args.region.now in
    let e = c.in_ok-entries.entries in
    table_of-root e c.put.new.self c.in_ok-with_capacity.field-0.items c.blocks-blocks.result region.blocks region.records c.put.ensures.entries c.in_ok-entries.ensures.entries c.in_ok-with_capacity.ensures.items c.blocks-blocks.ensures.value c.put.ensures.limit (c.in_ok-entries.ensures.limit ∙ c.records-records.ensures.value)

pub returns-clause-sound : goal.returns-clause-sound
returns-clause-sound c =
    let region = c.args.region.now in
    let e = c.in_ok-entries.entries in
    let is = table_of-root e c.put.new.self c.in_ok-with_capacity.field-0.items c.blocks-blocks.result region.blocks region.records c.put.ensures.entries c.in_ok-entries.ensures.entries c.in_ok-with_capacity.ensures.items c.blocks-blocks.ensures.value c.put.ensures.limit (c.in_ok-entries.ensures.limit ∙ c.records-records.ensures.value) in
    subst (λ t. IsSound t) (sym is) (new_table_sound region.blocks region.records)

pub returns-clause-world : goal.returns-clause-world
returns-clause-world c =
    let region = c.args.region.now in
    let e = c.in_ok-entries.entries in
    let is = table_of-root e c.put.new.self c.in_ok-with_capacity.field-0.items c.blocks-blocks.result region.blocks region.records c.put.ensures.entries c.in_ok-entries.ensures.entries c.in_ok-with_capacity.ensures.items c.blocks-blocks.ensures.value c.put.ensures.limit (c.in_ok-entries.ensures.limit ∙ c.records-records.ensures.value) in
    subst (λ t. StandsForEmpty t) (sym is) (λ store. new_stands store region.blocks region.records)

pub returns-clause-written : goal.returns-clause-written
returns-clause-written c =
    let region = c.args.region.now in
    let e = c.in_ok-entries.entries in
    let is = table_of-root e c.put.new.self c.in_ok-with_capacity.field-0.items c.blocks-blocks.result region.blocks region.records c.put.ensures.entries c.in_ok-entries.ensures.entries c.in_ok-with_capacity.ensures.items c.blocks-blocks.ensures.value c.put.ensures.limit (c.in_ok-entries.ensures.limit ∙ c.records-records.ensures.value) in
    subst (λ t. AreSlots (first_table (table_blocks region.records)) (slots_of region t)) (sym is) (first_are_slots region.blocks region.records c.blocks-blocks.ensures.sized.some_records)
