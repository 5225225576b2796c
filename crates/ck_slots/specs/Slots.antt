-- The table that slots are.
use Rattle.ck_model.specs.Table.{Table}
use Rattle.ck_slots.specs.declared.table.Slots.{Slots}
use Rattle.ck_slots.specs.Lawful.{table_of}

abbrev pub table_in : Slots → Table
table_in s = table_of s.entries s.filesets.items s.counters s.blocks
