use Rattle.std.proofs.Common.{◌≡◌, ℕ, ◌+◌, ◌<◌, get_or, length, All}
use Rattle.ck_record.specs.declared.records.Record.TheVariants.{Free}
use Rattle.ck_record.specs.Record.{IsRecord}
use Rattle.ck_slots.specs.Slots.{table_in}
use Rattle.ck_slots.specs.Written.{record_in}
use Rattle.ck_slots.proofs.written.spell_slots.Given as goal

abbrev pub invariant-loop-place : goal.invariant-loop-place
invariant-loop-place l = record {
  long : length l.records ≡ 32;
  spelled : (k : ℕ) → k < l.place → get_or l.records k Free ≡ record_in (table_in l.table) (l.first + k);
  within : All IsRecord l.records;
}
