use Rattle.std.proofs.Common.{sym, subst, arith}
use Rattle.ck_record.specs.Record.{IsRecord}
use Rattle.ck_slots.specs.Slots.{table_in}
use Rattle.ck_slots.proofs.WrittenTexts.{record_within, fileset_slot, entry_slot, free_slot}
use Rattle.ck_slots.proofs.written.record_at.Goals as goal

pub returns-then-at-count-clause-fits : goal.returns-then-at-count-clause-fits
returns-then-at-count-clause-fits c =
    let s = c.args.table.now in
    subst IsRecord (sym (fileset_slot (table_in s) c.args.slot c.fileset_at-id.result c.if-slot-eq0.false c.fileset_at-id.ensures)) (record_within (table_in s) s.within_limits c.args.slot)

pub returns-then-at-count-2-clause-value : goal.returns-then-at-count-2-clause-value
returns-then-at-count-2-clause-value c =
    let s = c.args.table.now in
    let e = c.listed_at-fileset.result in
    entry_slot (table_in s) c.args.slot c.fileset_count-count.result ((e.0, e.1), e.2) c.if-slot-eq0.false c.fileset_count-count.ensures (omega (arith, c.if-at-count.false)) c.listed_at-fileset.ensures

pub returns-then-at-count-2-clause-fits : goal.returns-then-at-count-2-clause-fits
returns-then-at-count-2-clause-fits c =
    let s = c.args.table.now in
    let e = c.listed_at-fileset.result in
    subst IsRecord (sym (entry_slot (table_in s) c.args.slot c.fileset_count-count.result ((e.0, e.1), e.2) c.if-slot-eq0.false c.fileset_count-count.ensures (omega (arith, c.if-at-count.false)) c.listed_at-fileset.ensures))
    (record_within (table_in s) s.within_limits c.args.slot)

pub returns-clause-value : goal.returns-clause-value
returns-clause-value c =
    free_slot (table_in c.args.table.now) c.args.slot (omega (arith, c.if-slot-eq0.false, c.if-at-count.false, c.if-at-count-2.false, c.fileset_count-count.ensures, c.entry_count.ensures))
