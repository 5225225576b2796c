use Rattle.std.proofs.Common.{sym, ◌∙◌, arith}
use Rattle.ck_slots.specs.Entries.{entries_in}
use Rattle.ck_slots.proofs.MapLemmas.{no_entries, entries_before, entries_room}
use Rattle.ck_slots.proofs.maps.entries_from.Goals as goal

pub loop-at-init : goal.loop-at-init
loop-at-init c = record {
  entries = c.in_ok-entries.ensures.entries ∙ sym (no_entries c.args.area.now _ (omega arith));
  limit = c.in_ok-entries.ensures.limit;
}

pub put_entry-requires : goal.put_entry-requires
put_entry-requires c =
    let so_far = c.loop-at.invariant in
    let room = entries_room c.args.area.now c.loop-at.at c.index-area-at.result (omega arith) (omega arith) c.index-area-at.is (entries_in c.loop-at.entries) so_far.entries in
    omega (arith, room, c.requires.few, so_far.limit)

pub loop-at-preserved : goal.loop-at-preserved
loop-at-preserved c =
    let so_far = c.loop-at.invariant in
    record {
      entries = c.put_entry.ensures.entries ∙ entries_before c.args.area.now c.loop-at.at c.index-area-at.result (omega arith) (omega arith) c.index-area-at.is (entries_in c.loop-at.entries) so_far.entries;
      limit = c.put_entry.ensures.limit ∙ so_far.limit;
    }
