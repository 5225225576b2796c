use Rattle.std.proofs.Common.{◌∙◌}
use Rattle.std.specs.Ordering.{nat_cmp}
use Rattle.std.specs.BTreeMap as tree
use Rattle.ck_area.proofs.KnownLemmas.{entry_more}
use Rattle.ck_area.proofs.known.entries_in.Goals as goal

pub loop-slot-preserved : goal.loop-slot-preserved
loop-slot-preserved c fs key =
    c.in_ok-note_entry.ensures fs key ∙ entry_more c.args.area.now c.loop-slot.slot-index c.slot-item.result c.loop-slot-test.true c.slot-item.is (tree.get nat_cmp c.args.filesets.now) fs key _ (c.loop-slot.invariant fs key)
