use Rattle.std.proofs.Common.{◌∙◌}
use Rattle.ck_area.proofs.KnownLemmas.{fileset_more}
use Rattle.ck_area.proofs.known.filesets_in.Goals as goal

pub loop-slot-preserved : goal.loop-slot-preserved
loop-slot-preserved c id =
    c.in_ok-note_fileset.ensures id ∙ fileset_more c.args.area.now c.loop-slot.slot-index c.slot-item.result c.loop-slot-test.true c.slot-item.is id _ (c.loop-slot.invariant id)
