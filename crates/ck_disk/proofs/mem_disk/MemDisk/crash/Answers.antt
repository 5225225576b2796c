use Rattle.std.proofs.Common.{◌∙◌, []}
use Rattle.std.proofs.lemmas.List.{with_items_is}
use Rattle.ck_disk.proofs.TornWrites.{torn_next}
use Rattle.ck_disk.proofs.mem_disk.MemDisk.crash.Goals as goal

pub loop-one-preserved : goal.loop-one-preserved
loop-one-preserved c =
    let back = with_items_is c.loop-one.blocks c.tear.new.blocks (c.tear.auto.blocks ∙ c.deref_mut.ensures.len) in
    let torn = rw (c.deref.ensures.value, c.deref_mut.ensures.value) at c.tear.ensures in
    torn_next c.deref-one-items.result.now c.loop-one.one-index (record { at = 0; bytes = [] }) _ c.loop-one.blocks.items _ c.loop-one-test.true c.loop-one.invariant (back ∙ torn)
