use Rattle.std.proofs.Common.{subst, arith}
use Rattle.std.specs.Ordering.{nat_cmp}
use Rattle.ck_model.specs.Ordered.{Edits}
use Rattle.ck_slots.specs.Recorded.{filesets_of}
use Rattle.ck_slots.proofs.MapLemmas.{edits_nothing, no_filesets, filesets_before, filesets_room}
use Rattle.ck_slots.proofs.maps.filesets_from.Goals as goal

pub loop-at-init : goal.loop-at-init
loop-at-init c = record {
  put = edits_nothing _ _ c.in_ok-filesets.ensures.items (no_filesets c.args.area.now _ (omega arith));
  room = c.in_ok-filesets.ensures.capacity;
}

pub put_fileset-requires-clause-sorted : goal.put_fileset-requires-clause-sorted
put_fileset-requires-clause-sorted c = c.loop-at.invariant.put.sorted

pub put_fileset-requires-clause-room : goal.put_fileset-requires-clause-room
put_fileset-requires-clause-room c =
    let so_far = c.loop-at.invariant in
    let room = filesets_room c.args.area.now c.loop-at.at c.index-area-at.result (omega arith) (omega arith) c.index-area-at.is (filesets_of c.loop-at.filesets.items) so_far.put.means in
    omega (arith, room, c.requires, so_far.room)

pub loop-at-preserved : goal.loop-at-preserved
loop-at-preserved c =
    let so_far = c.loop-at.invariant in
    record {
      put = subst (Edits nat_cmp c.put_fileset.new.filesets.items)
          (filesets_before c.args.area.now c.loop-at.at c.index-area-at.result (omega arith) (omega arith) c.index-area-at.is (filesets_of c.loop-at.filesets.items) so_far.put.means)
          c.put_fileset.ensures.put;
      room = omega (arith, so_far.room, c.put_fileset.ensures.capacity);
    }
