use Rattle.std.proofs.Common.{◌≤◌, drop, vec_capacity}
use Rattle.std.specs.Ordering.{nat_cmp}
use Rattle.std.specs.FinMap as map
use Rattle.ck_model.specs.Ordered.{Edits}
use Rattle.ck_area.specs.Area.{filesets_in}
use Rattle.ck_slots.proofs.maps.filesets_from.Given as goal

abbrev pub invariant-loop-at : goal.invariant-loop-at
invariant-loop-at l = record {
  put : Edits nat_cmp l.filesets.items (map.from_entries (filesets_in (drop l.at l.area)));
  room : l.limit ≤ vec_capacity l.filesets;
}
