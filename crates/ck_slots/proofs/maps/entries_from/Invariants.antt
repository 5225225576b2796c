use Rattle.std.proofs.Common.{◌≡◌, drop}
use Rattle.std.specs.FinMap as map
use Rattle.ck_area.specs.Area.{entries_in}
use Rattle.ck_slots.specs.Entries as in_slots
use Rattle.ck_slots.proofs.maps.entries_from.Given as goal

abbrev pub invariant-loop-at : goal.invariant-loop-at
invariant-loop-at l = record {
  entries : in_slots.entries_in l.entries ≡ map.from_entries (entries_in (drop l.at l.area));
  limit : l.entries.limit ≡ l.limit;
}
