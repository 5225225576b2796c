use Rattle.std.proofs.Common.{◌≡◌, ◌≤◌, take, vec_len, vec_capacity}
use Rattle.std.specs.FinMap as map
use Rattle.ck_model.specs.TableWorld.{blocks_of}
use Rattle.ck_slots.specs.Slots.{table_in}
use Rattle.ck_slots.proofs.table.Slots.extents.Given as goal

abbrev pub invariant-loop-at : goal.invariant-loop-at
invariant-loop-at l = record {
  found : l.found.items ≡ blocks_of (take l.at (map.entries (table_in l.self).entries));
  few : vec_len l.found ≤ l.at;
  capacity : l.count ≤ vec_capacity l.found;
}
