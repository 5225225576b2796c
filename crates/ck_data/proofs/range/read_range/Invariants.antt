use Rattle.std.proofs.Common.{◌≡◌, ◌-◌, ◌≤◌, IsTrue, map as list_map}
use Rattle.std.specs.List.{range_with_len}
use Rattle.ck_model.specs.Contents.{file_byte}
use Rattle.ck_model.specs.Values.{cells_on}
use Rattle.ck_model.specs.TableWorld.{values_of}
use Rattle.ck_data.specs.Device.{store_on}
use Rattle.ck_disk.specs.Runs.{OnlyReads}
use Rattle.ck_data.proofs.range.read_range.Given as goal

abbrev pub invariant-loop-place : goal.invariant-loop-place
invariant-loop-place g l = record {
  above : l.at ≤ l.place;
  below : l.place ≤ l.end;
  bytes : IsTrue (g.D.Disk.means l.initial.disk).tells
      → l.bytes.items ≡ list_map (file_byte (cells_on (store_on (g.D.Disk.means l.initial.disk).shows l.area.base) (values_of (g.M.Meta.table l.meta) l.fs)) l.node) (range_with_len l.at (l.place - l.at));
  device : OnlyReads (g.D.Disk.means l.initial.disk) (g.D.Disk.means l.disk);
}

abbrev pub decreases-loop-place : goal.decreases-loop-place
decreases-loop-place g l = l.end - l.place
