use Rattle.std.proofs.Common.{◌≡◌, ◌-◌, map as list_map}
use Rattle.std.specs.List.{range_with_len}
use Rattle.ck_model.specs.Contents.{file_byte}
use Rattle.ck_plain.proofs.reads.file_range.Given as goal

abbrev pub invariant-loop-place : goal.invariant-loop-place
invariant-loop-place l = l.bytes.items ≡ list_map (file_byte l.cells l.node) (range_with_len l.at (l.place - l.at))
