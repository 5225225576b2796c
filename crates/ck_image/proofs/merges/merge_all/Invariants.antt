use Rattle.std.proofs.Common.{◌≡◌, ◌-◌, ◌≤◌, length}
use Rattle.ck_stream.specs.Right.{IsChanged}
use Rattle.ck_image.specs.Images.{next_merged, to_end}
use Rattle.ck_image.proofs.merges.merge_all.Given as goal

abbrev pub invariant-loop : goal.invariant-loop
invariant-loop l = record {
  made : to_end (next_merged l.bytes) (length l.bytes - l.counter) l.bytes l.all l.at ≡ to_end (next_merged l.bytes) (length l.bytes) l.bytes l.initial.all l.initial.at;
  right : IsChanged l.all;
  within : l.at ≤ length l.bytes;
}
