use Rattle.std.proofs.Common.{◌≡◌, ◌-◌, ◌≤◌, length}
use Rattle.ck_stream.specs.Right.{IsFull}
use Rattle.ck_image.specs.Images.{changes_in}
use Rattle.ck_image.proofs.images.apply_all.Given as goal

abbrev pub invariant-loop : goal.invariant-loop
invariant-loop l = record {
  made : changes_in (length l.bytes - l.counter) l.bytes l.base l.at ≡ changes_in (length l.bytes) l.bytes l.initial.base l.initial.at;
  right : IsFull l.base;
  within : l.at ≤ length l.bytes;
}
