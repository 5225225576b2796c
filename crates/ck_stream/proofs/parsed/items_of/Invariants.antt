use Rattle.std.proofs.Common.{◌≡◌, ◌-◌, length, None}
use Rattle.ck_stream.specs.Parsed.{items_at}
use Rattle.ck_stream.proofs.Loop.{with_front}
use Rattle.ck_stream.proofs.parsed.items_of.Given as goal

abbrev pub invariant-loop : goal.invariant-loop
invariant-loop l = with_front l.items.items (items_at (length l.bytes - l.counter) l.total l.full l.last l.rest) ≡ items_at (length l.bytes) l.total l.full None l.bytes
