use Rattle.std.proofs.Common.{◌≡◌, ◌-◌, List, length, None}
use Rattle.ck_stream.specs.declared.item.Item.{Item}
use Rattle.ck_stream.specs.Parsed.{items_at}
use Rattle.ck_stream.specs.SeenKey.{last_seen}
use Rattle.ck_stream.proofs.Loop.{with_front}
use Rattle.ck_stream.proofs.summary.count_of.Given as goal

abbrev pub invariant-loop-count : goal.invariant-loop-count
invariant-loop-count l = (front : List Item) × (length front ≡ l.count) × (with_front front (items_at (length l.bytes - l.count) l.total l.full (last_seen l.last) l.rest) ≡ items_at (length l.bytes) l.total l.full None l.bytes)
