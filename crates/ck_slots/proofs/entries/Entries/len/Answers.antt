use Rattle.std.proofs.Common.{arith}
use Rattle.ck_slots.specs.Order.{numbers_in}
use Rattle.ck_slots.proofs.ArrangedLemmas.{len-entries_of}
use Rattle.ck_slots.proofs.entries.Entries.len.Goals as goal

pub returns : goal.returns
returns c = let s = c.args.self.now in omega (arith, s.whole, len-entries_of s.slots.items (numbers_in s.order) s.sorted)
