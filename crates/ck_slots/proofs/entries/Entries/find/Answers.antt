use Rattle.std.proofs.Common.{length}
use Rattle.ck_slots.specs.Order.{numbers_in}
use Rattle.ck_slots.proofs.OnceLemmas.{in_range}
use Rattle.ck_slots.proofs.entries.Entries.find.Goals as goal

pub search-requires-clause-within : goal.search-requires-clause-within
search-requires-clause-within c =
    let s = c.args.self.now in
    rw c.deref.ensures.value (in_range (length s.slots.items) (numbers_in s.order) s.free.items s.once)
