use Rattle.std.proofs.Common.{arith}
use Rattle.ck_model.specs.Key.{entry_cmp_total, entry_cmp_exact}
use Rattle.ck_model.proofs.PlaceLaws.{get_gap}
use Rattle.ck_slots.specs.Arranged.{arranged}
use Rattle.ck_slots.specs.Order.{numbers_in, index_in}
use Rattle.ck_slots.proofs.EntryLemmas.{number_in_range, held_there}
use Rattle.ck_slots.proofs.entries.Entries.get.Goals as goal

pub index-requires : goal.index-requires
index-requires c =
    let s = c.args.self.now in
    let inside = number_in_range s.slots.items (numbers_in s.order) s.free.items s.sorted s.once (c.args.fileset, c.args.key.now) (index_in s.order c.in-Ok.place) c.number.result c.in-Ok.ensures.found c.number.ensures in
    omega arith

pub returns-in-Ok : goal.returns-in-Ok
returns-in-Ok c =
    let s = c.args.self.now in
    held_there s.slots.items (numbers_in s.order) s.free.items s.sorted s.once (c.args.fileset, c.args.key.now) (index_in s.order c.in-Ok.place) c.number.result c.in-Ok.ensures.found c.number.ensures c.index.result.now c.index.ensures

pub returns-in-Err : goal.returns-in-Err
returns-in-Err c =
    let s = c.args.self.now in
    get_gap entry_cmp_total entry_cmp_exact (c.args.fileset, c.args.key.now) (arranged s.slots.items (numbers_in s.order)) (index_in s.order c.in-Err.field-0) c.in-Err.ensures.absent s.sorted
