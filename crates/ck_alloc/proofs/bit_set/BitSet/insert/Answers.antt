use Rattle.std.proofs.Common.{◌/◌, length, drop, arith}
use Rattle.std.proofs.lemmas.List.{take_at}
use Rattle.ck_alloc.proofs.IndexLemmas.{SetsBit-seen, IsIndexed-inserted, count_inserted}
use Rattle.ck_alloc.proofs.bit_set.BitSet.insert.Goals as goal

pub overflow_add-self : goal.overflow_add-self
overflow_add-self c =
    let s = c.args.self.now in
    omega (arith, count_inserted s.limit s.count s.words.items s.groups.items c.args.at s.indexed c.requires.within c.requires.absent)

pub invariant_of-self : goal.invariant_of-self
invariant_of-self c =
    let s = c.args.self.now in
    let bits = SetsBit-seen s.words.items c.deref_mut.result.now c.set_bit.new.words c.args.at c.deref_mut.ensures.value
    (record { len = omega arith; members = c.set_bit.ensures.members; others = c.set_bit.ensures.others }) in
    let mark = SetsBit-seen s.groups.items c.deref_mut-2.result.now c.set_bit-2.new.words (c.args.at / 64) c.deref_mut-2.ensures.value
    (record { len = omega arith; members = c.set_bit-2.ensures.members; others = c.set_bit-2.ensures.others }) in
    let words = take_at c.set_bit.new.words (drop (length c.set_bit.new.words) s.words.items) s.words.len (omega arith) in
    let groups = take_at c.set_bit-2.new.words (drop (length c.set_bit-2.new.words) s.groups.items) s.groups.len (omega arith) in
    rw (words, groups)
    (record { indexed = IsIndexed-inserted s.limit s.count s.words.items s.groups.items _ _ c.args.at s.indexed c.requires.within c.requires.absent bits mark })
