use Rattle.std.proofs.Common.{◌/◌, length, drop, sym, arith, ◌∙◌}
use Rattle.std.proofs.lemmas.List.{take_at, get_or_read}
use Rattle.ck_alloc.proofs.IndexLemmas.{ClearsBit-seen, IsIndexed-emptied, IsIndexed-kept, count_member}
use Rattle.ck_alloc.proofs.bit_set.BitSet.remove.Goals as goal

pub overflow_sub-self : goal.overflow_sub-self
overflow_sub-self c =
    let s = c.args.self.now in
    omega (arith, count_member s.limit s.count s.words.items s.groups.items c.args.at s.indexed c.requires)

pub invariant_of-self : goal.invariant_of-self
invariant_of-self c =
    let s = c.args.self.now in
    let bits = ClearsBit-seen s.words.items c.deref_mut.result.now c.clear_bit.new.words c.args.at c.deref_mut.ensures.value
    (record { len = omega arith; members = c.clear_bit.ensures.members; others = c.clear_bit.ensures.others }) in
    let mark = ClearsBit-seen s.groups.items c.deref_mut-then-index-eq0.result.now c.clear_bit-then-index-eq0.new.words (c.args.at / 64) c.deref_mut-then-index-eq0.ensures.value
    (record { len = omega arith; members = c.clear_bit-then-index-eq0.ensures.members; others = c.clear_bit-then-index-eq0.ensures.others }) in
    let words = take_at c.clear_bit.new.words (drop (length c.clear_bit.new.words) s.words.items) s.words.len (omega arith) in
    let groups = take_at c.clear_bit-then-index-eq0.new.words (drop (length c.clear_bit-then-index-eq0.new.words) s.groups.items) s.groups.len (omega arith) in
    let read = get_or_read c.clear_bit.new.words (c.args.at / 64) c.index.result.now (omega (arith, s.indexed.within c.args.at c.requires)) (rw words at c.index.ensures) 0 in
    rw (words, groups)
    (record { indexed = IsIndexed-emptied s.limit s.count s.words.items s.groups.items _ _ c.args.at s.indexed c.requires bits mark (sym read ∙ c.if-index-eq0.true) })

pub invariant_of-self-else-index-eq0 : goal.invariant_of-self-else-index-eq0
invariant_of-self-else-index-eq0 c =
    let s = c.args.self.now in
    let bits = ClearsBit-seen s.words.items c.deref_mut.result.now c.clear_bit.new.words c.args.at c.deref_mut.ensures.value
    (record { len = omega arith; members = c.clear_bit.ensures.members; others = c.clear_bit.ensures.others }) in
    let words = take_at c.clear_bit.new.words (drop (length c.clear_bit.new.words) s.words.items) s.words.len (omega arith) in
    let read = get_or_read c.clear_bit.new.words (c.args.at / 64) c.index.result.now (omega (arith, s.indexed.within c.args.at c.requires)) (rw words at c.index.ensures) 0 in
    rw words
    (record { indexed = IsIndexed-kept s.limit s.count s.words.items s.groups.items _ c.args.at s.indexed c.requires bits (omega (arith, read, c.if-index-eq0.false)) })
