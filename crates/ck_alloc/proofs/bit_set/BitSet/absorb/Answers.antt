use Rattle.std.proofs.Common.{length, drop, sym, subst, arith, ℕ}
use Rattle.std.proofs.lemmas.List.{take_at}
use Rattle.ck_alloc.specs.Bits.{IsIndexed}
use Rattle.ck_alloc.proofs.MarkLemmas.{has-merged, has-zeros}
use Rattle.ck_alloc.proofs.IndexLemmas.{Merges-seen, IsIndexed-merged, IsIndexed-zeros, count_merged}
use Rattle.ck_alloc.proofs.bit_set.BitSet.absorb.Goals as goal

pub overflow_add-self : goal.overflow_add-self
overflow_add-self c =
    let s = c.args.self.now in
    let o = c.args.other.now in
    let second = subst (λ (n : ℕ). IsIndexed n o.count o.words.items o.groups.items) (sym c.requires.limits) o.indexed in
    omega (arith, count_merged s.limit s.count o.count s.words.items s.groups.items o.words.items o.groups.items s.indexed second c.requires.apart)

pub invariant_of-self : goal.invariant_of-self
invariant_of-self c =
    let s = c.args.self.now in
    let o = c.args.other.now in
    let second = subst (λ (n : ℕ). IsIndexed n o.count o.words.items o.groups.items) (sym c.requires.limits) o.indexed in
    let bits = Merges-seen s.words.items c.deref_mut.result.now o.words.items c.deref.result.now c.merge.new.words c.deref_mut.ensures.value c.deref.ensures.value
    (record { len = omega arith; each = c.merge.ensures }) in
    let mark = Merges-seen s.groups.items c.deref_mut-2.result.now o.groups.items c.deref-2.result.now c.merge-2.new.words c.deref_mut-2.ensures.value c.deref-2.ensures.value
    (record { len = omega arith; each = c.merge-2.ensures }) in
    let words = take_at c.merge.new.words (drop (length c.merge.new.words) s.words.items) s.words.len (omega arith) in
    let groups = take_at c.merge-2.new.words (drop (length c.merge-2.new.words) s.groups.items) s.groups.len (omega arith) in
    rw (words, groups)
    (record { indexed = IsIndexed-merged s.limit s.count o.count s.words.items s.groups.items o.words.items o.groups.items _ _ s.indexed second c.requires.apart bits mark })

pub invariant_of-other : goal.invariant_of-other
invariant_of-other c =
    let o = c.args.other.now in
    let words = take_at c.clear.new.words (drop (length c.clear.new.words) o.words.items) o.words.len (omega arith) in
    let groups = take_at c.clear-2.new.words (drop (length c.clear-2.new.words) o.groups.items) o.groups.len (omega arith) in
    rw (words, groups, c.clear.ensures, c.clear-2.ensures)
    (record { indexed = IsIndexed-zeros o.limit _ _ o.indexed.small (omega arith) (omega arith) })

pub returns-clause-members : goal.returns-clause-members
returns-clause-members c k =
    let s = c.args.self.now in
    let o = c.args.other.now in
    let bits = Merges-seen s.words.items c.deref_mut.result.now o.words.items c.deref.result.now c.merge.new.words c.deref_mut.ensures.value c.deref.ensures.value
    (record { len = omega arith; each = c.merge.ensures }) in
    let words = take_at c.merge.new.words (drop (length c.merge.new.words) s.words.items) s.words.len (omega arith) in
    rw words (has-merged c.merge.new.words s.words.items o.words.items bits.each k)

pub returns-clause-emptied : goal.returns-clause-emptied
returns-clause-emptied c k =
    let o = c.args.other.now in
    let words = take_at c.clear.new.words (drop (length c.clear.new.words) o.words.items) o.words.len (omega arith) in
    rw (words, c.clear.ensures) (has-zeros _ k)
