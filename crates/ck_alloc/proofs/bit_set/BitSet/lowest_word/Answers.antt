use Rattle.std.proofs.Common.{◌/◌, arith}
use Rattle.std.proofs.lemmas.List.{get_or_read}
use Rattle.ck_alloc.proofs.MarkLemmas.{first_word_member, first_marked, unmarked_word, has-zero_word}
use Rattle.ck_alloc.proofs.bit_set.BitSet.lowest_word.Goals as goal

pub returns-in_err-group-clause-none : goal.returns-in_err-group-clause-none
returns-in_err-group-clause-none c =
    let s = c.args.self.now in
    rw c.from_residual.ensures
    (λ k. unmarked_word s.groups.items s.words.items k s.indexed.marked (has-zero_word s.groups.items k (rw c.deref.ensures.value at (c.in_err-group.ensures.none (k / 64)))))

pub returns-clause-found : goal.returns-clause-found
returns-clause-found c =
    let s = c.args.self.now in
    let found = rw c.deref.ensures.value at c.in_ok-group.ensures.found in
    let first = rw c.deref.ensures.value at c.in_ok-group.ensures.first in
    let value = get_or_read s.groups.items c.in_ok-group.group c.index.result.now found.0 c.index.ensures 0 in
    let lowest = first_word_member s.groups.items c.in_ok-group.group found.1 (omega (arith, value)) first in
    rw value (first_marked s.groups.items s.words.items _ s.indexed.marked lowest.0 lowest.1).0

pub returns-clause-first : goal.returns-clause-first
returns-clause-first c =
    let s = c.args.self.now in
    let found = rw c.deref.ensures.value at c.in_ok-group.ensures.found in
    let first = rw c.deref.ensures.value at c.in_ok-group.ensures.first in
    let value = get_or_read s.groups.items c.in_ok-group.group c.index.result.now found.0 c.index.ensures 0 in
    let lowest = first_word_member s.groups.items c.in_ok-group.group found.1 (omega (arith, value)) first in
    rw value (first_marked s.groups.items s.words.items _ s.indexed.marked lowest.0 lowest.1).1
