use Rattle.std.proofs.Common.{◌/◌, arith}
use Rattle.std.proofs.lemmas.List.{get_or_read}
use Rattle.ck_alloc.proofs.MarkLemmas.{first_word_member, has-zero_word, word_within}
use Rattle.ck_alloc.proofs.bit_set.BitSet.lowest.Goals as goal

pub returns-in_err-word-clause-none : goal.returns-in_err-word-clause-none
returns-in_err-word-clause-none c =
    let s = c.args.self.now in
    rw c.from_residual.ensures
    (λ k. has-zero_word s.words.items k (c.in_err-word.ensures.none (k / 64)))

pub overflow_cast-result-2 : goal.overflow_cast-result-2
overflow_cast-result-2 c =
    let s = c.args.self.now in
    let value = get_or_read s.words.items c.in_ok-word.word c.index.result.now (word_within s.words.items c.in_ok-word.word c.in_ok-word.ensures.found) c.index.ensures 0 in
    let lowest = first_word_member s.words.items c.in_ok-word.word c.in_ok-word.ensures.found (omega (arith, value)) c.in_ok-word.ensures.first in
    rw value (omega (arith, s.indexed.within _ lowest.0))

pub returns-clause-found : goal.returns-clause-found
returns-clause-found c =
    let s = c.args.self.now in
    let value = get_or_read s.words.items c.in_ok-word.word c.index.result.now (word_within s.words.items c.in_ok-word.word c.in_ok-word.ensures.found) c.index.ensures 0 in
    rw value (first_word_member s.words.items c.in_ok-word.word c.in_ok-word.ensures.found (omega (arith, value)) c.in_ok-word.ensures.first).0

pub returns-clause-lowest : goal.returns-clause-lowest
returns-clause-lowest c =
    let s = c.args.self.now in
    let value = get_or_read s.words.items c.in_ok-word.word c.index.result.now (word_within s.words.items c.in_ok-word.word c.in_ok-word.ensures.found) c.index.ensures 0 in
    rw value (first_word_member s.words.items c.in_ok-word.word c.in_ok-word.ensures.found (omega (arith, value)) c.in_ok-word.ensures.first).1
