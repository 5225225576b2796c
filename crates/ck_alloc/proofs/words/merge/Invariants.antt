use Rattle.std.proofs.Common.{◌≡◌, ℕ, ◌<◌, ◌≤◌, slice_index, bit_or}
use Rattle.ck_alloc.proofs.words.merge.Given as goal

-- the words below i are merged, and the others are as they were
abbrev pub invariant-loop-i : goal.invariant-loop-i
invariant-loop-i l = record {
  merged : (word : ℕ) → word < l.i → slice_index l.words word ≡ bit_or (slice_index l.initial.words word) (slice_index l.others word);
  rest : (word : ℕ) → l.i ≤ word → slice_index l.words word ≡ slice_index l.initial.words word;
}
