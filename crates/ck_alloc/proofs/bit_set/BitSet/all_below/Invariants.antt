use Rattle.std.proofs.Common.{◌≡◌, ℕ, nat_lt}
use Rattle.ck_alloc.specs.Bits.{has}
use Rattle.ck_alloc.proofs.bit_set.BitSet.all_below.Given as goal

-- the numbers below `at` are in
abbrev pub invariant-loop-at : goal.invariant-loop-at
invariant-loop-at l = record {
  limit : l.all.limit ≡ l.limit;
  members : (k : ℕ) → has l.all.words.items k ≡ nat_lt k l.at;
}
