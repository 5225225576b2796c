use Rattle.std.proofs.Common.{◌≡◌, ℕ, ◌==◌, ◌&&◌, not, take}
use Rattle.std.specs.List.{list_any}
use Rattle.ck_alloc.specs.Bits.{has}
use Rattle.ck_alloc.proofs.bit_set.BitSet.remove_all.Given as goal

-- the numbers so far are out
abbrev pub invariant-loop-at : goal.invariant-loop-at
invariant-loop-at l = record {
  limit : l.self.limit ≡ l.initial.self.limit;
  members : (k : ℕ) → has l.self.words.items k ≡ (has l.initial.self.words.items k && not (list_any (λ n. n == k) (take l.at-index l.numbers)));
}
