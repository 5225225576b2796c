-- Words of 64 bits as a set of numbers.
use Rattle.std.specs.Prelude.{◌≡◌, ℕ, zero, suc, ◌+◌, ◌/◌, ◌%◌, ◌^◌, ◌<◌, ◌==◌, Bool, true, not, if◌then◌else◌, List, length, slice_index}
use Rattle.std.specs.Int.{bit_at}

-- whether the number is a member: its bit in its word is set, the lowest bit of a word being the first
unfoldable pub has : List ℕ → ℕ → Bool
has words k = bit_at (slice_index words (k / 64)) (k % 64) == 1

-- a bit of `groups` for each word says that the word has a member
abbrev pub Marks : List ℕ → List ℕ → Type 0
Marks groups words = (word : ℕ) → has groups word ≡ not (slice_index words word == 0)

-- how many of the numbers below n pass a test
abbrev pub count_below : (ℕ → Bool) → ℕ → ℕ
count_below test zero = 0
count_below test (suc n) = count_below test n + (if test n then 1 else 0)

-- Words for the numbers below a limit, with their marks and the count of their members.
pub record IsIndexed (limit count : ℕ) (words groups : List ℕ) : Type 0 where
  pub small : limit < 2 ^ 32
  pub room : length words ≡ limit / 64 + 1
  pub group_room : length groups ≡ length words / 64 + 1
  pub marked : Marks groups words
  pub within : (k : ℕ) → has words k ≡ true → k < limit
  pub counted : count ≡ count_below (has words) limit
