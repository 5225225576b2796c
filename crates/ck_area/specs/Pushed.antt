-- Values that stand behind others in a list, each as it was made for its number.
use Rattle.std.specs.Prelude.{◌≡◌, ℕ, ◌+◌, ◌<◌, List, length, get_or}

pub record ArePushed {X : Type 0} (IsMade : ℕ → X → Type 0) (before : List X) (count : ℕ) (after : List X) : Type 0 where
  pub len : length after ≡ length before + count
  pub kept : (k : ℕ) (d : X) → k < length before → get_or after k d ≡ get_or before k d
  pub each : (k : ℕ) (d : X) → k < count → IsMade k (get_or after (length before + k) d)
