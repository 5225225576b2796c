-- The keys of a fileset in a list of entries.
use Rattle.std.specs.Prelude.{ℕ, List, Option, Some, None, filter, nat_eq, map as list_map}
use Rattle.std.specs.Ordering.{is_lt}
use Rattle.ck_model.specs.declared.key.Key.{Key}
use Rattle.ck_model.specs.declared.held.Held.{Held}
use Rattle.ck_model.specs.Key.{key_cmp}

-- the keys of these entries in one fileset
abbrev pub keys_within : List ((ℕ × Key) × Held) → ℕ → List Key
keys_within es fs = list_map (λ e. e.0.1) (filter (λ e. nat_eq e.0.0 fs) es)

-- those after this one
abbrev pub keys_behind : List ((ℕ × Key) × Held) → ℕ → Option Key → List Key
keys_behind es fs None = keys_within es fs
keys_behind es fs (Some key) = filter (λ q. is_lt (key_cmp key q)) (keys_within es fs)
