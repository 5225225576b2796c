-- The keys behind a key, in their order.
use Rattle.std.specs.Prelude.{◌≡◌, ℕ, Bool, true, false, Option, Some, None, IfSome, IsSome, suc, filter, length}
use Rattle.std.specs.Ordering.{is_lt}
use Rattle.ck_model.specs.declared.key.Key.{Key}
use Rattle.ck_model.specs.Key.{key_cmp}
use Rattle.ck_model.specs.Table.{Table, column}
use Rattle.ck_model.specs.TableWorld.{keys_of}

-- all keys are behind no key at all
abbrev pub is_after : Option Key → Key → Bool
is_after None q = true
is_after (Some key) q = is_lt (key_cmp key q)

-- and before it
abbrev pub is_before : Option Key → Key → Bool
is_before None q = true
is_before (Some key) q = is_lt (key_cmp q key)

-- some fileset of the table has an entry at the key
abbrev pub IsHeld : Table → Key → Type 0
IsHeld t key = (fs : ℕ) × IsSome (column t key fs)

-- the next key of a table, None where there is none, such that no key that passes stands between
pub record IsNext (t : Table) (passes : Key → Bool) (after : Option Key) (next : Option Key) : Type 0 where
  pub behind : IfSome next (λ k. is_after after k ≡ true)
  pub held : IfSome next (IsHeld t)
  pub between : (q : Key) → is_after after q ≡ true → is_before next q ≡ true → passes q ≡ false

-- a key behind another
abbrev pub is_behind : Key → Key → Bool
is_behind key q = is_lt (key_cmp key q)

-- the key itself and those of the table that are behind it
abbrev pub keys_left : Table → Option Key → ℕ
keys_left t None = 0
keys_left t (Some key) = suc (length (filter (is_behind key) (keys_of t)))
