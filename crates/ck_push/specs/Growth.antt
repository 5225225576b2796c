-- How many records changes add to a table and take away.
use Rattle.std.specs.Prelude.{ℕ, ◌+◌, ◌-◌, Bool, false, ◌&&◌, not, List, [], ◌∷◌, Option, Some, None, is_some, if◌then◌else◌}
use Rattle.std.specs.List.{list_any}
use Rattle.ck_model.specs.declared.key.Key.{Key}
use Rattle.ck_model.specs.declared.change.Change.{Change}
use Rattle.ck_model.specs.Table.{Table, column, newer}
use Rattle.ck_model.specs.Chain.{newest_live_of}
use Rattle.ck_chain.specs.Needless.{is_absent}
use Rattle.ck_chain.specs.Changes.{key_of, is_deletion, is_write}
use Rattle.ck_push.specs.Changed.{push_of}

-- 1 where it holds
abbrev pub one_if : Bool → ℕ
one_if b = if b then 1 else 0

-- the checkpoint's absent, which nothing but the primary's entry makes needed
abbrev pub absent_goes : Table → Key → Option ℕ → Bool
absent_goes t key None = false
absent_goes t key (Some fs) = is_absent (column t key fs) && not (list_any (λ id. is_some (column t key id)) (newer t fs))

-- the entry that is pushed, and that of the primary where it had none
abbrev pub gain : Table → Change → ℕ
gain t change = one_if (is_some (push_of t (key_of change))) + one_if (not (is_deletion change) && not (is_some (column t (key_of change) 0)))

-- at a deletion, the primary's entry, and the newest checkpoint's absent where that is needless then
abbrev pub loss : Table → Change → ℕ
loss t change = one_if (is_deletion change) + one_if (is_deletion change && absent_goes t (key_of change) (newest_live_of t))

-- how many records more the table has after a change
abbrev pub growth : Table → Change → ℕ
growth t change = gain t change - loss t change

-- of several changes of different keys, each at the table before them
abbrev pub gains : Table → List Change → ℕ
gains t [] = 0
gains t (change ∷ changes) = gain t change + gains t changes

abbrev pub losses : Table → List Change → ℕ
losses t [] = 0
losses t (change ∷ changes) = loss t change + losses t changes

abbrev pub write_count : List Change → ℕ
write_count [] = 0
write_count (change ∷ changes) = one_if (is_write change) + write_count changes
