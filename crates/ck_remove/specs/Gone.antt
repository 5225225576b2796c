-- The checkpoints that are gone, and what is left of them in a table.
use Rattle.std.specs.Prelude.{ℕ, ◌+◌, List, [], ◌∷◌, Option, Some, None, if◌then◌else◌, find, length}
use Rattle.std.specs.Option.{option_map}
use Rattle.ck_model.specs.declared.key.Key.{Key}
use Rattle.ck_model.specs.Table.{Table, keys_in, newer}
use Rattle.ck_model.specs.Chain.{is_gone}
use Rattle.ck_remove.specs.declared.gone.GoneEntry.{GoneEntry}

-- the oldest checkpoint that is gone
abbrev pub oldest_gone : Table → Option ℕ
oldest_gone t = find (is_gone t) (newer t 0)

abbrev pub first_of : List Key → Option Key
first_of [] = None
first_of (key ∷ keys) = Some key

-- the oldest checkpoint that is gone, with its least entry where it has one
abbrev pub work_of : Table → Option GoneEntry
work_of t = option_map (λ id. record { id = id; key = first_of (keys_in t id) }) (oldest_gone t)

-- how many entries a fileset has
abbrev pub entry_count : Table → ℕ → ℕ
entry_count t fs = length (keys_in t fs)

-- a checkpoint that is gone counts as one, and its entries beside it
abbrev pub left_at : Table → ℕ → ℕ
left_at t fs = if is_gone t fs then 1 + entry_count t fs else 0

abbrev pub left_in : Table → List ℕ → ℕ
left_in t [] = 0
left_in t (fs ∷ filesets) = left_at t fs + left_in t filesets

-- the checkpoints that are gone, and their entries
abbrev pub left_of : Table → ℕ
left_of t = left_in t (newer t 0)
