-- The entries that go with a file.
use Rattle.std.specs.Prelude.{ℕ, Bool, false, ◌&&◌, List, [], ◌∷◌, filter, map as list_map, is_some, if◌then◌else◌, nat_eq, nat_le}
use Rattle.ck_model.specs.declared.key.Key.{Key}
use Rattle.ck_model.specs.declared.key.Key.TheVariants.{Name, Node, Block}
use Rattle.ck_model.specs.declared.change.Change.{Change}
use Rattle.ck_model.specs.declared.change.Change.TheVariants.{Del}
use Rattle.ck_model.specs.Table.{Table, column, keys_in}

-- a block of this file, at this index or behind it
abbrev pub is_block_from : ℕ → ℕ → Key → Bool
is_block_from node first (Name directory name) = false
is_block_from node first (Node number) = false
is_block_from node first (Block number index) = nat_eq number node && nat_le first index

-- those that the primary has, in their order
abbrev pub blocks_from : Table → ℕ → ℕ → List Key
blocks_from t node first = filter (is_block_from node first) (keys_in t 0)

abbrev pub deletions : List Key → List Change
deletions keys = list_map (λ key. Del key) keys

-- a file's name, its node and its blocks
abbrev pub file_keys : Table → Key → ℕ → List Key
file_keys t name node = name ∷ Node node ∷ blocks_from t node 0

-- the deletion of a key that the primary has
abbrev pub deletion_at : Table → Key → List Change
deletion_at t key = if is_some (column t key 0) then Del key ∷ [] else []
