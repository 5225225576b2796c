-- The changes of a file that gets another size.
use Rattle.std.specs.Prelude.{ℕ, ◌+◌, ◌/◌, ◌%◌, ◌&&◌, not, List, [], ◌∷◌, ◌++◌, is_some, if◌then◌else◌, nat_eq, nat_lt}
use Rattle.ck_model.specs.declared.key.Key.TheVariants.{Node, Block}
use Rattle.ck_model.specs.declared.change.Change.{Change}
use Rattle.ck_model.specs.declared.change.Change.TheVariants.{Put, Write}
use Rattle.ck_model.specs.declared.held.Small.TheVariants.{File}
use Rattle.ck_model.specs.Table.{Table}
use Rattle.ck_model.specs.Chain.{value_at}
use Rattle.ck_tree.specs.Deletions.{blocks_from, deletions}

-- the first block that begins at this size or behind it
abbrev pub first_past : ℕ → ℕ
first_past size = (size + 4095) / 4096

-- the last block, where the size cuts it and the primary has it
abbrev pub cut_write : Table → ℕ → ℕ → List Change
cut_write t node size =
    if not (nat_eq (size % 4096) 0) && is_some (value_at t 0 (Block node (size / 4096))) then Write node (size / 4096) 0 ∷ [] else []

-- the blocks behind the size go
abbrev pub cut_changes : Table → ℕ → ℕ → List Change
cut_changes t node size = deletions (blocks_from t node (first_past size)) ++ cut_write t node size

-- the node, where the size changes
abbrev pub size_put : ℕ → ℕ → ℕ → List Change
size_put node old size = if nat_eq size old then [] else Put (Node node) (File size) ∷ []

-- from one size to another
abbrev pub size_changes : Table → ℕ → ℕ → ℕ → List Change
size_changes t node old size = (if nat_lt size old then cut_changes t node size else []) ++ size_put node old size
