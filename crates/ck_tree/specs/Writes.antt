-- The changes of a file that bytes are written to.
use Rattle.std.specs.Prelude.{ℕ, ◌+◌, List, [], ◌∷◌, ◌++◌, map as list_map, if◌then◌else◌, nat_eq, nat_lt}
use Rattle.ck_model.specs.declared.key.Key.TheVariants.{Node}
use Rattle.ck_model.specs.declared.change.Change.{Change}
use Rattle.ck_model.specs.declared.change.Change.TheVariants.{Put, Write}
use Rattle.ck_model.specs.declared.held.Small.TheVariants.{File}
use Rattle.ck_model.specs.Changes.{touched}

-- the node, where the file grows to this end
abbrev pub grown_put : ℕ → ℕ → ℕ → List Change
grown_put node old end = if nat_lt old end then Put (Node node) (File end) ∷ [] else []

-- the blocks with these indexes
abbrev pub block_writes : ℕ → List ℕ → List Change
block_writes node indexes = list_map (λ index. Write node index 0) indexes

-- so many bytes at a place of a file of this size; none change nothing
abbrev pub write_changes : ℕ → ℕ → ℕ → ℕ → List Change
write_changes node old at len = if nat_eq len 0 then [] else grown_put node old (at + len) ++ block_writes node (touched at len)
