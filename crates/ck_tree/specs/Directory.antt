-- The names in a directory, one at a time.
use Rattle.std.specs.Prelude.{ℕ, List, [], ◌∷◌, Option, None}
use Rattle.std.specs.Option.{option_map}
use Rattle.ck_model.specs.declared.key.Key.{Key}
use Rattle.ck_model.specs.declared.key.Key.TheVariants.{Name, Node, Block}
use Rattle.ck_model.specs.declared.child.Child.{Child}
use Rattle.ck_model.specs.Cells.{Cells, content_at, named_node, is_directory_at}

-- what a name stands for, if it names a node
abbrev pub child_at : Cells → Key → Option Child
child_at cells (Name directory name) =
    option_map (λ node. record { name = name; node = node; dir = is_directory_at cells node })
    (named_node (content_at cells (Name directory name)))
child_at cells (Node number) = None
child_at cells (Block number index) = None

-- no name is before this one
abbrev pub least_name : List ℕ
least_name = 33 ∷ []
