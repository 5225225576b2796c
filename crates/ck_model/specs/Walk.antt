-- From the root along the names of a path.
use Rattle.std.specs.Prelude.{ℕ, ◌-◌, List, [], ◌∷◌, Result, Ok, Err, if◌then◌else◌, take, length}
use Rattle.std.specs.List.{slice_index_or}
use Rattle.std.specs.Option.{ok_or}
use Rattle.std.specs.FinMap as map
use Rattle.ck_model.specs.declared.key.Key.{Key}
use Rattle.ck_model.specs.declared.key.Key.TheVariants.{Name, Node}
use Rattle.ck_model.specs.declared.path.WalkFault.{WalkFault}
use Rattle.ck_model.specs.declared.path.WalkFault.TheVariants as fault
use Rattle.ck_model.specs.declared.reply.Reply.{Reply}
use Rattle.ck_model.specs.declared.reply.Reply.TheVariants.{IsDir, NotDir, Exists}
use Rattle.ck_model.specs.Cells.{Cells, content_at, named_node, is_directory_at}
use Rattle.ck_model.specs.Refusals.{and_then, or_refused, refuse_if}

-- from a node to the one that a name in it names
abbrev pub entered : Cells → ℕ → List ℕ → Result ℕ WalkFault
entered cells node name =
    if map.contains_key cells (Node node)
    then (if is_directory_at cells node then ok_or (named_node (content_at cells (Name node name))) fault.NotFound else Err fault.NotDir)
    else Err fault.NotFound

-- from this node along the names; at the end stands a node with a cell
abbrev pub walk_from : List (List ℕ) → Cells → ℕ → Result ℕ WalkFault
walk_from [] cells node = if map.contains_key cells (Node node) then Ok node else Err fault.NotFound
walk_from (name ∷ names) cells node = and_then (entered cells node name) (λ child. walk_from names cells child)

-- the node that a path leads to from the root, which is node 0
abbrev pub walk : Cells → List (List ℕ) → Result ℕ WalkFault
walk cells path = walk_from path cells 0

abbrev pub node_at : Cells → List (List ℕ) → Result ℕ Reply
node_at cells path = or_refused (walk cells path)

abbrev pub file_at : Cells → List (List ℕ) → Result ℕ Reply
file_at cells path = and_then (node_at cells path) (λ node. refuse_if (is_directory_at cells node) IsDir (Ok node))

abbrev pub directory_at : Cells → List (List ℕ) → Result ℕ Reply
directory_at cells path =
    and_then (node_at cells path) (λ node. if is_directory_at cells node then Ok node else Err NotDir)

-- the key of a path's last name, in its directory; the root has none
abbrev pub name_at : Cells → Reply → List (List ℕ) → Result Key Reply
name_at cells of_slash [] = Err of_slash
name_at cells of_slash (name ∷ names) =
    let path = name ∷ names in
    let last = length path - 1 in
    and_then (directory_at cells (take last path)) (λ directory. Ok (Name directory (slice_index_or path last [])))

-- the key of a name that doesn't stand yet
abbrev pub new_name_at : Cells → List (List ℕ) → Result Key Reply
new_name_at cells path =
    and_then (name_at cells Exists path) (λ key. refuse_if (map.contains_key cells key) Exists (Ok key))
