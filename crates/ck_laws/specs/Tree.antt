-- The tree rule: a map is a tree of directories, with files in them.
use Rattle.std.specs.Prelude.{◌≡◌, ◌≢◌, ◌≤◌, ◌<◌, ℕ, ◌*◌, true, List, Option, Some, Ok, IsSomeAnd}
use Rattle.std.specs.FinMap as map
use Rattle.ck_model.specs.declared.key.Key.TheVariants.{Name, Node, Block}
use Rattle.ck_model.specs.Cells.{Cells, content_at, named_node, is_directory_at, size_at}
use Rattle.ck_model.specs.Walk.{walk}
use Rattle.ck_model.specs.Contents.{file_byte}

abbrev pub HasName : Cells → ℕ → List ℕ → Type 0
HasName cells directory name = map.contains_key cells (Name directory name) ≡ true

abbrev pub HasNode : Cells → ℕ → Type 0
HasNode cells node = map.contains_key cells (Node node) ≡ true

-- the node that a name in a directory names
abbrev pub child_at : Cells → ℕ → List ℕ → Option ℕ
child_at cells directory name = named_node (content_at cells (Name directory name))

-- a path leads from the root to the node
pub record IsReached (cells : Cells) (node : ℕ) : Type 0 where
  pub path : List (List ℕ)
  pub leads : walk cells path ≡ Ok node

pub record IsTree (cells : Cells) : Type 0 where
  -- node 0 is a directory
  pub root : is_directory_at cells 0 ≡ true
  -- each name is in a directory
  pub directories : (directory : ℕ) (name : List ℕ) → HasName cells directory name → is_directory_at cells directory ≡ true
  -- and names a node that there is, other than node 0
  pub children : (directory : ℕ) (name : List ℕ) → HasName cells directory name → IsSomeAnd (child_at cells directory name) (λ node. (node ≢ 0) × HasNode cells node)
  -- no node has two names
  pub once : (node directory other : ℕ) (name again : List ℕ) → child_at cells directory name ≡ Some node → child_at cells other again ≡ Some node → (directory ≡ other) × (name ≡ again)
  -- each node is reached from the root, so each but the root has a name
  pub reached : (node : ℕ) → HasNode cells node → IsReached cells node
  -- blocks are below the size of a file
  pub blocks : (node index : ℕ) → map.contains_key cells (Block node index) ≡ true → index * 4096 < size_at cells node
  -- and its bytes from its size on are zeros
  pub zeros : (node place : ℕ) → size_at cells node ≤ place → file_byte cells node place ≡ 0

-- the numbers of the nodes are below this one
abbrev pub NodesBelow : ℕ → Cells → Type 0
NodesBelow next cells = (node : ℕ) → HasNode cells node → node < next

-- a tree whose nodes have numbers that were given already
pub record IsGrown (next : ℕ) (cells : Cells) : Type 0 where
  pub tree : IsTree cells
  pub below : NodesBelow next cells
