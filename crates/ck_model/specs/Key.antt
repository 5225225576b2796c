-- Keys, their order, and the tests on them.
use Rattle.std.specs.Prelude.{◌≡◌, ℕ, Bool, true, false, List, [], ◌∷◌, ◌&&◌, ◌*◌, nat_eq, nat_le}
use Rattle.std.specs.declared.cmp.Ordering.{Ordering}
use Rattle.std.specs.Ordering.{nat_cmp, on}
use Rattle.std.specs.Cmp.{IsTotalOrder}
use Rattle.std.specs.Cmp.Lexicographic.{slice_cmp, nat_list_cmp_total}
use Rattle.std.specs.FinMap.{IsAntisymmetric, nat_cmp-IsAntisymmetric, slice_cmp-IsAntisymmetric}
use Rattle.std.proofs.lemmas.Cmp.{on_total}
use Rattle.ck_model.specs.declared.key.Key.{Key}
use Rattle.ck_model.specs.declared.key.Key.TheVariants.{Name, Node, Block}

-- a key as a list of numbers: its kind, and then its parts
abbrev pub spelled : Key → List ℕ
spelled (Name directory name) = 0 ∷ directory ∷ name
spelled (Node number) = 1 ∷ number ∷ []
spelled (Block number index) = 2 ∷ number ∷ index ∷ []

-- the order of keys: all names by directory and then bytes, then nodes, then blocks by node and index
abbrev pub key_cmp : Key → Key → Ordering
key_cmp = on spelled (slice_cmp nat_cmp)

-- keys that are spelled alike are one
pub spelled_alike : (x y : Key) → spelled x ≡ spelled y → x ≡ y
spelled_alike (Name d n) (Name e m) h = cc
spelled_alike (Name d n) (Node y) h = cc
spelled_alike (Name d n) (Block y j) h = cc
spelled_alike (Node x) (Name e m) h = cc
spelled_alike (Node x) (Node y) h = cc
spelled_alike (Node x) (Block y j) h = cc
spelled_alike (Block x i) (Name e m) h = cc
spelled_alike (Block x i) (Node y) h = cc
spelled_alike (Block x i) (Block y j) h = cc

pub key_cmp_total : IsTotalOrder key_cmp
key_cmp_total = on_total spelled nat_list_cmp_total

pub key_cmp_exact : IsAntisymmetric key_cmp
key_cmp_exact x y h = spelled_alike x y (slice_cmp-IsAntisymmetric nat_cmp-IsAntisymmetric (spelled x) (spelled y) h)

-- a fileset's number and a key, as a list of numbers
abbrev pub entry_spelled : ℕ × Key → List ℕ
entry_spelled entry = entry.0 ∷ spelled entry.1

-- the order of a table's entries: by their filesets, and then by their keys
abbrev pub entry_cmp : ℕ × Key → ℕ × Key → Ordering
entry_cmp = on entry_spelled (slice_cmp nat_cmp)

pub entry_cmp_total : IsTotalOrder entry_cmp
entry_cmp_total = on_total entry_spelled nat_list_cmp_total

same_entry : {x y : ℕ × Key} → x.0 ∷ spelled x.1 ≡ y.0 ∷ spelled y.1 → x ≡ y
same_entry {x} {y} h = let first : x.0 ≡ y.0 = cc in let second : spelled x.1 ≡ spelled y.1 = cc in λ i. (first i, spelled_alike x.1 y.1 second i)

pub entry_cmp_exact : IsAntisymmetric entry_cmp
entry_cmp_exact x y h = same_entry (slice_cmp-IsAntisymmetric nat_cmp-IsAntisymmetric (x.0 ∷ spelled x.1) (y.0 ∷ spelled y.1) h)

abbrev pub is_block : Key → Bool
is_block (Name directory name) = false
is_block (Node number) = false
is_block (Block number index) = true

-- a name in this directory
abbrev pub is_name_in : ℕ → Key → Bool
is_name_in directory (Name other name) = nat_eq other directory
is_name_in directory (Node number) = false
is_name_in directory (Block number index) = false

-- this node, or a block of it
abbrev pub is_of : ℕ → Key → Bool
is_of node (Name directory name) = false
is_of node (Node number) = nat_eq number node
is_of node (Block number index) = nat_eq number node

-- a block of this node that begins at this size or behind it
abbrev pub is_past : ℕ → ℕ → Key → Bool
is_past node size (Name directory name) = false
is_past node size (Node number) = false
is_past node size (Block number index) = nat_eq number node && nat_le size (index * 4096)
