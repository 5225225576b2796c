-- What a backup holds: a map as a list, what changed between two maps, and the one applied to the other.
use Rattle.std.specs.Prelude.{ℕ, List, [], ◌∷◌, Option, Some, None, map as list_map}
use Rattle.std.specs.Option.{option_map}
use Rattle.std.specs.FinMap as map
use Rattle.ck_model.specs.declared.key.Key.{Key}
use Rattle.ck_model.specs.Key.{key_cmp}
use Rattle.ck_model.specs.Cells.{Cells, Content, differences}

-- the keys of a map and what they hold, in the order of the keys
abbrev pub image : Cells → List (Key × Content)
image cells = list_map (λ e. (e.0, e.1.payload)) (map.entries cells)

-- at each key at which two maps differ, what the second one holds, or None where it has no cell
abbrev pub changed : Cells → Cells → List (Key × Option Content)
changed a b = list_map (λ e. (e.0, option_map (λ cell. cell.payload) e.1)) (map.entries (differences a b))

-- a key put, or removed
abbrev pub set_to : map.FinMap key_cmp Content → Key → Option Content → map.FinMap key_cmp Content
set_to contents key None = map.remove contents key
set_to contents key (Some content) = map.insert contents key content

abbrev pub set_all : map.FinMap key_cmp Content → List (Key × Option Content) → map.FinMap key_cmp Content
set_all contents [] = contents
set_all contents (change ∷ changes) = set_to (set_all contents changes) change.0 change.1

-- the list with these changes made
abbrev pub applied : List (Key × Content) → List (Key × Option Content) → List (Key × Content)
applied items changes = map.entries (set_all (map.from_entries items) changes)

-- the texts of streams: of a checkpoint's id and image, and of two ids and what changed
pub record Texts : Type 0 where
  pub full : ℕ → List (Key × Content) → List ℕ
  pub changes : ℕ → ℕ → List (Key × Option Content) → List ℕ
