-- Paths from the root.
use Rattle.std.specs.Prelude.{◌≤◌, ◌++◌, ℕ, List, [], ◌∷◌, length, All}
use Rattle.ck_model.specs.Name.{IsFileName}

-- each name with a slash before it
abbrev pub joined : List (List ℕ) → List ℕ
joined [] = []
joined (name ∷ names) = (47 ∷ name) ++ joined names

-- the text of a path: a slash alone for the root
abbrev pub path_text : List (List ℕ) → List ℕ
path_text [] = 47 ∷ []
path_text (name ∷ names) = joined (name ∷ names)

-- file names, whose text has at most 1,024 bytes
pub record IsPath (names : List (List ℕ)) : Type 0 where
  pub each : All IsFileName names
  pub short : length (path_text names) ≤ 1024
