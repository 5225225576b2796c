-- The entries of one fileset as a list of their own, and what is counted over lists.
use Rattle.std.specs.Prelude.{ℕ, ◌+◌, List, [], ◌∷◌, if◌then◌else◌, nat_eq}
use Rattle.std.specs.FinMap as map
use Rattle.ck_model.specs.declared.key.Key.{Key}
use Rattle.ck_model.specs.declared.held.Held.{Held}
use Rattle.ck_model.specs.Table.{Table}

-- the entries of one fileset, by key
abbrev pub row : {X : Type 0} → ℕ → List ((ℕ × Key) × X) → List (Key × X)
row fs [] = []
row fs (e ∷ es) = if nat_eq e.0.0 fs then (e.0.1, e.1) ∷ row fs es else row fs es

-- the entries of a fileset of a table
abbrev pub row_of : Table → ℕ → List (Key × Held)
row_of t fs = row fs (map.entries t.entries)

-- ---- what is counted

-- a number for each of these, added up
abbrev pub total : {X : Type 0} → (X → ℕ) → List X → ℕ
total f [] = 0
total f (x ∷ xs) = f x + total f xs

-- how often a number stands among these
abbrev pub times : ℕ → List ℕ → ℕ
times g [] = 0
times g (id ∷ ids) = (if nat_eq g id then 1 else 0) + times g ids
