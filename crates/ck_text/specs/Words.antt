-- The words of a line.
use Rattle.std.specs.Prelude.{ℕ, Bool, ◌||◌, List, [], ◌∷◌, length, nat_eq, nat_lt, filter, if◌then◌else◌}
use Rattle.std.specs.List.{slice_split}

-- a space or a tab
abbrev pub is_blank : ℕ → Bool
is_blank byte = nat_eq byte 32 || nat_eq byte 9

-- the parts between blanks that aren't empty
abbrev pub words_of : List ℕ → List (List ℕ)
words_of line = filter (λ part. nat_lt 0 (length part)) (slice_split is_blank line)

-- the place of a word that begins and ends here, if it isn't empty
abbrev pub word_between : ℕ → ℕ → List (ℕ × ℕ)
word_between start end = if nat_lt start end then (start, end) ∷ [] else []
