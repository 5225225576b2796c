-- The limits that hold everywhere.
use Rattle.std.specs.Prelude.{ℕ}

-- the limit of a file's size
abbrev pub file_limit : ℕ
file_limit = 1073741824

-- at most so many checkpoints may stand
abbrev pub checkpoint_limit : ℕ
checkpoint_limit = 64

-- how many bytes a script has at the most
abbrev pub script_limit : ℕ
script_limit = 16777216

abbrev pub block_len : ℕ
block_len = 4096

-- an input may have so many bytes
abbrev pub input_limit : ℕ
input_limit = 1073741824
