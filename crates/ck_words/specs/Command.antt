-- The commands of fsckptadm, by their words.
use Rattle.std.specs.Prelude.{ℕ, ◌≤◌, ◌&&◌, Bool, List, [], ◌∷◌, Option, Some, None, codes, nat_eq, nat_le, if◌then◌else◌}
use Rattle.std.specs.Option.{option_map, option_and_then}
use Rattle.std.specs.Cmp.Lexicographic.{pointwise}
use Rattle.ck_text.specs.Decimal.{number_of}
use Rattle.ck_words.specs.declared.command.Command.{Command}
use Rattle.ck_words.specs.declared.command.Command.TheVariants.{Play, Mkfs}

-- the word is this text
abbrev pub is_text : List ℕ → List ℕ → Bool
is_text word text = pointwise nat_eq word text

-- the number that a word is the decimal of, where it is neither below the first limit nor above the second
abbrev pub number_within : ℕ → ℕ → List ℕ → Option ℕ
number_within least most word = option_and_then (λ number. if nat_le least number && nat_le number most then Some number else None) (number_of word)

-- how many data blocks a volume gets
abbrev pub blocks_of : List ℕ → Option ℕ
blocks_of word = number_within 1 65536 word

-- how many records it gets
abbrev pub records_of : List ℕ → Option ℕ
records_of word = number_within 32 262144 word

-- BLOCKS RECORDS
abbrev pub mkfs_of : List ℕ → List ℕ → Option Command
mkfs_of blocks records = option_and_then (λ blocks. option_map (λ records. Mkfs blocks records) (records_of records)) (blocks_of blocks)

-- the command that words match
abbrev pub command_of : List (List ℕ) → Option Command
command_of (verb ∷ []) = if is_text verb (codes "play") then Some Play else None
command_of (verb ∷ blocks ∷ records ∷ []) = if is_text verb (codes "mkfs") then mkfs_of blocks records else None
command_of _ = None

-- how many data blocks and records a volume may have
pub record IsSized (blocks records : ℕ) : Type 0 where
  pub some_blocks : 1 ≤ blocks
  pub few_blocks : blocks ≤ 65536
  pub some_records : 32 ≤ records
  pub few_records : records ≤ 262144

-- a volume that a command makes may have so many
abbrev pub IsWithin : Command → Type 0
IsWithin Play = Unit {0}
IsWithin (Mkfs blocks records) = IsSized blocks records
