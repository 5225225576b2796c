-- The script of the generator: files, and rounds of changes with a checkpoint and a backup each.
use Rattle.std.specs.Prelude.{ℕ, zero, suc, ◌+◌, ◌-◌, ◌*◌, ◌/◌, ◌%◌, List, [], ◌∷◌, ◌++◌, codes, nat_eq, if◌then◌else◌}
use Rattle.std.specs.Fmt.{decimal}
use Rattle.hex.specs.Hex.{encode_lower}

-- A draw below k sets the state to this one, and gives its rest by k.
abbrev pub drawn : ℕ → ℕ
drawn state = state * 48271 % 2147483647

-- the state after so many draws
abbrev pub after : ℕ → ℕ → ℕ
after zero state = state
after (suc draws) state = after draws (drawn state)

-- so many texts, with numbers from this one on, each of which takes so many draws
abbrev pub texts : (ℕ → ℕ → List ℕ) → ℕ → ℕ → ℕ → ℕ → List ℕ
texts text draws zero number state = []
texts text draws (suc count) number state = text number state ++ texts text draws count (number + 1) (after draws state)

-- a space, and a number
abbrev pub number_word : ℕ → List ℕ
number_word number = 32 ∷ decimal number

abbrev pub fill_line : ℕ → ℕ → ℕ → ℕ → List ℕ
fill_line file at len byte = codes "1 fill /f" ++ decimal file ++ number_word at ++ number_word len ++ 32 ∷ encode_lower (byte ∷ []) ++ codes "\n"

-- a new file with up to 61,440 bytes, all the same
abbrev pub file_lines : ℕ → ℕ → List ℕ
file_lines file state =
    codes "1 make /f" ++ decimal file ++ codes "\n" ++ fill_line file 0 (after 1 state % 61441) (after 2 state % 256)

-- up to 4,096 bytes of one of so many files
abbrev pub some_fill : ℕ → ℕ → ℕ → List ℕ
some_fill files number state = fill_line (1 + after 1 state % files) (after 2 state % 61440) (1 + after 3 state % 4096) (after 4 state % 256)

-- a read of one of so many files by actor 2
abbrev pub some_read : ℕ → ℕ → ℕ → List ℕ
some_read files number state = codes "2 read /f" ++ decimal (1 + after 1 state % files) ++ number_word (after 2 state % 61440) ++ codes " 4096\n"

-- the name of a round's checkpoint, and the letter where it is mounted; the base is round 0's
abbrev pub round_name : ℕ → List ℕ
round_name round = if nat_eq round 0 then codes "base" else codes "n" ++ decimal round

abbrev pub round_letter : ℕ → List ℕ
round_letter round = if nat_eq (round % 2) 0 then codes "a" else codes "b"

-- the round's checkpoint and the backup to it; the one before becomes nodata
abbrev pub round_end : ℕ → List ℕ
round_end round =
    (codes "1 create " ++ round_name round ++ codes "\n")
    ++ (codes "1 mount " ++ round_letter round ++ codes " " ++ round_name round ++ codes "\n")
    ++ (codes "1 backup " ++ round_letter (round - 1) ++ codes " " ++ round_letter round ++ codes "\n")
    ++ (codes "1 nodata " ++ round_name (round - 1) ++ codes "\n")
    ++ (codes "1 umount " ++ round_letter (round - 1) ++ codes "\n")

-- a fill for each ten files, and a read for each twenty
abbrev pub round_text : ℕ → ℕ → ℕ → List ℕ
round_text files round state =
    texts (some_fill files) 4 (files / 10) 0 state ++ texts (some_read files) 2 (files / 20) 0 (after (4 * (files / 10)) state) ++ round_end round

-- how many draws a round takes
abbrev pub round_draws : ℕ → ℕ
round_draws files = 4 * (files / 10) + 2 * (files / 20)

abbrev pub first_checkpoint : List ℕ
first_checkpoint = codes "1 create base\n1 mount a base\n1 full a\n"

abbrev pub generated : ℕ → ℕ → ℕ → List ℕ
generated seed files rounds =
    texts file_lines 2 files 1 seed ++ first_checkpoint ++ texts (round_text files) (round_draws files) rounds 1 (after (2 * files) seed)
