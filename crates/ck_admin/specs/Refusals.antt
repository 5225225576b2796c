-- Why a device isn't opened or formatted, as the line on standard error says it.
use Rattle.std.specs.Prelude.{ℕ, List, ◌++◌, codes}
use Rattle.ck_report.specs.Words.{number_words}

abbrev pub not_volume_words : List ℕ
not_volume_words = codes "NotVolume"

-- the format's number
abbrev pub bad_format_words : ℕ → List ℕ
bad_format_words version = codes "BadFormat" ++ number_words version

-- the block, and the slot in it
abbrev pub damaged_words : ℕ → ℕ → List ℕ
damaged_words block slot = codes "Damaged" ++ number_words block ++ number_words slot

-- how many blocks the volume takes, and how many the device has
abbrev pub bad_size_words : ℕ → ℕ → List ℕ
bad_size_words needs has = codes "BadSize" ++ number_words needs ++ number_words has
