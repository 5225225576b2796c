-- The data blocks of a device.
use Rattle.std.specs.Prelude.{ℕ, ◌+◌, [], get_or}
use Rattle.ck_disk.specs.Disk.{Image}
use Rattle.ck_model.specs.Values.{Store}

-- what the data blocks hold where this one is the first of them
abbrev pub store_on : Image → ℕ → Store
store_on shows base = λ block. get_or shows (base + block) []
