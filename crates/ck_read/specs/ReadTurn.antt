-- What a turn of a read answers.
use Rattle.std.specs.Prelude.{Bool, true, false, if◌then◌else◌}
use Rattle.ck_read.specs.declared.progress.ReadProgress.{ReadProgress}
use Rattle.ck_read.specs.declared.turns.ReadTurn.{ReadTurn}
use Rattle.ck_read.specs.declared.turns.ReadTurn.TheVariants.{More, Finished, Gone, NoData, ReadFault, NoMemory}
use Rattle.ck_read.specs.Progress.{is_through}

-- it took a block, or found none left
abbrev pub has_read : ReadTurn → Bool
has_read More = true
has_read Finished = true
has_read Gone = false
has_read NoData = false
has_read ReadFault = false
has_read NoMemory = false

-- whether bytes are left
abbrev pub turn_at : ReadProgress → ReadTurn
turn_at progress = if is_through progress then Finished else More
