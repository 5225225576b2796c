-- The lines on standard error.
use Rattle.std.specs.Prelude.{ℕ, List, [], ◌++◌, codes}
use Rattle.std.specs.Fmt.{decimal}
use Rattle.ck_report.specs.declared.status.Status.{Status}
use Rattle.ck_report.specs.declared.status.Status.TheVariants.{Done, Refused, Usage, BadScript, NotOpened, DeviceFault, SourceFault, SinkFault, NoMemory}

-- how a line begins
abbrev pub status_head : Status → List ℕ
status_head Done = []
status_head (Refused words) = codes "refused: "
status_head Usage = codes "usage: fsckptadm COMMAND IMAGE"
status_head (BadScript line) = codes "line "
status_head (NotOpened words) = codes "not opened: "
status_head DeviceFault = codes "device fault"
status_head SourceFault = codes "source fault"
status_head SinkFault = codes "sink fault"
status_head NoMemory = codes "no memory"

-- what a status holds
abbrev pub status_words : Status → List ℕ
status_words Done = []
status_words (Refused words) = words
status_words Usage = []
status_words (BadScript line) = decimal line
status_words (NotOpened words) = words
status_words DeviceFault = []
status_words SourceFault = []
status_words SinkFault = []
status_words NoMemory = []

-- how a line ends
abbrev pub status_end : Status → List ℕ
status_end Done = []
status_end (Refused words) = codes "\n"
status_end Usage = codes "\n"
status_end (BadScript line) = codes ": refused\n"
status_end (NotOpened words) = codes "\n"
status_end DeviceFault = codes "\n"
status_end SourceFault = codes "\n"
status_end SinkFault = codes "\n"
status_end NoMemory = codes "\n"

-- the line of a status; nothing where the command was done
abbrev pub status_line : Status → List ℕ
status_line status = status_head status ++ status_words status ++ status_end status
