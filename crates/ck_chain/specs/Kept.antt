-- What a checkpoint takes over of an entry that a newer fileset gives up.
use Rattle.std.specs.Prelude.{Bool, Option, Some, None, if◌then◌else◌}
use Rattle.std.specs.Option.{option_map}
use Rattle.ck_model.specs.declared.held.Held.{Held}
use Rattle.ck_model.specs.declared.held.Held.TheVariants.{Absent}
use Rattle.ck_model.specs.Chain.{as_mark, present}

-- an absent where there was no entry, and a mark in place of a data block where no data is kept
abbrev pub pushed : Bool → Option Held → Held
pushed keeps None = Absent
pushed keeps (Some held) = if keeps then held else as_mark held

-- what a reader makes of the first entry, where data is kept and where it isn't
abbrev pub read_as : Bool → Option Held → Option Held
read_as keeps held = if keeps then present held else option_map as_mark (present held)
