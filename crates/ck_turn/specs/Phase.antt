-- What holds of a view in each phase.
use Rattle.std.specs.Prelude.{Bool, true, false, Option, None}
use mathlib.Core.Option.{none, some}
use mathlib.Core.Option as maybe
use Rattle.ck_turn.specs.declared.view.Phase.{Phase}
use Rattle.ck_turn.specs.declared.view.Phase.TheVariants.{Out, Waiting, Called, Fresh, Inside, Wrote, Gave, Spent}

-- it has drawn a ticket that is still out
abbrev pub has_ticket : Phase → Bool
has_ticket Out = false
has_ticket Spent = false
has_ticket _ = true

-- its ticket is served
abbrev pub has_turn : Phase → Bool
has_turn Out = false
has_turn Waiting = false
has_turn Spent = false
has_turn _ = true

-- the value is not in the slot
abbrev pub is_away : Phase → Bool
is_away Fresh = true
is_away Inside = true
is_away Wrote = true
is_away _ = false

-- it has seen all entries
abbrev pub has_all : Phase → Bool
has_all Fresh = true
has_all Inside = true
has_all Wrote = true
has_all Gave = true
has_all _ = false

-- it was not joined into another
abbrev pub is_live : Phase → Bool
is_live Spent = false
is_live _ = true

abbrev pub is_inside : Phase → Bool
is_inside Inside = true
is_inside _ = false

-- what is at home in the slot while the value is not: nothing, and at the start None
abbrev pub left_behind : {T : Type 0} → Phase → maybe.Option (Option T)
left_behind Fresh = some None
left_behind _ = none
