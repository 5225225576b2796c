-- Changes of the primary: the key of each, and what it leaves there.
use Rattle.std.specs.Prelude.{ℕ, Bool, true, false, ◌&&◌, ◌||◌, not, List, [], ◌∷◌, Option, Some, None}
use Rattle.std.specs.List.{list_any}
use Rattle.ck_model.specs.declared.key.Key.{Key}
use Rattle.ck_model.specs.declared.key.Key.TheVariants.{Block}
use Rattle.ck_model.specs.declared.held.Held.{Held}
use Rattle.ck_model.specs.declared.held.Held.TheVariants.{Plain, Extent}
use Rattle.ck_model.specs.declared.change.Change.{Change}
use Rattle.ck_model.specs.declared.change.Change.TheVariants.{Put, Write, Del}

abbrev pub key_of : Change → Key
key_of (Put key small) = key
key_of (Write number index block) = Block number index
key_of (Del key) = key

abbrev pub is_deletion : Change → Bool
is_deletion (Put key small) = false
is_deletion (Write number index block) = false
is_deletion (Del key) = true

abbrev pub is_write : Change → Bool
is_write (Put key small) = false
is_write (Write number index block) = true
is_write (Del key) = false

-- what the primary holds at the key afterwards, of the version with this stamp
abbrev pub value_after : Change → ℕ → Option Held
value_after (Put key small) stamp = Some (Plain stamp small)
value_after (Write number index block) stamp = Some (Extent stamp block)
value_after (Del key) stamp = None

-- no deletion stands behind another change
abbrev pub deletions_first : List Change → Bool
deletions_first [] = true
deletions_first (change ∷ changes) = (is_deletion change || not (list_any is_deletion changes)) && deletions_first changes
