-- What a turn of a comparison answers, and what the answers come to.
use Rattle.std.specs.Prelude.{◌≡◌, ⊤, ◌+◌, ℕ, ◌&&◌, not, List, [], ◌∷◌, Option, Some, None, filter, nat_eq, get_or, if◌then◌else◌}
use Rattle.std.specs.Option.{option_map}
use Rattle.std.specs.FinMap as map
use Rattle.ck_model.specs.declared.key.Key.{Key}
use Rattle.ck_model.specs.declared.cell.Cell.{Cell}
use Rattle.ck_model.specs.declared.held.Held.{Held}
use Rattle.ck_model.specs.Cells.{Cells, Content}
use Rattle.ck_model.specs.Chain.{is_live, is_live_data}
use Rattle.ck_model.specs.TableWorld.{values_of}
use Rattle.ck_model.specs.Table.{Table}
use Rattle.ck_model.specs.Values.{Store, cell_on, cells_on}
use Rattle.ck_disk.specs.Disk.{Image, Meaning, Rose}
use Rattle.ck_chain.specs.Order.{is_after}
use Rattle.ck_changed.specs.declared.compare.Next.{Next}
use Rattle.ck_changed.specs.declared.compare.Next.TheVariants.{Put, Removed, End, Gone, NoData, ReadFault, NoMemory}

-- what the data blocks hold where this one is the first of them
abbrev pub store_on : Image → ℕ → Store
store_on shows base = λ block. get_or shows (base + block) []

-- what a checkpoint stands for over these data blocks; 0 stands for the empty map
abbrev pub cells_from : Store → Table → ℕ → Cells
cells_from store t from = if nat_eq from 0 then map.empty else cells_on store (values_of t from)

abbrev pub content_on : Store → Option Held → Option Content
content_on store held = option_map (λ (cell : Cell). cell.payload) (option_map (cell_on store) held)

-- the entries behind a key
abbrev pub rest_after : {X : Type 0} → Option Key → List (Key × X) → List (Key × X)
rest_after after es = filter (λ e. is_after after e.0) es

-- the answer where a checkpoint left the list or keeps no data: the first one, then the second one
abbrev pub refusal_of : Table → ℕ → ℕ → Option Next
refusal_of t from to =
    if not (nat_eq from 0) && not (is_live t from) then Some (Gone from) else
    (if not (is_live t to) then Some (Gone to) else
    (if not (is_live_data t to) then Some (NoData to) else None))

-- the last key that was given, after an answer
abbrev pub after_of : Option Key → Next → Option Key
after_of after (Put key payload) = Some key
after_of after (Removed key) = Some key
after_of after End = after
after_of after (Gone id) = after
after_of after (NoData id) = after
after_of after ReadFault = after
after_of after NoMemory = after

-- the answer gives the next of these changes behind the key
abbrev pub IsNextOf : List (Key × Option Content) → Option Key → Next → Type 0
IsNextOf changes after (Put key payload) = rest_after after changes ≡ (key, Some (Some payload)) ∷ rest_after (Some key) changes
IsNextOf changes after (Removed key) = rest_after after changes ≡ (key, None) ∷ rest_after (Some key) changes
IsNextOf changes after End = rest_after after changes ≡ []
IsNextOf changes after (Gone id) = ⊤
IsNextOf changes after (NoData id) = ⊤
IsNextOf changes after ReadFault = ⊤
IsNextOf changes after NoMemory = ⊤

-- no refusal; a read fault comes where a read failed
abbrev pub IsAnswer : Meaning → Meaning → Next → Type 0
IsAnswer old new (Put key payload) = ⊤
IsAnswer old new (Removed key) = ⊤
IsAnswer old new End = ⊤
IsAnswer old new (Gone id) = ⊥
IsAnswer old new (NoData id) = ⊥
IsAnswer old new ReadFault = Rose old.read_faults new.read_faults
IsAnswer old new NoMemory = ⊤
