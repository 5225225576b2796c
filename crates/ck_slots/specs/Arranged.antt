-- Slots in the order of their keys, by their numbers.
use Rattle.std.specs.Prelude.{◌≡◌, ℕ, ◌+◌, ◌++◌, ◌⊎◌, length, slice_set, List, [], ◌∷◌, map as list_map, slice_index_or, nat_eq, nat_lt, if◌then◌else◌}
use Rattle.std.specs.FinMap as map
use Rattle.ck_model.specs.declared.key.Key.{Key}
use Rattle.ck_model.specs.declared.key.Key.TheVariants.{Node}
use Rattle.ck_model.specs.declared.held.Held.{Held}
use Rattle.ck_model.specs.declared.held.Held.TheVariants.{Absent}
use Rattle.ck_model.specs.Table.{Entries}
use Rattle.ck_slots.specs.declared.slot.Slot.{Slot}

-- a slot as an entry of a table
abbrev pub entry_of : Slot → (ℕ × Key) × Held
entry_of slot = ((slot.fileset, slot.key), slot.held)

abbrev pub no_slot : Slot
no_slot = record { fileset = 0; key = Node 0; held = Absent }

-- the entry in the slot with this number
abbrev pub entry_in : List Slot → ℕ → (ℕ × Key) × Held
entry_in slots number = entry_of (slice_index_or slots number no_slot)

-- the entries in the slots with these numbers
abbrev pub arranged : List Slot → List ℕ → List ((ℕ × Key) × Held)
arranged slots order = list_map (entry_in slots) order

-- what they mean
abbrev pub entries_of : List Slot → List ℕ → Entries
entries_of slots order = map.from_sorted (arranged slots order)

-- how often a number stands in a list
abbrev pub times : ℕ → List ℕ → ℕ
times number [] = 0
times number (n ∷ ns) = (if nat_eq n number then 1 else 0) + times number ns

-- each number below this count stands once in one of the two lists, and no other number does
abbrev pub StandOnce : ℕ → List ℕ → List ℕ → Type 0
StandOnce count order free = (number : ℕ) → times number order + times number free ≡ (if nat_lt number count then 1 else 0)

-- this is in the slot with this number, which was the last of the free ones, or a new one where none was free
abbrev pub IsStored : List Slot → List ℕ → List Slot → List ℕ → ℕ → Slot → Type 0
IsStored slots free new_slots new_free number slot =
    ((free ≡ new_free ++ number ∷ []) × (new_slots ≡ slice_set slots number slot))
    ⊎ ((free ≡ []) × (new_free ≡ []) × (number ≡ length slots) × (new_slots ≡ slots ++ slot ∷ []))
