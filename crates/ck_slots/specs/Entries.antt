-- The entries that slots and their order mean.
use Rattle.std.specs.Prelude.{ℕ, List, Option}
use Rattle.std.specs.FinMap as map
use Rattle.ck_model.specs.declared.key.Key.{Key}
use Rattle.ck_model.specs.declared.held.Held.{Held}
use Rattle.ck_model.specs.Table.{Entries}
use Rattle.ck_slots.specs.declared.entries.Entries.{Entries as Arrangement}
use Rattle.ck_slots.specs.Arranged.{arranged, entries_of}
use Rattle.ck_slots.specs.Order.{numbers_in}
use Rattle.ck_slots.specs.NextKey.{keys_behind}

-- as a list in their order
abbrev pub listed_in : Arrangement → List ((ℕ × Key) × Held)
listed_in e = arranged e.slots.items (numbers_in e.order)

abbrev pub entries_in : Arrangement → Entries
entries_in e = entries_of e.slots.items (numbers_in e.order)

-- the keys after this one at which a fileset holds something
abbrev pub next_keys : Arrangement → ℕ → Option Key → List Key
next_keys e fs after = keys_behind (map.entries (entries_in e)) fs after
