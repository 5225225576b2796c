-- What a history shows.
use Rattle.std.specs.Prelude.{ℕ, List}
use Rattle.ck_model.specs.declared.entry.Entry.{Entry}
use Rattle.ck_history.specs.declared.history.History.{History}

-- the entries, in the order in which they were put
abbrev pub entries_of : History → List Entry
entries_of history = history.entries.items

-- how many entries there is memory for beside those that were put
abbrev pub room_of : History → ℕ
room_of history = history.room
