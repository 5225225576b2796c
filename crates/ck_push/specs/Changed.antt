-- The table after a change of the primary.
use Rattle.std.specs.Prelude.{ℕ, Option, Some, None, if◌then◌else◌}
use Rattle.ck_model.specs.declared.key.Key.{Key}
use Rattle.ck_model.specs.declared.held.Held.{Held}
use Rattle.ck_model.specs.Table.{Table, Entries, column, written}
use Rattle.ck_model.specs.Chain.{is_covered, keeps_data, newest_live_of}
use Rattle.ck_chain.specs.Kept.{pushed}
use Rattle.ck_chain.specs.Needless.{tidied}

-- the primary's entry goes into this checkpoint, unless it or a newer one, also one that is gone, has an entry
abbrev pub push_into : Table → Key → Option ℕ → Option (ℕ × Held)
push_into t key None = None
push_into t key (Some fs) = if is_covered t fs key then None else Some (fs, pushed (keeps_data t fs) (column t key 0))

-- where the primary's entry goes before it is replaced, and as what: into the newest checkpoint that isn't gone
abbrev pub push_of : Table → Key → Option (ℕ × Held)
push_of t key = push_into t key (newest_live_of t)

-- with this in a checkpoint
abbrev pub with_push : Entries → Key → Option (ℕ × Held) → Entries
with_push entries key None = entries
with_push entries key (Some push) = written entries push.0 key (Some push.1)

-- the entry is pushed, and the primary's is this
abbrev pub replaced : Table → Key → Option (ℕ × Held) → Option Held → Table
replaced t key push new = record t { entries = written (with_push t.entries key push) 0 key new }

-- tidied in this checkpoint
abbrev pub tidied_entries : Table → Key → Option ℕ → Entries
tidied_entries t key None = t.entries
tidied_entries t key (Some fs) = (tidied t fs key).entries

abbrev pub tidied_in : Table → Key → Option ℕ → Table
tidied_in t key fs = record t { entries = tidied_entries t key fs }

-- the primary's entry is pushed and replaced by this, and the newest checkpoint that isn't gone is tidied
abbrev pub changed : Table → Key → Option Held → Table
changed t key new = tidied_in (replaced t key (push_of t key) new) key (newest_live_of t)
