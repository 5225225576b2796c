-- The table after a step of a removal: an entry of a checkpoint that is gone moves on, or goes.
use Rattle.std.specs.Prelude.{◌≡◌, ◌↔◌, ℕ, Bool, ◌&&◌, List, [], ◌∷◌, Option, Some, None, is_some, if◌then◌else◌, nat_lt, filter}
use Rattle.std.specs.Option.{option_map}
use Rattle.ck_model.specs.declared.key.Key.{Key}
use Rattle.ck_model.specs.declared.held.Held.{Held}
use Rattle.ck_model.specs.declared.change.Freed.{Freed}
use Rattle.ck_model.specs.Table.{Table, Entries, column, newer, with_entry, with_fileset, written}
use Rattle.ck_model.specs.Chain.{is_live, keeps_data, last_of}
use Rattle.ck_chain.specs.Kept.{pushed}
use Rattle.ck_chain.specs.Named.{block_of, IsNamed}
use Rattle.ck_chain.specs.Needless.{tidied}
use Rattle.ck_remove.specs.declared.gone.GoneEntry.{GoneEntry}

-- a checkpoint that isn't gone and is older than this fileset
abbrev pub is_older : Table → ℕ → ℕ → Bool
is_older t fs id = nat_lt id fs && is_live t id

-- the older checkpoints that aren't gone, the oldest first
abbrev pub older : Table → ℕ → List ℕ
older t fs = filter (is_older t fs) (newer t 0)

-- the newest of them
abbrev pub next_older : Table → ℕ → Option ℕ
next_older t fs = last_of (is_older t fs) (newer t 0)

-- what this checkpoint takes over of the fileset's entry: nothing where it has an entry of its own,
-- and a mark of a data block where it keeps no data
abbrev pub taken_into : Table → ℕ → Key → Option ℕ → Option (ℕ × Held)
taken_into t fs key None = None
taken_into t fs key (Some id) = if is_some (column t key id) then None else Some (id, pushed (keeps_data t id) (column t key fs))

-- which checkpoint takes over the fileset's entry, and as what
abbrev pub taken_of : Table → ℕ → Key → Option (ℕ × Held)
taken_of t fs key = taken_into t fs key (next_older t fs)

-- with what is taken over in its checkpoint
abbrev pub taken_entries : Entries → Key → Option (ℕ × Held) → Entries
taken_entries entries key None = entries
taken_entries entries key (Some taken) = written entries taken.0 key (Some taken.1)

abbrev pub with_taken : Table → Key → Option (ℕ × Held) → Table
with_taken t key taken = record t { entries = taken_entries t.entries key taken }

-- the fileset's entry moves on to the next older checkpoint, or goes where that needs none
abbrev pub moved : Table → ℕ → Key → Table
moved t fs key = with_taken (with_entry t fs key None) key (taken_of t fs key)

-- tidied at the key in these checkpoints, the last one first
abbrev pub tidied_entries : Table → Key → List ℕ → Entries
tidied_entries t key [] = t.entries
tidied_entries t key (fs ∷ filesets) = (tidied (record t { entries = tidied_entries t key filesets }) fs key).entries

abbrev pub tidied_each : Table → Key → List ℕ → Table
tidied_each t key filesets = record t { entries = tidied_entries t key filesets }

-- The fileset's entry moves on or goes, and the older checkpoints are tidied at its key.
-- A fileset without entries is taken away itself.
abbrev pub without : Table → ℕ → Option Key → Table
without t fs None = with_fileset t fs None
without t fs (Some key) = tidied_each (moved t fs key) key (older t fs)

abbrev pub stepped : Table → GoneEntry → Table
stepped t item = without t item.id item.key

-- ---- the data block that is released

-- the entry's block, unless a checkpoint takes it over
abbrev pub unless_kept : Option ℕ → Option ℕ → Option ℕ
unless_kept block None = block
unless_kept block (Some kept) = None

abbrev pub released : Option Held → Option (ℕ × Held) → Option ℕ
released old taken = unless_kept (block_of old) (block_of (option_map (λ (entry : ℕ × Held). entry.1) taken))

-- the one data block that an entry named before, and that none names afterwards
abbrev pub IsFreed : Table → Table → Freed → Type 0
IsFreed old new freed = (block : ℕ) → (freed.block ≡ Some block) ↔ (IsNamed old block × (IsNamed new block → ⊥))
