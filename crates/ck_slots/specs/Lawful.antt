-- The table of slots and checkpoints' records, and that each law of tables holds in one way.
use Rattle.std.specs.Prelude.{ℕ, List}
use Rattle.std.proofs.Props.{props}
use Rattle.ck_model.specs.declared.key.Key.{Key}
use Rattle.ck_model.specs.declared.key.Key.TheVariants.{Name, Node, Block}
use Rattle.ck_model.specs.declared.held.Held.{Held}
use Rattle.ck_model.specs.declared.held.Held.TheVariants.{Absent, Plain, Extent, Mark}
use Rattle.ck_model.specs.declared.held.Small.TheVariants.{To, File, Dir}
use Rattle.ck_model.specs.declared.checkpoint.Fileset.{Fileset}
use Rattle.ck_model.specs.declared.checkpoint.Counters.{Counters}
use Rattle.ck_model.specs.Held.{IsKey, BelongsTo}
use Rattle.ck_model.specs.Table.{Table, IsTable}
use Rattle.ck_slots.specs.declared.entries.Entries.{Entries as Arrangement}
use Rattle.ck_slots.specs.Entries.{entries_in}
use Rattle.ck_slots.specs.Recorded.{filesets_of}

-- what slots in their order and the records of checkpoints mean
abbrev pub table_of : Arrangement → List (ℕ × Fileset) → Counters → ℕ → Table
table_of entries filesets counters blocks = record {
  entries = entries_in entries;
  filesets = filesets_of filesets;
  counters = counters;
  blocks = blocks;
  records = entries.limit;
}

IsKey-prop : (key : Key) → IsProp (IsKey key)
IsKey-prop (Name directory name) = hlevel props
IsKey-prop (Node number) = hlevel props
IsKey-prop (Block number index) = hlevel props

BelongsTo-prop : (key : Key) (held : Held) → IsProp (BelongsTo key held)
BelongsTo-prop key Absent = hlevel props
BelongsTo-prop (Name directory name) (Plain stamp (To node)) = hlevel props
BelongsTo-prop (Name directory name) (Plain stamp (File size)) = hlevel props
BelongsTo-prop (Name directory name) (Plain stamp Dir) = hlevel props
BelongsTo-prop (Name directory name) (Extent stamp block) = hlevel props
BelongsTo-prop (Name directory name) (Mark stamp) = hlevel props
BelongsTo-prop (Node number) (Plain stamp (To node)) = hlevel props
BelongsTo-prop (Node number) (Plain stamp (File size)) = hlevel props
BelongsTo-prop (Node number) (Plain stamp Dir) = hlevel props
BelongsTo-prop (Node number) (Extent stamp block) = hlevel props
BelongsTo-prop (Node number) (Mark stamp) = hlevel props
BelongsTo-prop (Block number index) (Plain stamp (To node)) = hlevel props
BelongsTo-prop (Block number index) (Plain stamp (File size)) = hlevel props
BelongsTo-prop (Block number index) (Plain stamp Dir) = hlevel props
BelongsTo-prop (Block number index) (Extent stamp block) = hlevel props
BelongsTo-prop (Block number index) (Mark stamp) = hlevel props

pub IsTable-prop : (t : Table) → IsProp (IsTable t)
IsTable-prop t = hlevel (IsKey-prop, BelongsTo-prop, props)
