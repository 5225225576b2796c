-- What the entries of a table may hold at which keys.
use Rattle.std.specs.Prelude.{ℕ, ◌<◌, ◌≤◌, ◌^◌, ⊤}
use Rattle.ck_model.specs.declared.checkpoint.Counters.{Counters}
use Rattle.ck_model.specs.declared.checkpoint.Fileset.{Fileset}
use Rattle.ck_model.specs.declared.key.Key.{Key}
use Rattle.ck_model.specs.declared.key.Key.TheVariants.{Name, Node, Block}
use Rattle.ck_model.specs.declared.held.Held.{Held}
use Rattle.ck_model.specs.declared.held.Held.TheVariants.{Absent, Plain, Extent, Mark}
use Rattle.ck_model.specs.declared.held.Small.TheVariants.{To, File, Dir}
use Rattle.ck_model.specs.Name.{IsFileName, IsCheckpointName}

abbrev pub IsWord : ℕ → Type 0
IsWord number = number < 2 ^ 32

abbrev pub IsStamp : ℕ → Type 0
IsStamp stamp = stamp < 2 ^ 63

-- a file of the greatest size has so many blocks
abbrev pub index_limit : ℕ
index_limit = 262144

-- a name in a directory, a node, or a block that a file can have
abbrev pub IsKey : Key → Type 0
IsKey (Name directory name) = IsWord directory × IsFileName name
IsKey (Node number) = IsWord number
IsKey (Block number index) = IsWord number × (index < index_limit)

-- the value belongs to this kind of key, and its numbers are within their limits
abbrev pub BelongsTo : Key → Held → Type 0
BelongsTo key Absent = ⊤
BelongsTo (Name directory name) (Plain stamp (To node)) = IsStamp stamp × IsWord node
BelongsTo (Node number) (Plain stamp (File size)) = IsStamp stamp × (size ≤ 1073741824)
BelongsTo (Node number) (Plain stamp Dir) = IsStamp stamp
BelongsTo (Block number index) (Extent stamp block) = IsStamp stamp × IsWord block
BelongsTo (Block number index) (Mark stamp) = IsStamp stamp
BelongsTo _ _ = ⊥

-- an entry that a table may have
pub record IsEntry (key : Key) (held : Held) : Type 0 where
  pub place : IsKey key
  pub value : BelongsTo key held

-- the numbers that are given next; stamp 2 ^ 63 is never given
pub record IsCounters (counters : Counters) : Type 0 where
  pub some_stamp : 1 ≤ counters.stamp
  pub stamp : counters.stamp ≤ 2 ^ 63
  pub some_id : 1 ≤ counters.id
  pub id : IsWord counters.id
  pub some_number : 1 ≤ counters.number
  pub number : IsWord counters.number

-- a checkpoint under its id; 0 stands for the primary
pub record IsFileset (id : ℕ) (fileset : Fileset) : Type 0 where
  pub some : 1 ≤ id
  pub word : IsWord id
  pub name : IsCheckpointName fileset.name
  pub ctime : fileset.ctime < 2 ^ 64
