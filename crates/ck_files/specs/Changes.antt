-- Several changes of the primary, made by one call.
use Rattle.std.specs.Prelude.{◌≤◌, ℕ, List, [], ◌∷◌, ◌++◌}
use Rattle.std.specs.Option.{option_map}
use Rattle.ck_model.specs.declared.change.Change.{Change}
use Rattle.ck_model.specs.Cells.{Cells, set_cell}
use Rattle.ck_model.specs.declared.checkpoint.Counters.{Counters}
use Rattle.ck_model.specs.Held.{IsCounters}
use Rattle.ck_model.specs.Values.{Store, cell_on}
use Rattle.ck_model.specs.Table.{Table}
use Rattle.ck_chain.specs.Changes.{key_of, value_after}
use Rattle.ck_files.specs.Allocated.{blocks_held}

-- ---- what the primary map comes to

-- the map after a change, over these data blocks
abbrev pub with_change : Store → Cells → Change → ℕ → Cells
with_change store cells item stamp = set_cell cells (key_of item) (option_map (cell_on store) (value_after item stamp))

-- the map after several, one after the other
abbrev pub with_changes : Store → Cells → List Change → ℕ → Cells
with_changes store cells [] stamp = cells
with_changes store cells (item ∷ items) stamp = with_changes store (with_change store cells item stamp) items stamp

-- ---- the data blocks that changes write

abbrev pub written_by : List Change → ℕ → List ℕ
written_by [] stamp = []
written_by (item ∷ items) stamp = blocks_held (value_after item stamp) ++ written_by items stamp

-- ---- the numbers that are given next

-- the counters raised, and perhaps more data blocks
abbrev pub raised : Table → Counters → ℕ → Table
raised t counters blocks = record t { counters = counters; blocks = blocks }

-- no number falls
pub record IsRaised (t : Table) (counters : Counters) (blocks : ℕ) : Type 0 where
  pub lawful : IsCounters counters
  pub stamp : t.counters.stamp ≤ counters.stamp
  pub id : t.counters.id ≤ counters.id
  pub number : t.counters.number ≤ counters.number
  pub limit : t.blocks ≤ blocks
