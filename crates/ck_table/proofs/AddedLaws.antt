-- The world of a table with a new checkpoint, of either kind.
use Rattle.std.proofs.Common.{◌≡◌, ℕ, ◌+◌, Bool, false, not, List, [], ◌∷◌, ◌++◌, map as list_map, filter, Some, IsSome, is_some, nat_eq, sym, ap, subst, ◌∙◌, arith}
use Rattle.std.specs.FinMap as map
use Rattle.std.proofs.lemmas.Bool.Decides.{nat_tests}
use Rattle.std.proofs.lemmas.Cmp.{nat_cmp_total}
use Rattle.std.proofs.lemmas.List.{map-append}
use Rattle.std.proofs.lemmas.List.Elements.{filter-append}
use Rattle.ck_model.specs.declared.checkpoint.Fileset.{Fileset}
use Rattle.ck_model.specs.declared.checkpoint.Kind.{Kind}
use Rattle.ck_model.specs.Cells.{Cells}
use Rattle.ck_model.specs.CheckpointCalls.{frozen_world, kind_of}
use Rattle.ck_model.specs.World.{Checkpoint, Mounts, shown_by}
use Rattle.ck_model.specs.Table.{Table, IsTable}
use Rattle.ck_model.specs.Rules.{IsOrderly}
use Rattle.ck_model.specs.Values.{Store, cells_on}
use Rattle.ck_model.specs.TableWorld.{checkpoint_on, checkpoints_on, live_filesets, values_of, world_on}
use Rattle.ck_model.proofs.CountLaws.{all_placed}
use Rattle.ck_table.specs.Added.{new_fileset, with_added}
use Rattle.ck_table.proofs.AddLemmas.{seen-added, value-added}
use Rattle.ck_table.proofs.IdLaws.{get-recorded_other, put_last}
use Rattle.ck_table.proofs.ShownLaws.{same_cells, shown_all, value_at_some}

module _ (t : Table) (lawful : IsTable t) (orderly : IsOrderly t) (name : List ℕ) (kind : Kind) (removable : Bool) (at : ℕ) where
  abbrev new : Fileset
  new = new_fileset name kind removable at

  abbrev added : Table
  added = with_added t new

  entries-added : map.entries added.filesets ≡ map.entries t.filesets ++ (t.counters.id, new) ∷ []
  entries-added =
      map.entries-insert nat_cmp_total t.filesets t.counters.id new
      ∙ put_last t.counters.id new (map.entries t.filesets) (λ x there. orderly.ids x (subst IsSome (sym (map.get-entries t.filesets x)) there))

  -- one that stood stands
  stands_still : (id : ℕ) (fileset : Fileset) → map.get t.filesets id ≡ Some fileset → fileset.gone ≡ false → map.get added.filesets id ≡ Some fileset
  stands_still id fileset there live =
      let below = orderly.ids id (ap is_some there) in
      let apart : nat_eq id t.counters.id ≡ false = grind (arith, nat_tests) in
      get-recorded_other t.filesets t.counters.id (Some new) id apart ∙ there

  -- the new one has the primary's cells
  new_cells : (store : Store) → cells_on store (values_of added t.counters.id) ≡ cells_on store (values_of t 0)
  new_cells store = same_cells store t added 0 t.counters.id (λ q. value_at_some added t.counters.id q lawful.counters.some_id ∙ value-added t new lawful orderly q)

  abbrev newest : Cells → Checkpoint
  newest cells = record { id = t.counters.id; name = name; kind = kind; removable = removable; ctime = at; cells = shown_by kind cells }

  checkpoints-added : IsTable added → (store : Store) → checkpoints_on store added ≡ checkpoints_on store t ++ newest (cells_on store (values_of t 0)) ∷ []
  checkpoints-added after store =
      ap (λ es. list_map (λ e. checkpoint_on store added e.0 e.1) (filter (λ (e : ℕ × Fileset). not e.1.gone) es)) entries-added
      ∙ ap (list_map (λ e. checkpoint_on store added e.0 e.1)) (filter-append (λ (e : ℕ × Fileset). not e.1.gone) (map.entries t.filesets) ((t.counters.id, new) ∷ []))
      ∙ map-append (λ e. checkpoint_on store added e.0 e.1) (live_filesets t) ((t.counters.id, new) ∷ [])
      ∙ (λ i. shown_all t added lawful after stands_still (seen-added t new lawful orderly) store (map.entries t.filesets) (all_placed t lawful) i ++ newest (new_cells store i) ∷ [])

-- the table with a new checkpoint stands for the world with it
pub world-with_added : (store : Store) (mounts : Mounts) (t : Table) → IsTable t → IsOrderly t → (name : List ℕ) (nodata removable : Bool) (at : ℕ) → IsTable (with_added t (new_fileset name (kind_of nodata) removable at))
    → world_on store mounts (with_added t (new_fileset name (kind_of nodata) removable at)) ≡ frozen_world name nodata removable at (world_on store mounts t)
world-with_added store mounts t lawful orderly name nodata removable at after =
    λ i. record {
      limits = (world_on store mounts t).limits;
      primary = cells_on store (values_of t 0);
      checkpoints = checkpoints-added t lawful orderly name (kind_of nodata) removable at after store i;
      next = record (t.counters) { id = t.counters.id + 1 };
      mounts = mounts;
    }
