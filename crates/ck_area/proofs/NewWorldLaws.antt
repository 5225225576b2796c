-- The first table of a volume stands for the empty world.
use Rattle.std.proofs.Common.{◌≡◌, ℕ, Bool, true, false, cond, not, map as list_map, filter, Some, None, refl, sym, ap, ◌∙◌}
use Rattle.std.specs.Option.{option_map}
use Rattle.std.specs.Ordering.{eq_by_cmp}
use Rattle.std.specs.FinMap as map
use Rattle.ck_model.specs.declared.key.Key.{Key}
use Rattle.ck_model.specs.declared.key.Key.TheVariants.{Node}
use Rattle.ck_model.specs.declared.cell.Payload.TheVariants as payload
use Rattle.ck_model.specs.declared.held.Held.TheVariants.{Plain}
use Rattle.ck_model.specs.declared.held.Small.TheVariants.{Dir}
use Rattle.ck_model.specs.declared.checkpoint.Fileset.{Fileset}
use Rattle.ck_model.specs.Key.{key_cmp, entry_cmp, key_cmp_total, key_cmp_exact, entry_cmp_total}
use Rattle.ck_model.specs.Changes.{cell_of}
use Rattle.ck_model.specs.World.{root_cells, empty_world}
use Rattle.ck_model.specs.Table.{column}
use Rattle.ck_model.specs.Chain.{present}
use Rattle.ck_model.specs.Values.{Store, cell_on, cells_on}
use Rattle.ck_model.specs.TableWorld.{values_of, checkpoint_on, world_on}
use Rattle.ck_model.specs.Limits.{checkpoint_limit}
use Rattle.ck_model.proofs.ValueLaws.{get-values_of, get-cells_on}
use Rattle.ck_area.specs.Area.{new_table}
use Rattle.ck_area.proofs.NewTableLaws.{new_filesets}

root_or_none : (store : Store) (b : Bool) → option_map (cell_on store) (present (cond b (Some (Plain 0 Dir)) None)) ≡ cond b (Some (cell_of 0 payload.Dir)) None
root_or_none store true = refl
root_or_none store false = refl

module _ (store : Store) (blocks records : ℕ) where
  new_column : (q : Key) → column (new_table blocks records) q 0 ≡ cond (eq_by_cmp key_cmp q (Node 0)) (Some (Plain 0 Dir)) None
  new_column q =
      map.get-insert entry_cmp_total map.empty (0, Node 0) (Plain 0 Dir) (0, q)
      ∙ ap (cond (eq_by_cmp key_cmp q (Node 0)) (Some (Plain 0 Dir))) (map.get-empty entry_cmp (0, q))

  new_cells : cells_on store (values_of (new_table blocks records) 0) ≡ root_cells
  new_cells = map.same_map key_cmp_total key_cmp_exact _ _ (λ q.
      get-cells_on store (values_of (new_table blocks records) 0) q
      ∙ ap (option_map (cell_on store)) (get-values_of (new_table blocks records) 0 q ∙ ap present (new_column q))
      ∙ root_or_none store (eq_by_cmp key_cmp q (Node 0))
      ∙ sym (map.get-insert key_cmp_total map.empty (Node 0) (cell_of 0 payload.Dir) q
      ∙ ap (cond (eq_by_cmp key_cmp q (Node 0)) (Some (cell_of 0 payload.Dir))) (map.get-empty key_cmp q)))

  -- whatever the data blocks hold
  pub new_stands : world_on store map.empty (new_table blocks records) ≡ empty_world (record { blocks = blocks; records = records; checkpoints = checkpoint_limit })
  new_stands = λ i. record {
    limits = record { blocks = blocks; records = records; checkpoints = checkpoint_limit };
    primary = new_cells i;
    checkpoints = list_map (λ (e : ℕ × Fileset). checkpoint_on store (new_table blocks records) e.0 e.1) (filter (λ (e : ℕ × Fileset). not e.1.gone) (new_filesets blocks records i));
    next = record { stamp = 1; id = 1; number = 1 };
    mounts = map.empty;
  }
