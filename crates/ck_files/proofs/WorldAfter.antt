-- The world that a table stands for after changes of the primary.
use Rattle.std.proofs.Common.{◌≡◌, ◌≢◌, ℕ, ◌<◌, false, cond, Option, Some, None, IfSome, List, [], ◌∷◌, refl, sym, ap, ◌∙◌, inl, inr}
use Rattle.std.specs.Ordering.{eq_by_cmp, is_eq}
use Rattle.std.specs.Option.{option_map}
use Rattle.std.specs.FinMap as map
use Rattle.std.proofs.lemmas.Cmp.{tied_itself}
use mathlib.Core.Bool.{false≢true}
use Rattle.ck_model.specs.declared.key.Key.{Key}
use Rattle.ck_model.specs.declared.cell.Cell.{Cell}
use Rattle.ck_model.specs.declared.held.Held.{Held}
use Rattle.ck_model.specs.declared.held.Held.TheVariants.{Absent, Plain, Extent, Mark}
use Rattle.ck_model.specs.declared.change.Change.{Change}
use Rattle.ck_model.specs.declared.change.Change.TheVariants.{Put, Write, Del}
use Rattle.ck_model.specs.Key.{key_cmp, key_cmp_total, key_cmp_exact}
use Rattle.ck_model.specs.Cells.{Cells, set_cell}
use Rattle.ck_model.specs.World.{World, Mounts}
use Rattle.ck_model.specs.Table.{Table, IsTable, column}
use Rattle.ck_model.specs.Chain.{present}
use Rattle.ck_model.specs.Rules.{IsSound, IsOwn}
use Rattle.ck_model.specs.Values.{Store, cell_on, cells_on}
use Rattle.ck_model.specs.TableWorld.{values_of, world_on}
use Rattle.ck_model.proofs.ValueLaws.{get-values_of, get-cells_on}
use Rattle.ck_chain.specs.Changes.{key_of, value_after}
use Rattle.ck_chain.proofs.ColumnLaws.{same_or_other}
use Rattle.ck_push.specs.Changed.{changed}
use Rattle.ck_table.proofs.ShownLaws.{checkpoints_seen}
use Rattle.ck_push.proofs.ChangeLaws.{changed_reads, primary_changed, others_stay, lawful_after, sound_after, may_all_after}
use Rattle.ck_files.specs.Changes.{with_changes}
use Rattle.ck_push.specs.Changes.{MayChangeAll, changed_all}

pub get-set_cell : (cells : Cells) (key : Key) (o : Option Cell) (q : Key) → map.get (set_cell cells key o) q ≡ cond (eq_by_cmp key_cmp q key) o (map.get cells q)
get-set_cell cells key None q = map.get-remove key_cmp_total cells key q
get-set_cell cells key (Some cell) q = map.get-insert key_cmp_total cells key cell q

present_own : (o : Option Held) → IfSome o IsOwn → present o ≡ o
present_own None own = refl
present_own (Some Absent) own = absurd own
present_own (Some (Plain s small)) own = refl
present_own (Some (Extent s b)) own = refl
present_own (Some (Mark s)) own = absurd own

-- what the primary has at a key
pub get-primary : (store : Store) (t : Table) (q : Key) → map.get (cells_on store (values_of t 0)) q ≡ option_map (cell_on store) (present (column t q 0))
get-primary store t q = get-cells_on store (values_of t 0) q ∙ ap (option_map (cell_on store)) (get-values_of t 0 q)

-- the primary's map after a change
primary_after : (store : Store) (t : Table) (key : Key) (new : Option Held) → IsTable t → IfSome new IsOwn → cells_on store (values_of (changed t key new) 0) ≡ set_cell (cells_on store (values_of t 0)) key (option_map (cell_on store) new)
primary_after store t key new lawful own = map.same_map key_cmp_total key_cmp_exact _ _ (λ q.
    get-primary store (changed t key new) q
    ∙ at q
    ∙ sym (get-set_cell (cells_on store (values_of t 0)) key (option_map (cell_on store) new) q))
  where
    differ : (q k : Key) → eq_by_cmp key_cmp q k ≡ false → q ≢ k
    differ q k other same = false≢true (sym other ∙ ap (λ x. eq_by_cmp key_cmp x k) same ∙ ap is_eq (tied_itself key_cmp_total k))

    at : (q : Key) → option_map (cell_on store) (present (column (changed t key new) q 0)) ≡ cond (eq_by_cmp key_cmp q key) (option_map (cell_on store) new) (map.get (cells_on store (values_of t 0)) q)
    at q = elim (same_or_other q key) [
      | inl same ↦
          ap (λ k. option_map (cell_on store) (present (column (changed t key new) k 0))) same
          ∙ ap (λ o. option_map (cell_on store) (present o)) (primary_changed t key new lawful)
          ∙ ap (option_map (cell_on store)) (present_own new own)
          ∙ sym (ap (λ k. cond (eq_by_cmp key_cmp k key) (option_map (cell_on store) new) (map.get (cells_on store (values_of t 0)) q)) same
          ∙ ap (λ r. cond (is_eq r) (option_map (cell_on store) new) (map.get (cells_on store (values_of t 0)) q)) (tied_itself key_cmp_total key))
      | inr other ↦
          ap (λ (c : ℕ → Option Held). option_map (cell_on store) (present (c 0))) (others_stay t key new q (differ q key other))
          ∙ sym (get-primary store t q)
          ∙ sym (ap (λ b. cond b (option_map (cell_on store) new) (map.get (cells_on store (values_of t 0)) q)) other)
    ]

-- the world after a change: the checkpoints keep their contents
pub world_changed : (store : Store) (mounts : Mounts) (t : Table) (key : Key) (new : Option Held) → IsTable t → IsTable (changed t key new) → IfSome new IsOwn
    → world_on store mounts (changed t key new) ≡ record (world_on store mounts t) { primary = set_cell (world_on store mounts t).primary key (option_map (cell_on store) new) }
world_changed store mounts t key new lawful after own =
    let kept = checkpoints_seen store t (changed t key new) lawful after refl (λ fs q live. changed_reads t key new lawful fs q live) in
    λ i. record {
      limits = (world_on store mounts t).limits;
      primary = primary_after store t key new lawful own i;
      checkpoints = kept i;
      next = t.counters;
      mounts = mounts;
    }

own_after : (item : Change) (stamp : ℕ) → IfSome (value_after item stamp) IsOwn
own_after (Put key small) stamp = tt
own_after (Write number index block) stamp = tt
own_after (Del key) stamp = tt

-- the world after several
pub world_changed_all : (store : Store) (mounts : Mounts) (t : Table) (items : List Change) (stamp : ℕ) → IsTable t → IsSound t → stamp < t.counters.stamp → MayChangeAll t items stamp
    → world_on store mounts (changed_all t items stamp) ≡ record (world_on store mounts t) { primary = with_changes store (world_on store mounts t).primary items stamp }
world_changed_all store mounts t [] stamp lawful sound below may = refl
world_changed_all store mounts t (item ∷ items) stamp lawful sound below may =
    let u = changed t (key_of item) (value_after item stamp) in
    let after = lawful_after t item stamp lawful sound below may.0 in
    world_changed_all store mounts u items stamp after (sound_after t item stamp lawful sound below may.0) below (may_all_after t item stamp lawful sound below may.0 items may.1 may.2)
    ∙ ap (λ (w : World). record w { primary = with_changes store w.primary items stamp }) (world_changed store mounts t (key_of item) (value_after item stamp) lawful after (own_after item stamp))
