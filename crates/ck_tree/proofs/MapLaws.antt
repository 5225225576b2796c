-- What stands for the values of a table: where they come from, and the maps over data blocks.
use Rattle.std.proofs.Common.{◌≡◌, ℕ, true, false, cond, Option, Some, None, is_some, List, [], ◌∷◌, nat_eq, refl, ap, ◌∙◌}
use Rattle.std.specs.Option.{option_or, option_map, option_and_then}
use mathlib.Core.Bool.{false≢true}
use Rattle.ck_model.specs.declared.key.Key.{Key}
use Rattle.ck_model.specs.declared.cell.Cell.{Cell}
use Rattle.ck_model.specs.declared.held.Held.{Held}
use Rattle.ck_model.specs.declared.held.Held.TheVariants.{Absent, Plain, Extent, Mark}
use Rattle.ck_model.specs.declared.held.Small.TheVariants.{To, File, Dir}
use Rattle.ck_model.specs.Held.{IsKey}
use Rattle.ck_model.specs.Table.{Table, IsTable, column, newer}
use Rattle.ck_model.specs.Chain.{first_entry, present, value_of, value_at}
use Rattle.ck_model.specs.Values.{Store, payload_of, cell_on, cells_on}
use Rattle.ck_model.specs.TableWorld.{values_of}
use Rattle.ck_model.proofs.ValueLaws.{get-values_of, get-cells_on}
use Rattle.ck_tree.specs.Map.{small_in, without_bytes, StandsFor}

-- ---- a value is an entry of some fileset

first_is : (held : ℕ → Option Held) (ids : List ℕ) (h : Held) → first_entry held ids ≡ Some h → (fs : ℕ) × (held fs ≡ Some h)
first_is held [] h is = (0, is)
first_is held (id ∷ ids) h is =
    elim (held id) as (λ o. held id ≡ o → option_or o (first_entry held ids) ≡ Some h → (fs : ℕ) × (held fs ≡ Some h)) [
      | None ↦ λ _ rest. first_is held ids h rest
      | Some x ↦ λ here same. (id, here ∙ same)
    ] refl is

present_is : (o : Option Held) (h : Held) → present o ≡ Some h → o ≡ Some h
present_is None h is = is
present_is (Some Absent) h is = absurd (false≢true (ap is_some is))
present_is (Some (Plain stamp small)) h is = is
present_is (Some (Extent stamp block)) h is = is
present_is (Some (Mark stamp)) h is = is

pub value_held : (t : Table) (fs : ℕ) (key : Key) (h : Held) → value_at t fs key ≡ Some h → (g : ℕ) × (column t key g ≡ Some h)
value_held t fs key h is =
    elim (nat_eq fs 0) as (λ b. cond b (present (column t key 0)) (value_of t fs key) ≡ Some h → (g : ℕ) × (column t key g ≡ Some h)) [
      | true ↦ λ here. (0, present_is (column t key 0) h here)
      | false ↦ λ there. first_is (column t key) (fs ∷ newer t fs) h (present_is (first_entry (column t key) (fs ∷ newer t fs)) h there)
    ] is

-- what has a value is a key
pub value_key : (t : Table) → IsTable t → (fs : ℕ) (key : Key) → is_some (value_at t fs key) ≡ true → IsKey key
value_key t lawful fs key some = on (value_at t fs key) refl some
  where
    on : (o : Option Held) → value_at t fs key ≡ o → is_some o ≡ true → IsKey key
    on None is clash = absurd (false≢true clash)
    on (Some h) is there = let at = value_held t fs key h is in (lawful.entries at.0 key h at.1).1.place

-- ---- the map of a fileset over data blocks

some_mapped : {X Y : Type 0} (f : X → Y) (o : Option X) → is_some (option_map f o) ≡ is_some o
some_mapped f None = refl
some_mapped f (Some x) = refl

small_same : (store : Store) (o : Option Held) → without_bytes (option_and_then (λ (cell : Cell). cell.payload) (option_map (cell_on store) o)) ≡ option_map payload_of (small_in o)
small_same store None = refl
small_same store (Some Absent) = refl
small_same store (Some (Plain stamp (To node))) = refl
small_same store (Some (Plain stamp (File size))) = refl
small_same store (Some (Plain stamp Dir)) = refl
small_same store (Some (Extent stamp block)) = refl
small_same store (Some (Mark stamp)) = refl

-- a fileset stands for its cells over any data blocks
pub stands_on : (store : Store) (t : Table) (fs : ℕ) → StandsFor t fs (cells_on store (values_of t fs))
stands_on store t fs = record {
  present = λ key. ap is_some (get-cells_on store (values_of t fs) key ∙ ap (option_map (cell_on store)) (get-values_of t fs key)) ∙ some_mapped (cell_on store) (value_at t fs key);
  small = λ key. ap (λ o. without_bytes (option_and_then (λ (cell : Cell). cell.payload) o)) (get-cells_on store (values_of t fs) key ∙ ap (option_map (cell_on store)) (get-values_of t fs key)) ∙ small_same store (value_at t fs key);
}
