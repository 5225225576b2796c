-- What the map of a live data checkpoint has at a key, and where that comes from.
use Rattle.std.proofs.Common.{◌≡◌, ℕ, ◌+◌, ◌<◌, ◌≤◌, true, false, cond, ◌&&◌, not, Option, Some, None, IsSome, IfSome, IfOk, List, [], ◌∷◌, nat_eq, refl, ap, sym, subst, ◌∙◌, arith}
use Rattle.std.specs.Option.{option_or, option_map, option_map_or, option_and_then}
use Rattle.std.specs.FinMap as map
use Rattle.std.proofs.lemmas.Bool.Decides.{nat_tests}
use Rattle.ck_model.specs.declared.key.Key.{Key}
use Rattle.ck_model.specs.declared.key.Key.TheVariants.{Node}
use Rattle.ck_model.specs.declared.cell.Cell.{Cell}
use Rattle.ck_model.specs.declared.checkpoint.Fileset.{Fileset}
use Rattle.ck_model.specs.declared.held.Held.{Held}
use Rattle.ck_model.specs.declared.held.Held.TheVariants.{Absent, Plain, Extent, Mark}
use Rattle.ck_model.specs.declared.held.Small.TheVariants.{To, File, Dir}
use Rattle.ck_model.specs.Cells.{content_at, bytes_in}
use Rattle.ck_model.specs.Chain.{first_entry, present, value_of, value_at, is_live_data}
use Rattle.ck_model.specs.Limits.{file_limit}
use Rattle.ck_model.specs.Rules.{block_in, IsOrderly}
use Rattle.ck_model.specs.Table.{Table, IsTable, column, newer}
use Rattle.ck_model.specs.TableWorld.{values_of}
use Rattle.ck_model.specs.Values.{Store, no_store, cell_on}
use Rattle.ck_model.specs.World.{keeps_files}
use Rattle.ck_model.proofs.CaseLaws.{none_some}
use Rattle.ck_model.proofs.ValueLaws.{get-values_of, get-cells_on}
use Rattle.ck_chain.proofs.OrderlyLaws.{positive_id}
use Rattle.ck_read.specs.Block.{map_on, bytes_of}
use Rattle.ck_read.specs.StartFault.{content_on, file_size}

-- ---- a value is an entry of some fileset

first_is : (held : ℕ → Option Held) (ids : List ℕ) (h : Held) → first_entry held ids ≡ Some h → (fs : ℕ) × (held fs ≡ Some h)
first_is held [] h is = (0, is)
first_is held (id ∷ ids) h is =
    elim (held id) as (λ o. held id ≡ o → option_or o (first_entry held ids) ≡ Some h → (fs : ℕ) × (held fs ≡ Some h)) [
      | None ↦ λ _ rest. first_is held ids h rest
      | Some x ↦ λ here same. (id, here ∙ same)
    ] refl is

present_is : (o : Option Held) (h : Held) → present o ≡ Some h → o ≡ Some h
present_is None h is = is
present_is (Some Absent) h is = absurd (none_some h is)
present_is (Some (Plain stamp small)) h is = is
present_is (Some (Extent stamp block)) h is = is
present_is (Some (Mark stamp)) h is = is

value_held : (t : Table) (fs : ℕ) (key : Key) (h : Held) → value_of t fs key ≡ Some h → (g : ℕ) × (column t key g ≡ Some h)
value_held t fs key h is = first_is (column t key) (fs ∷ newer t fs) h (present_is (first_entry (column t key) (fs ∷ newer t fs)) h is)

-- the data block that a value names is one of the volume's
block_below : (t : Table) (fs : ℕ) (key : Key) (block : ℕ) → IsOrderly t → option_and_then block_in (value_of t fs key) ≡ Some block → block < t.blocks
block_below t fs key block orderly names = on (value_of t fs key) refl names
  where
    on : (o : Option Held) → value_of t fs key ≡ o → option_and_then block_in o ≡ Some block → block < t.blocks
    on None has none = absurd (none_some block none)
    on (Some held) has names = let at = value_held t fs key held has in subst (λ o. IfSome o (λ b. b < t.blocks)) names (orderly.blocks at.0 key held at.1)

-- it is one of the device's
pub block_within : (t : Table) (fs : ℕ) (key : Key) (held : Option Held) (named : Option ℕ) (base size : ℕ) → IsOrderly t → held ≡ value_of t fs key → named ≡ option_and_then block_in held → base + t.blocks ≤ size → IfSome named (λ block. base + block < size)
block_within t fs key held None base size orderly got is area = tt
block_within t fs key held (Some block) base size orderly got is area =
    let low = block_below t fs key block orderly (ap (option_and_then block_in) (sym got) ∙ sym is) in
    omega (arith, low, area)

-- a file's size is within its limit
pub size_below : (t : Table) (fs node : ℕ) → IsTable t → IfOk (file_size (content_on no_store (value_of t fs (Node node)))) (λ size. size ≤ file_limit)
size_below t fs node lawful = on (value_of t fs (Node node)) refl
  where
    on : (o : Option Held) → value_of t fs (Node node) ≡ o → IfOk (file_size (content_on no_store o)) (λ size. size ≤ file_limit)
    on None has = omega arith
    on (Some Absent) has = omega arith
    on (Some (Plain stamp (To number))) has = omega arith
    on (Some (Plain stamp (File size))) has =
        let held = Plain stamp (File size) in
        let at = value_held t fs (Node node) held has in
        (lawful.entries at.0 (Node node) held at.1).1.value.1
    on (Some (Plain stamp Dir)) has = tt
    on (Some (Extent stamp block)) has = omega arith
    on (Some (Mark stamp)) has = omega arith

-- ---- the map of a live data checkpoint

pub data_stands : (t : Table) (fs : ℕ) → is_live_data t fs ≡ true → IsSome (map.get t.filesets fs)
data_stands t fs live = elim (map.get t.filesets fs) as (λ o. option_map_or (λ (g : Fileset). not g.gone && keeps_files g.kind) o false ≡ true → IsSome o) [ None ↦ λ h. h | Some g ↦ λ _. refl ] live

value_at-data : (t : Table) (fs : ℕ) (key : Key) → IsTable t → is_live_data t fs ≡ true → value_at t fs key ≡ value_of t fs key
value_at-data t fs key lawful live =
    let some = positive_id t fs lawful (data_stands t fs live) in
    let other : nat_eq fs 0 ≡ false = grind (arith, nat_tests) in
    ap (λ b. cond b (present (column t key 0)) (value_of t fs key)) other

pub content-map_on : (store : Store) (t : Table) (fs : ℕ) (key : Key) → IsTable t → is_live_data t fs ≡ true → content_at (map_on store t fs) key ≡ content_on store (value_of t fs key)
content-map_on store t fs key lawful live =
    ap (option_and_then (λ (cell : Cell). cell.payload)) (get-cells_on store (values_of t fs) key ∙ ap (option_map (cell_on store)) (get-values_of t fs key ∙ value_at-data t fs key lawful live))

-- the bytes of a block of the file
pub bytes-map_on : (store : Store) (t : Table) (fs : ℕ) (key : Key) → IsTable t → is_live_data t fs ≡ true → bytes_in (content_at (map_on store t fs) key) ≡ bytes_of store (option_and_then block_in (value_of t fs key))
bytes-map_on store t fs key lawful live = ap bytes_in (content-map_on store t fs key lawful live) ∙ alike (value_of t fs key)
  where
    alike : (held : Option Held) → bytes_in (content_on store held) ≡ bytes_of store (option_and_then block_in held)
    alike None = refl
    alike (Some Absent) = refl
    alike (Some (Plain stamp (To node))) = refl
    alike (Some (Plain stamp (File size))) = refl
    alike (Some (Plain stamp Dir)) = refl
    alike (Some (Extent stamp block)) = refl
    alike (Some (Mark stamp)) = refl
