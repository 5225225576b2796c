-- The map that a checkpoint of either kind stands for, and how many names a directory has.
use Rattle.std.proofs.Common.{◌≡◌, ℕ, ◌+◌, ◌≤◌, Bool, true, false, List, [], ◌∷◌, length, Option, Some, None, IfSome, is_some, if◌then◌else◌, refl, sym, ap, ◌∙◌, arith}
use Rattle.std.specs.List.{filter_map, cons_option}
use Rattle.std.specs.Option.{option_and_then, option_map}
use Rattle.std.specs.FinMap as map
use Rattle.ck_model.specs.declared.cell.Cell.{Cell}
use Rattle.ck_model.specs.declared.cell.Payload.{Payload}
use Rattle.ck_model.specs.declared.checkpoint.Kind.{Kind}
use Rattle.ck_model.specs.declared.checkpoint.Kind.TheVariants.{Keeping, Nodata}
use Rattle.ck_model.specs.declared.held.Held.{Held}
use Rattle.ck_model.specs.declared.held.Held.TheVariants.{Absent, Plain, Extent, Mark}
use Rattle.ck_model.specs.declared.held.Small.TheVariants.{To, File, Dir}
use Rattle.ck_model.specs.declared.key.Key.{Key}
use Rattle.ck_model.specs.declared.key.Key.TheVariants.{Name, Node, Block}
use Rattle.ck_model.specs.Cells.{Cells, content_at, mark_of, marked}
use Rattle.ck_model.specs.Chain.{value_at}
use Rattle.ck_model.specs.Contents.{child_in, children}
use Rattle.ck_model.specs.Held.{BelongsTo}
use Rattle.ck_model.specs.Key.{is_block}
use Rattle.ck_model.specs.Space.{records_in}
use Rattle.ck_model.specs.TableWorld.{values_of, world_on}
use Rattle.ck_model.specs.Table.{Table, IsTable, record_count}
use Rattle.ck_model.specs.Values.{Store, cells_on, payload_of}
use Rattle.ck_model.specs.World.{shown_by}
use Rattle.ck_model.proofs.CellLaws.{get-marked}
use Rattle.ck_nodata.proofs.HeldLaws.{records-within}
use Rattle.ck_tree.specs.Map.{StandsFor, small_in, without_bytes}
use Rattle.ck_tree.proofs.MapLaws.{stands_on, value_held}
use Rattle.ck_files.specs.Files.{IsOurs}

-- ---- a checkpoint of either kind has the names and nodes of its fileset

abbrev content_of : Option Cell → Option Payload
content_of o = option_and_then (λ (cell : Cell). cell.payload) o

mapped : {X Y : Type 0} (f : X → Y) (o : Option X) → is_some (option_map f o) ≡ is_some o
mapped f None = refl
mapped f (Some x) = refl

kept_by : (key : Key) → is_block key ≡ false → (o : Option Cell) → option_map (mark_of key) o ≡ o
kept_by key other None = refl
kept_by key other (Some cell) = ap (λ (b : Bool). Some (if b then record cell { payload = None } else cell)) other

bare_by : (key : Key) → is_block key ≡ true → (o : Option Cell) → content_of (option_map (mark_of key) o) ≡ None
bare_by key block None = refl
bare_by key block (Some cell) = ap (λ (b : Bool). content_of (Some (if b then record cell { payload = None } else cell))) block

no_small : (n i : ℕ) (o : Option Held) → IfSome o (BelongsTo (Block n i)) → small_in o ≡ None
no_small n i None belongs = refl
no_small n i (Some Absent) belongs = refl
no_small n i (Some (Plain stamp (To node))) belongs = absurd belongs
no_small n i (Some (Plain stamp (File size))) belongs = absurd belongs
no_small n i (Some (Plain stamp Dir)) belongs = absurd belongs
no_small n i (Some (Extent stamp block)) belongs = refl
no_small n i (Some (Mark stamp)) belongs = refl

module _ (store : Store) (t : Table) (lawful : IsTable t) (fs : ℕ) where
  abbrev cells : Cells
  cells = cells_on store (values_of t fs)

  belongs_at : (key : Key) → IfSome (value_at t fs key) (BelongsTo key)
  belongs_at key = elim (value_at t fs key) as (λ o. value_at t fs key ≡ o → IfSome o (BelongsTo key)) [
    | None ↦ λ _. tt
    | Some held ↦ λ is. let at = value_held t fs key held is in (lawful.entries at.0 key held at.1).1.value
  ] refl

  small_marked : (key : Key) → without_bytes (content_at (marked cells) key) ≡ option_map payload_of (small_in (value_at t fs key))
  small_marked (Name directory name) =
      ap (λ o. without_bytes (content_of o)) (get-marked cells (Name directory name) ∙ kept_by (Name directory name) refl (map.get cells (Name directory name))) ∙ (stands_on store t fs).small (Name directory name)
  small_marked (Node number) =
      ap (λ o. without_bytes (content_of o)) (get-marked cells (Node number) ∙ kept_by (Node number) refl (map.get cells (Node number))) ∙ (stands_on store t fs).small (Node number)
  small_marked (Block number index) =
      ap (λ o. without_bytes (content_of o)) (get-marked cells (Block number index))
      ∙ ap without_bytes (bare_by (Block number index) refl (map.get cells (Block number index)))
      ∙ sym (ap (option_map payload_of) (no_small number index (value_at t fs (Block number index)) (belongs_at (Block number index))))

  pub stands_shown : (kind : Kind) → StandsFor t fs (shown_by kind cells)
  stands_shown Keeping = stands_on store t fs
  stands_shown Nodata = record {
    present = λ key. ap is_some (get-marked cells key) ∙ mapped (mark_of key) (map.get cells key) ∙ (stands_on store t fs).present key;
    small = small_marked;
  }

-- ---- the names of a directory are at most as many as a table's records

one_more : {Y : Type 0} (o : Option Y) (ys : List Y) → length (cons_option o ys) ≤ 1 + length ys
one_more None ys = omega arith
one_more (Some y) ys = omega arith

given_few : {X Y : Type 0} (h : X → Option Y) (xs : List X) → length (filter_map h xs) ≤ length xs
given_few h [] = omega arith
given_few h (x ∷ xs) = omega (arith, one_more (h x) (filter_map h xs), given_few h xs)

-- they are counted within 32 bits
pub names-few : (store : Store) (t : Table) → IsOurs t → (node : ℕ) → length (children (cells_on store (values_of t 0)) node) ≤ 262144
names-few store t ours node =
    let cells : Cells = cells_on store (values_of t 0) in
    let few : length (children cells node) ≤ length (map.entries cells) = given_few (child_in cells node) (map.entries cells) in
    let entries : map.len cells ≡ length (map.entries cells) = map.len-entries cells in
    let records : records_in (world_on store map.empty t) ≤ record_count t = records-within store map.empty t ours.lawful ours.sound in
    let fits : record_count t ≤ t.records = ours.sized.fits in
    let limit : t.records ≤ 262144 = ours.sized.records in
    omega (arith, few, entries, records, fits, limit)
