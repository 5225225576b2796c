-- What a checkpoint shows of a map, where its reader sees the same in another table.
use Rattle.std.proofs.Common.{◌≡◌, ℕ, ◌≤◌, true, false, cond, Option, Some, None, IfSome, List, [], ◌∷◌, if◌then◌else◌, not, ◌&&◌, nat_eq, refl, sym, ap, ◌∙◌, arith, map as list_map, filter}
use Rattle.std.specs.Option.{option_map, option_map_or, option_or}
use Rattle.std.specs.FinMap as map
use Rattle.std.proofs.lemmas.Bool.{and_from}
use Rattle.std.proofs.lemmas.Bool.Decides.{nat_tests}
use Rattle.ck_model.specs.declared.key.Key.{Key}
use Rattle.ck_model.specs.declared.key.Key.TheVariants.{Name, Node, Block}
use Rattle.ck_model.specs.declared.cell.Cell.{Cell}
use Rattle.ck_model.specs.declared.checkpoint.Fileset.{Fileset}
use Rattle.ck_model.specs.declared.checkpoint.Kind.TheVariants.{Keeping, Nodata}
use Rattle.ck_model.specs.declared.held.Held.{Held}
use Rattle.ck_model.specs.declared.held.Held.TheVariants.{Absent, Plain, Extent, Mark}
use Rattle.ck_model.specs.Held.{IsEntry}
use Rattle.ck_model.specs.Key.{key_cmp_exact, key_cmp_total}
use Rattle.ck_model.specs.Cells.{mark_of, marked}
use Rattle.ck_model.specs.World.{keeps_files, shown_by}
use Rattle.ck_model.specs.Table.{Table, Filesets, IsTable, column, newer}
use Rattle.ck_model.specs.Chain.{as_mark, first_entry, is_live, is_live_data, keeps_data, present, seen, value_at, value_of}
use Rattle.ck_model.specs.Values.{Store, cell_on, cells_on}
use Rattle.ck_model.specs.Placed.{ArePlaced}
use Rattle.ck_model.specs.TableWorld.{checkpoint_on, checkpoints_on, values_of}
use Rattle.ck_model.proofs.CellLaws.{get-marked}
use Rattle.ck_model.proofs.CountLaws.{all_placed}
use Rattle.ck_model.proofs.ValueLaws.{get-cells_on, get-values_of}
use Rattle.ck_table.proofs.LeaveLaws.{own_data, read}

pub value_at_some : (t : Table) (id : ℕ) (q : Key) → 1 ≤ id → value_at t id q ≡ value_of t id q
value_at_some t id q some = let apart : nat_eq id 0 ≡ false = grind (arith, nat_tests) in ap (λ b. cond b (present (column t q 0)) (value_of t id q)) apart

pub get-cells : (store : Store) (t : Table) (id : ℕ) (q : Key) → map.get (cells_on store (values_of t id)) q ≡ option_map (cell_on store) (value_at t id q)
get-cells store t id q = get-cells_on store (values_of t id) q ∙ ap (option_map (cell_on store)) (get-values_of t id q)

-- filesets with the same values stand for the same cells
pub same_cells : (store : Store) (old new : Table) (from to : ℕ) → ((q : Key) → value_at new to q ≡ value_at old from q) → cells_on store (values_of new to) ≡ cells_on store (values_of old from)
same_cells store old new from to same =
    map.same_map key_cmp_total key_cmp_exact (cells_on store (values_of new to)) (cells_on store (values_of old from)) (λ q.
    get-cells store new to q ∙ ap (option_map (cell_on store)) (same q) ∙ sym (get-cells store old from q))

-- ---- blocks as marks

marked_again : (o : Option Held) → option_map as_mark (option_map as_mark o) ≡ option_map as_mark o
marked_again None = refl
marked_again (Some Absent) = refl
marked_again (Some (Plain stamp small)) = refl
marked_again (Some (Extent stamp block)) = refl
marked_again (Some (Mark stamp)) = refl

-- what is seen and what is there have the same marks
seen_marks : (t : Table) (id : ℕ) (q : Key) → option_map as_mark (seen t id q) ≡ option_map as_mark (value_of t id q)
seen_marks t id q = elim (keeps_data t id) as (λ b. option_map as_mark (if b then value_of t id q else option_map as_mark (value_of t id q)) ≡ option_map as_mark (value_of t id q)) [
  | true ↦ refl
  | false ↦ marked_again (value_of t id q)
]

first_has : (P : Held → Type 0) (c : ℕ → Option Held) (ids : List ℕ) → ((x : ℕ) → IfSome (c x) P) → IfSome (first_entry c ids) P
first_has P c [] each = each 0
first_has P c (x ∷ ids) each = elim (c x) as (λ o. IfSome o P → IfSome (option_or o (first_entry c ids)) P) [
  | None ↦ λ _. first_has P c ids each
  | Some held ↦ λ h. h
] (each x)

present_has : (P : Held → Type 0) (o : Option Held) → IfSome o P → IfSome (present o) P
present_has P None h = tt
present_has P (Some Absent) h = tt
present_has P (Some (Plain stamp small)) h = h
present_has P (Some (Extent stamp block)) h = h
present_has P (Some (Mark stamp)) h = h

-- a value is an entry that a table may have at its key
value_entry : (t : Table) (id : ℕ) (q : Key) → IsTable t → IfSome (value_of t id q) (IsEntry q)
value_entry t id q lawful = present_has (IsEntry q) (first_entry (column t q) (id ∷ newer t id)) (first_has (IsEntry q) (column t q) (id ∷ newer t id) (λ x.
    elim (column t q x) as (λ o. column t q x ≡ o → IfSome o (IsEntry q)) [ None ↦ λ _. tt | Some held ↦ λ at. (lawful.entries x q held at).1 ] refl))

extent_marked : (store : Store) (q : Key) (stamp block : ℕ) → IsEntry q (Extent stamp block) → mark_of q (cell_on store (Extent stamp block)) ≡ mark_of q (cell_on store (Mark stamp))
extent_marked store (Name directory name) stamp block is = absurd is.value
extent_marked store (Node number) stamp block is = absurd is.value
extent_marked store (Block number index) stamp block is = refl

-- a data block's cell is a mark there, as that of its mark
cell_marked : (store : Store) (q : Key) (o : Option Held) → IfSome o (IsEntry q) → option_map (mark_of q) (option_map (cell_on store) o) ≡ option_map (mark_of q) (option_map (cell_on store) (option_map as_mark o))
cell_marked store q None is = refl
cell_marked store q (Some Absent) is = refl
cell_marked store q (Some (Plain stamp small)) is = refl
cell_marked store q (Some (Extent stamp block)) is = ap (λ (cell : Cell). Some cell) (extent_marked store q stamp block is)
cell_marked store q (Some (Mark stamp)) is = refl

get-marks : (store : Store) (t : Table) (id : ℕ) (q : Key) → IsTable t → 1 ≤ id → map.get (marked (cells_on store (values_of t id))) q ≡ option_map (mark_of q) (option_map (cell_on store) (option_map as_mark (value_of t id q)))
get-marks store t id q lawful some =
    get-marked (cells_on store (values_of t id)) q
    ∙ ap (option_map (mark_of q)) (get-cells store t id q ∙ ap (option_map (cell_on store)) (value_at_some t id q some))
    ∙ cell_marked store q (value_of t id q) (value_entry t id q lawful)

-- ---- a checkpoint that stands in two tables

module _ (old new : Table) (lawful : IsTable old) (after : IsTable new) (id : ℕ) (fileset : Fileset)
    (before : map.get old.filesets id ≡ Some fileset) (now : map.get new.filesets id ≡ Some fileset) (live : fileset.gone ≡ false)
    (same : (q : Key) → seen new id q ≡ seen old id q) where
  some : 1 ≤ id
  some = (lawful.filesets id fileset before).some

  data_in : (t : Table) → map.get t.filesets id ≡ Some fileset → keeps_files fileset.kind ≡ true → is_live_data t id ≡ true
  data_in t is keeps = ap (λ o. option_map_or (λ (f : Fileset). not f.gone && keeps_files f.kind) o false) is ∙ and_from (not fileset.gone) (keeps_files fileset.kind) (ap not live) keeps

  values_seen : keeps_files fileset.kind ≡ true → (q : Key) → value_of new id q ≡ value_of old id q
  values_seen keeps q =
      sym (read new id q (own_data new after id (data_in new now keeps)))
      ∙ same q
      ∙ read old id q (own_data old lawful id (data_in old before keeps))

  marks_seen : (store : Store) → marked (cells_on store (values_of new id)) ≡ marked (cells_on store (values_of old id))
  marks_seen store =
      map.same_map key_cmp_total key_cmp_exact (marked (cells_on store (values_of new id))) (marked (cells_on store (values_of old id))) (λ q.
      get-marks store new id q after some
      ∙ ap (λ o. option_map (mark_of q) (option_map (cell_on store) o)) (sym (seen_marks new id q) ∙ ap (option_map as_mark) (same q) ∙ seen_marks old id q)
      ∙ sym (get-marks store old id q lawful some))

  -- where its reader sees the same, it shows the same
  pub shown_seen : (store : Store) → shown_by fileset.kind (cells_on store (values_of new id)) ≡ shown_by fileset.kind (cells_on store (values_of old id))
  shown_seen store =
      elim fileset.kind as (λ kind. fileset.kind ≡ kind → shown_by kind (cells_on store (values_of new id)) ≡ shown_by kind (cells_on store (values_of old id))) [
        | Keeping ↦ λ keeping. same_cells store old new id id (λ q. value_at_some new id q some ∙ values_seen (ap keeps_files keeping) q ∙ sym (value_at_some old id q some))
        | Nodata ↦ λ _. marks_seen store
      ] refl

-- ---- all that stand in both

module _ (old new : Table) (lawful : IsTable old) (after : IsTable new)
    (still : (id : ℕ) (fileset : Fileset) → map.get old.filesets id ≡ Some fileset → fileset.gone ≡ false → map.get new.filesets id ≡ Some fileset)
    (kept : (fs : ℕ) (q : Key) → is_live old fs ≡ true → seen new fs q ≡ seen old fs q) where
  same_on : (store : Store) (e : ℕ × Fileset) → map.get old.filesets e.0 ≡ Some e.1 → e.1.gone ≡ false → checkpoint_on store new e.0 e.1 ≡ checkpoint_on store old e.0 e.1
  same_on store e there live =
      let stands : is_live old e.0 ≡ true = ap (λ o. option_map_or (λ (f : Fileset). not f.gone) o false) there ∙ ap not live in
      let cells = shown_seen old new lawful after e.0 e.1 there (still e.0 e.1 there live) live (λ q. kept e.0 q stands) store in
      λ i. record { id = e.0; name = e.1.name; kind = e.1.kind; removable = e.1.removable; ctime = e.1.ctime; cells = cells i }

  -- the checkpoints of the old table show in the new one what they showed
  pub shown_all : (store : Store) (es : List (ℕ × Fileset)) → ArePlaced old es
      → list_map (λ e. checkpoint_on store new e.0 e.1) (filter (λ (e : ℕ × Fileset). not e.1.gone) es) ≡ list_map (λ (e : ℕ × Fileset). checkpoint_on store old e.0 e.1) (filter (λ (e : ℕ × Fileset). not e.1.gone) es)
  shown_all store [] placed = refl
  shown_all store (e ∷ es) placed =
      let rest = shown_all store es placed.1 in
      let left = filter (λ (x : ℕ × Fileset). not x.1.gone) es in
      elim e.1.gone as (λ b. e.1.gone ≡ b → list_map (λ (x : ℕ × Fileset). checkpoint_on store new x.0 x.1) (cond (not b) (e ∷ left) left) ≡ list_map (λ (x : ℕ × Fileset). checkpoint_on store old x.0 x.1) (cond (not b) (e ∷ left) left)) [
        | true ↦ λ _. rest
        | false ↦ λ live. (λ i. same_on store e placed.0.stands live i ∷ rest i)
      ] refl

-- tables with the same records, whose readers see the same, have the same checkpoints in their worlds
pub checkpoints_seen : (store : Store) (old new : Table) → IsTable old → IsTable new → new.filesets ≡ old.filesets → ((fs : ℕ) (q : Key) → is_live old fs ≡ true → seen new fs q ≡ seen old fs q)
    → checkpoints_on store new ≡ checkpoints_on store old
checkpoints_seen store old new lawful after same kept =
    ap (λ (m : Filesets). list_map (λ e. checkpoint_on store new e.0 e.1) (filter (λ (e : ℕ × Fileset). not e.1.gone) (map.entries m))) same
    ∙ shown_all old new lawful after (λ id f there _. ap (λ (m : Filesets). map.get m id) same ∙ there) kept store (map.entries old.filesets) (all_placed old lawful)
