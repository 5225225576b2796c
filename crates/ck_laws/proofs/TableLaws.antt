-- A table that obeys the rules stands for a world of which all holds that holds of every world.
use Rattle.std.proofs.Common.{◌≡◌, ◌≢◌, ◌≤◌, ◌<◌, ℕ, ◌+◌, Bool, true, false, cond, ◌&&◌, T, not, Option, Some, None, IfSome, is_some, option_map, List, [], ◌∷◌, map as list_map, filter, nat_eq, if◌then◌else◌, refl, sym, ap, subst, ◌∙◌, arith}
use Rattle.std.specs.Prelude.{⊤}
use Rattle.std.specs.Ordering.{nat_cmp, is_lt}
use Rattle.std.specs.List.{AllByRecursion}
use Rattle.std.specs.Option.{option_or}
use Rattle.std.specs.FinMap.{is_sorted, entries_sorted, nat_cmp-IsAntisymmetric}
use Rattle.std.specs.FinMap.Entries.{below_all}
use Rattle.std.specs.FinMap as map
use Rattle.std.proofs.lemmas.Bool.Decides.{nat_tests}
use Rattle.std.proofs.lemmas.Cmp.{nat_cmp_total}
use Rattle.ck_model.specs.declared.key.Key.{Key}
use Rattle.ck_model.specs.declared.cell.Cell.{Cell}
use Rattle.ck_model.specs.declared.checkpoint.Fileset.{Fileset}
use Rattle.ck_model.specs.declared.checkpoint.Kind.{Kind}
use Rattle.ck_model.specs.declared.checkpoint.Kind.TheVariants.{Keeping, Nodata}
use Rattle.ck_model.specs.declared.held.Held.{Held}
use Rattle.ck_model.specs.declared.held.Held.TheVariants.{Absent, Plain, Extent, Mark}
use Rattle.ck_model.specs.declared.held.Small.TheVariants.{To, File, Dir}
use Rattle.ck_model.specs.Cells.{Cells, differs, marked, OfOneHistory}
use Rattle.ck_model.specs.Table.{Table, IsTable, column, newer}
use Rattle.ck_model.specs.Chain.{first_entry, present, value_at}
use Rattle.ck_model.specs.Rules.{IsOrderly, HeldBelow, stamp_in, block_in}
use Rattle.ck_model.specs.Values.{Store, cell_on, cells_on}
use Rattle.ck_model.specs.World.{Checkpoint, shown_by}
use Rattle.ck_model.specs.TableWorld.{values_of, checkpoint_on, live_filesets}
use Rattle.ck_laws.specs.Laws.{IdsRise, StampsBelow, ContentBelow, NumbersBelow, IsWhole, HasBlocks, StoresBlocks, Agree, EachTwo, TablesAreOrdered, TablesStand}
use Rattle.ck_model.proofs.ValueLaws.{get-values_of, get-cells_on}
use Rattle.ck_model.proofs.FilesetLaws.{all_found}
use Rattle.ck_laws.proofs.WorldLemmas.{shown_again}
use Rattle.ck_laws.proofs.WorldLaws.{OfOneHistory-marked, StampsBelow-shown, NumbersBelow-shown, HasBlocks-shown}

-- ---- what stands behind a cell

-- an entry of some fileset at the key, of the cell's version
record IsHeld (store : Store) (t : Table) (key : Key) (cell : Cell) : Type 0 where
  fileset : ℕ
  held : Held
  there : column t key fileset ≡ Some held
  is : cell ≡ cell_on store held
  stamped : stamp_in held ≡ Some cell.stamp

record HasEntry (t : Table) (key : Key) (held : Held) : Type 0 where
  fileset : ℕ
  there : column t key fileset ≡ Some held

module _ (store : Store) (t : Table) where
  found_entry : (key : Key) (ids : List ℕ) (held : Held) → first_entry (column t key) ids ≡ Some held → HasEntry t key held
  found_entry key [] held h = record { fileset = 0; there = h }
  found_entry key (id ∷ ids) held h =
      elim (column t key id) as (λ o. column t key id ≡ o → option_or o (first_entry (column t key) ids) ≡ Some held → HasEntry t key held) [
        | None ↦ λ _ rest. found_entry key ids held rest
        | Some own ↦ λ is same. record { fileset = id; there = is ∙ same }
      ] refl h

  of_entry : (key : Key) (cell : Cell) (o : Option Held) → ((held : Held) → o ≡ Some held → HasEntry t key held) → option_map (cell_on store) (present o) ≡ Some cell → IsHeld store t key cell
  of_entry key cell None entry h = cc
  of_entry key cell (Some Absent) entry h = cc
  of_entry key cell (Some (Plain stamp small)) entry h =
      let e = entry (Plain stamp small) refl in
      let same : cell_on store (Plain stamp small) ≡ cell = cc in
      record { fileset = e.fileset; held = Plain stamp small; there = e.there; is = sym same; stamped = ap (λ c. Some c.stamp) same }
  of_entry key cell (Some (Extent stamp block)) entry h =
      let e = entry (Extent stamp block) refl in
      let same : cell_on store (Extent stamp block) ≡ cell = cc in
      record { fileset = e.fileset; held = Extent stamp block; there = e.there; is = sym same; stamped = ap (λ c. Some c.stamp) same }
  of_entry key cell (Some (Mark stamp)) entry h =
      let e = entry (Mark stamp) refl in
      let same : cell_on store (Mark stamp) ≡ cell = cc in
      record { fileset = e.fileset; held = Mark stamp; there = e.there; is = sym same; stamped = ap (λ c. Some c.stamp) same }

  abbrev map_of : ℕ → Cells
  map_of fs = cells_on store (values_of t fs)

  get-map_of : (fs : ℕ) (key : Key) → map.get (map_of fs) key ≡ option_map (cell_on store) (value_at t fs key)
  get-map_of fs key = get-cells_on store (values_of t fs) key ∙ ap (option_map (cell_on store)) (get-values_of t fs key)

  held_at : (fs : ℕ) (key : Key) (cell : Cell) → map.get (map_of fs) key ≡ Some cell → IsHeld store t key cell
  held_at fs key cell h =
      elim (nat_eq fs 0) as (λ b. option_map (cell_on store) (if b then present (column t key 0) else present (first_entry (column t key) (fs ∷ newer t fs))) ≡ Some cell → IsHeld store t key cell) [
        | true ↦ λ is. of_entry key cell (column t key 0) (λ held there. record { fileset = 0; there = there }) is
        | false ↦ λ is. of_entry key cell (first_entry (column t key) (fs ∷ newer t fs)) (λ held there. found_entry key (fs ∷ newer t fs) held there) is
      ] (sym (get-map_of fs key) ∙ h)

-- ---- the maps

content_below : (store : Store) (limit : ℕ) (held : Held) → HeldBelow limit held → ContentBelow limit (cell_on store held).payload
content_below store limit Absent h = tt
content_below store limit (Plain stamp (To node)) h = h
content_below store limit (Plain stamp (File size)) h = tt
content_below store limit (Plain stamp Dir) h = tt
content_below store limit (Extent stamp block) h = tt
content_below store limit (Mark stamp) h = tt

whole_on : (store : Store) (blocks : ℕ) → StoresBlocks blocks store → (held : Held) → IfSome (block_in held) (λ block. block < blocks) → IsWhole (cell_on store held).payload
whole_on store blocks stores Absent h = tt
whole_on store blocks stores (Plain stamp (To node)) h = tt
whole_on store blocks stores (Plain stamp (File size)) h = tt
whole_on store blocks stores (Plain stamp Dir) h = tt
whole_on store blocks stores (Extent stamp block) h = stores block h
whole_on store blocks stores (Mark stamp) h = tt

module _ (store : Store) (t : Table) (rules : IsOrderly t) where
  map_stamps : (fs : ℕ) → StampsBelow t.counters.stamp (map_of store t fs)
  map_stamps fs key cell is =
      let e = held_at store t fs key cell is in
      subst (λ o. IfSome o (λ stamp. stamp < t.counters.stamp)) e.stamped (rules.stamps e.fileset key e.held e.there)

  map_numbers : (fs : ℕ) → NumbersBelow t.counters.number (map_of store t fs)
  map_numbers fs key cell is =
      let e = held_at store t fs key cell is in
      let low = rules.numbers e.fileset key e.held e.there in
      (low.0, subst (λ c. ContentBelow t.counters.number c.payload) (sym e.is) (content_below store t.counters.number e.held low.1))

  map_payloads : StoresBlocks t.blocks store → (fs : ℕ) → HasBlocks (map_of store t fs)
  map_payloads stores fs key cell is =
      let e = held_at store t fs key cell is in
      subst (λ c. IsWhole c.payload) (sym e.is) (whole_on store t.blocks stores e.held (rules.blocks e.fileset key e.held e.there))

  one_held : (key : Key) (x y : Cell) → IsHeld store t key x → IsHeld store t key y → x.stamp ≡ y.stamp → x ≡ y
  one_held key x y e f same =
      let home = rules.versions e.fileset f.fileset key e.held f.held x.stamp e.there f.there e.stamped (f.stamped ∙ ap Some (sym same)) in
      let alike : Some e.held ≡ Some f.held = sym e.there ∙ ap (column t key) home ∙ f.there in
      e.is ∙ ap (cell_on store) (injective e.held f.held alike) ∙ sym f.is
    where
      injective : (g h : Held) → ◌≡◌ {A = Option Held} (Some g) (Some h) → g ≡ h
      injective g h is = cc

  maps_agree : (fs gs : ℕ) → OfOneHistory (map_of store t fs) (map_of store t gs)
  maps_agree fs gs key same = on (map.get (map_of store t fs) key) refl (map.get (map_of store t gs) key) refl same
    where
      level : (m n : ℕ) → not (nat_eq m n) ≡ false → m ≡ n
      level m n h = grind (arith, nat_tests)

      on : (o : Option Cell) → map.get (map_of store t fs) key ≡ o → (p : Option Cell) → map.get (map_of store t gs) key ≡ p → differs o p ≡ false → o ≡ p
      on None _ None _ h = refl
      on None _ (Some y) _ h = cc
      on (Some x) _ None _ h = cc
      on (Some x) first (Some y) second h = ap Some (one_held key x y (held_at store t fs key x first) (held_at store t gs key y second) (level x.stamp y.stamp h))

  -- each as the other's kind shows it
  shown_agree : (a b : Cells) (kind other : Kind) → OfOneHistory a b → OfOneHistory (shown_by other (shown_by kind a)) (shown_by kind (shown_by other b))
  shown_agree a b Keeping Keeping h = h
  shown_agree a b Keeping Nodata h = OfOneHistory-marked a b h
  shown_agree a b Nodata Keeping h = OfOneHistory-marked a b h
  shown_agree a b Nodata Nodata h =
      subst (λ x. OfOneHistory x (marked (marked b))) (sym (shown_again Nodata a)) (subst (OfOneHistory (marked a)) (sym (shown_again Nodata b)) (OfOneHistory-marked a b h))

-- ---- lists

each_made : {X : Type 0} (P : Checkpoint → Type 0) (f : X → Checkpoint) → ((x : X) → P (f x)) → (xs : List X) → AllByRecursion P (list_map f xs)
each_made P f each [] = tt
each_made P f each (x ∷ xs) = (each x, each_made P f each xs)

each_two_made : {X : Type 0} (R : Checkpoint → Checkpoint → Type 0) (f : X → Checkpoint) → ((x y : X) → R (f x) (f y)) → (xs : List X) → EachTwo R (list_map f xs)
each_two_made R f each [] = tt
each_two_made R f each (x ∷ xs) = (each_made (R (f x)) f (each x) xs, each_two_made R f each xs)

below_head : (x y : ℕ) (b : Bool) → T (is_lt (nat_cmp x y) && b) → (x < y) × T b
below_head x y b h = grind (arith, nat_tests)

parts_of : (a b : Bool) → T (a && b) → T a × T b
parts_of true b h = (tt, h)
parts_of false b h = absurd h

-- in order behind a number
abbrev Rising : {X : Type 0} → ℕ → List (ℕ × X) → Type 0
Rising least [] = ⊤
Rising least (e ∷ es) = (least ≤ e.0) × Rising (e.0 + 1) es

Rising-more : {X : Type 0} (least more : ℕ) (es : List (ℕ × X)) → least ≤ more → Rising more es → Rising least es
Rising-more least more [] le h = tt
Rising-more least more (e ∷ es) le h = (omega (arith, h.0, le), h.1)

rising_behind : {X : Type 0} (x : ℕ) (es : List (ℕ × X)) → T (below_all nat_cmp x es) → T (is_sorted nat_cmp es) → Rising (x + 1) es
rising_behind x [] below sorted = tt
rising_behind x (e ∷ es) below sorted =
    let head = below_head x e.0 (below_all nat_cmp x es) below in
    let parts = parts_of (below_all nat_cmp e.0 es) (is_sorted nat_cmp es) sorted in
    (omega (arith, head.0), rising_behind e.0 es parts.0 parts.1)

module _ (store : Store) (t : Table) (rules : IsOrderly t) where
  abbrev made_on : ℕ × Fileset → Checkpoint
  made_on e = checkpoint_on store t e.0 e.1

  abbrev IsThere : ℕ × Fileset → Type 0
  IsThere e = map.get t.filesets e.0 ≡ Some e.1

  id_below : (e : ℕ × Fileset) → IsThere e → e.0 < t.counters.id
  id_below e there = rules.ids e.0 (ap is_some there)

  ids_rise : (es : List (ℕ × Fileset)) (least : ℕ) → least ≤ t.counters.id → Rising least es → AllByRecursion IsThere es → IdsRise least (list_map made_on (filter (λ e. not e.1.gone) es)) t.counters.id
  ids_rise [] least le rising there = le
  ids_rise (e ∷ es) least le rising there =
      let low = id_below e there.0 in
      elim e.1.gone as (λ b. IdsRise least (list_map made_on (cond (not b) (e ∷ filter (λ x. not x.1.gone) es) (filter (λ x. not x.1.gone) es))) t.counters.id) [
        | true ↦ ids_rise es least le (Rising-more least (e.0 + 1) es (omega (arith, rising.0)) rising.1) there.1
        | false ↦ (rising.0, ids_rise es (e.0 + 1) (omega (arith, low)) rising.1 there.1)
      ]

  -- the names of those behind one that isn't gone are others
  names_behind : (e : ℕ × Fileset) (es : List (ℕ × Fileset)) (least : ℕ) → e.0 < least → IsThere e → e.1.gone ≡ false → Rising least es → AllByRecursion IsThere es → AllByRecursion (λ c. e.1.name ≢ c.name) (list_map made_on (filter (λ x. not x.1.gone) es))
  names_behind e [] least low own stands rising there = tt
  names_behind e (x ∷ es) least low own stands rising there =
      let rest = names_behind e es (x.0 + 1) (omega (arith, low, rising.0)) own stands rising.1 there.1 in
      elim x.1.gone as (λ b. x.1.gone ≡ b → AllByRecursion (λ c. e.1.name ≢ c.name) (list_map made_on (cond (not b) (x ∷ filter (λ y. not y.1.gone) es) (filter (λ y. not y.1.gone) es)))) [
        | true ↦ λ _. rest
        | false ↦ λ also. (λ same. (let one = rules.names e.0 x.0 e.1 x.1 own there.0 stands also same in omega (arith, one, low, rising.0)), rest)
      ] refl

  names_differ : (es : List (ℕ × Fileset)) (least : ℕ) → Rising least es → AllByRecursion IsThere es → EachTwo (λ c d. c.name ≢ d.name) (list_map made_on (filter (λ e. not e.1.gone) es))
  names_differ [] least rising there = tt
  names_differ (e ∷ es) least rising there =
      let rest = names_differ es (e.0 + 1) rising.1 there.1 in
      elim e.1.gone as (λ b. e.1.gone ≡ b → EachTwo (λ c d. c.name ≢ d.name) (list_map made_on (cond (not b) (e ∷ filter (λ x. not x.1.gone) es) (filter (λ x. not x.1.gone) es)))) [
        | true ↦ λ _. rest
        | false ↦ λ stands. (names_behind e es (e.0 + 1) (omega arith) there.0 stands rising.1 there.1, rest)
      ] refl

-- ---- the filesets of a table

module _ (t : Table) (table : IsTable t) where
  abbrev es : List (ℕ × Fileset)
  es = map.entries t.filesets

  there : AllByRecursion (λ e. map.get t.filesets e.0 ≡ Some e.1) (map.entries t.filesets)
  there = all_found nat_cmp_total nat_cmp-IsAntisymmetric (λ e. map.get t.filesets e.0 ≡ Some e.1) (map.entries t.filesets) (entries_sorted t.filesets) (λ k v found. map.get-entries t.filesets k ∙ found)

  rising_all : (xs : List (ℕ × Fileset)) → T (is_sorted nat_cmp xs) → AllByRecursion (λ e. map.get t.filesets e.0 ≡ Some e.1) xs → Rising 1 xs
  rising_all [] sorted h = tt
  rising_all (e ∷ xs) sorted h =
      let parts = parts_of (below_all nat_cmp e.0 xs) (is_sorted nat_cmp xs) sorted in
      ((table.filesets e.0 e.1 h.0).some, rising_behind e.0 xs parts.0 parts.1)

  rising : Rising 1 (map.entries t.filesets)
  rising = rising_all (map.entries t.filesets) (entries_sorted t.filesets) there

-- ---- the world

pub tables_are_ordered_lem : TablesAreOrdered
tables_are_ordered_lem store mounts t table rules = record {
  ids = ids_rise store t rules (es t table) 1 table.counters.some_id (rising t table) (there t table);
  marks = each_made (λ c. shown_by c.kind c.cells ≡ c.cells) (made_on store t rules) (λ e. shown_again e.1.kind (map_of store t e.0)) (live_filesets t);
}

pub tables_stand_lem : TablesStand
tables_stand_lem store mounts t table rules stores = record {
  order = tables_are_ordered_lem store mounts t table rules;
  names = names_differ store t rules (es t table) 1 (rising t table) (there t table);
  stamps = map_stamps store t rules 0;
  frozen_stamps = each_made (λ c. StampsBelow t.counters.stamp c.cells) (made_on store t rules) (λ e. StampsBelow-shown t.counters.stamp e.1.kind (map_of store t e.0) (map_stamps store t rules e.0)) (live_filesets t);
  numbers = map_numbers store t rules 0;
  frozen_numbers = each_made (λ c. NumbersBelow t.counters.number c.cells) (made_on store t rules) (λ e. NumbersBelow-shown t.counters.number e.1.kind (map_of store t e.0) (map_numbers store t rules e.0)) (live_filesets t);
  payloads = map_payloads store t rules stores 0;
  frozen_payloads = each_made (λ c. HasBlocks c.cells) (made_on store t rules) (λ e. HasBlocks-shown e.1.kind (map_of store t e.0) (map_payloads store t rules stores e.0)) (live_filesets t);
  versions = each_made (Agree Keeping (map_of store t 0)) (made_on store t rules) (λ e. shown_agree store t rules (map_of store t 0) (map_of store t e.0) Keeping e.1.kind (maps_agree store t rules 0 e.0)) (live_filesets t);
  frozen_versions = each_two_made (λ older newer. Agree older.kind older.cells newer) (made_on store t rules) (λ e x. shown_agree store t rules (map_of store t e.0) (map_of store t x.0) e.1.kind x.1.kind (maps_agree store t rules e.0 x.0)) (live_filesets t);
}
