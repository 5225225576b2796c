-- A table stands for the same world after a change that nobody sees.
use Rattle.std.proofs.Common.{◌≡◌, ℕ, ◌≤◌, Bool, true, false, cond, not, ◌&&◌, ◌||◌, inl, inr, List, [], ◌∷◌, ◌++◌, filter, map as list_map, Option, Some, None, is_some, IfSome, nat_eq, nat_le, if◌then◌else◌, refl, sym, ap, ◌∙◌, arith}
use Rattle.std.specs.Option.{option_map, option_map_or, option_or}
use Rattle.std.specs.List.{AllByRecursion, list_any}
use Rattle.std.specs.FinMap.{entries_sorted, nat_cmp-IsAntisymmetric}
use Rattle.std.specs.FinMap as map
use Rattle.std.proofs.lemmas.Cmp.{nat_cmp_total}
use Rattle.std.proofs.lemmas.Bool.{and_from}
use Rattle.std.proofs.lemmas.Bool.Decides.{nat_tests}
use Rattle.ck_model.specs.declared.key.Key.{Key}
use Rattle.ck_model.specs.declared.key.Key.TheVariants.{Name, Node, Block}
use Rattle.ck_model.specs.declared.cell.Cell.{Cell}
use Rattle.ck_model.specs.declared.checkpoint.Fileset.{Fileset}
use Rattle.ck_model.specs.declared.checkpoint.Kind.TheVariants.{Keeping, Nodata}
use Rattle.ck_model.specs.declared.held.Held.{Held}
use Rattle.ck_model.specs.declared.held.Held.TheVariants.{Absent, Plain, Extent, Mark}
use Rattle.ck_model.specs.Held.{IsEntry}
use Rattle.ck_model.specs.Key.{key_cmp_exact, key_cmp_total}
use Rattle.ck_model.specs.Cells.{mark_of, marked}
use Rattle.ck_model.specs.Limits.{checkpoint_limit}
use Rattle.ck_model.specs.World.{Mounts, keeps_files, shown_by}
use Rattle.ck_model.specs.Table.{Filesets, Table, IsTable, column, newer}
use Rattle.ck_model.specs.Chain.{as_mark, first_entry, is_gone, is_live, is_live_data, keeps_data, present, seen, value_at, value_of}
use Rattle.ck_model.specs.Values.{Store, cell_on, cells_on}
use Rattle.ck_model.specs.TableWorld.{checkpoint_on, checkpoints_on, live_filesets, values_of, world_on}
use Rattle.ck_model.proofs.CaseLaws.{none_some}
use Rattle.ck_model.proofs.CellLaws.{get-marked}
use Rattle.ck_model.proofs.FilesetLaws.{all_found}
use Rattle.ck_model.proofs.SizeLaws.{entries-retain_keys}
use Rattle.ck_model.proofs.ValueLaws.{get-cells_on, get-values_of}
use Rattle.ck_chain.specs.Needless.{in_between}
use Rattle.ck_chain.proofs.NewerLaws.{newer_split}
use Rattle.ck_remove.specs.Unseen.{IsUnseen}
use Rattle.ck_remove.proofs.OldestLemmas.{gone_not_live}

-- ---- the checkpoints that aren't gone

live_is : (t : Table) (id : ℕ) (fileset : Fileset) → map.get t.filesets id ≡ Some fileset → is_live t id ≡ not fileset.gone
live_is t id fileset is = ap (λ o. option_map_or (λ (f : Fileset). not f.gone) o false) is

-- each entry's own flag says whether it is live
same_filter : (t : Table) (es : List (ℕ × Fileset)) → AllByRecursion (λ e. map.get t.filesets e.0 ≡ Some e.1) es → filter (λ e. not e.1.gone) es ≡ filter (λ (e : ℕ × Fileset). is_live t e.0) es
same_filter t [] all = refl
same_filter t (e ∷ es) all =
    let head = sym (live_is t e.0 e.1 all.0) in
    let rest = same_filter t es all.1 in
    λ i. cond (head i) (e ∷ rest i) (rest i)

all_stand : (t : Table) → AllByRecursion (λ e. map.get t.filesets e.0 ≡ Some e.1) (map.entries t.filesets)
all_stand t = all_found nat_cmp_total nat_cmp-IsAntisymmetric (λ e. map.get t.filesets e.0 ≡ Some e.1) (map.entries t.filesets) (entries_sorted t.filesets) (λ id f found. map.get-entries t.filesets id ∙ found)

-- those as a map
abbrev live_map : Table → Filesets
live_map t = map.retain_keys t.filesets (is_live t)

live_filesets-map : (t : Table) → live_filesets t ≡ map.entries (live_map t)
live_filesets-map t = same_filter t (map.entries t.filesets) (all_stand t) ∙ sym (entries-retain_keys nat_cmp_total nat_cmp-IsAntisymmetric t.filesets (is_live t))

abbrev live_of : Option Fileset → Option Fileset
live_of o = cond (option_map_or (λ (f : Fileset). not f.gone) o false) o None

get-live_map : (t : Table) (id : ℕ) → map.get (live_map t) id ≡ live_of (map.get t.filesets id)
get-live_map t id = map.get-retain_keys t.filesets (is_live t) id (λ x tied. ap (is_live t) (sym (nat_cmp-IsAntisymmetric id x tied)))

same_live : (old new : Table) → IsUnseen old new → (id : ℕ) → live_of (map.get new.filesets id) ≡ live_of (map.get old.filesets id)
same_live old new unseen id =
    elim (is_gone old id) as (λ b. is_gone old id ≡ b → live_of (map.get new.filesets id) ≡ live_of (map.get old.filesets id)) [
      | false ↦ λ kept. ap live_of (unseen.filesets id kept)
      | true ↦ λ gone. elim (unseen.gone id gone) [
        | inl same ↦ ap live_of same
        | inr none ↦ ap live_of none ∙ sym (ap (λ (b : Bool). cond b (map.get old.filesets id) None) (gone_not_live old id gone))
      ]
    ] refl

live_maps : (old new : Table) → IsUnseen old new → live_map new ≡ live_map old
live_maps old new unseen = map.same_map nat_cmp_total nat_cmp-IsAntisymmetric (live_map new) (live_map old) (λ id. get-live_map new id ∙ same_live old new unseen id ∙ sym (get-live_map old id))

-- ---- what such a checkpoint has

pub record IsLiveFileset (t : Table) (id : ℕ) (fileset : Fileset) : Type 0 where
  pub stands : map.get t.filesets id ≡ Some fileset
  pub live : is_live t id ≡ true

of_live : (o : Option Fileset) (fileset : Fileset) → live_of o ≡ Some fileset → (o ≡ Some fileset) × (option_map_or (λ (f : Fileset). not f.gone) o false ≡ true)
of_live None fileset h = absurd (none_some fileset h)
of_live (Some f) fileset h =
    elim (not f.gone) as (λ b. cond b (Some f) None ≡ Some fileset → (◌≡◌ {A = Option Fileset} (Some f) (Some fileset)) × (b ≡ true)) [
      | true ↦ λ same. (same, refl)
      | false ↦ λ none. absurd (none_some fileset none)
    ] h

live_fileset : (t : Table) (id : ℕ) (fileset : Fileset) → map.get (live_map t) id ≡ Some fileset → IsLiveFileset t id fileset
live_fileset t id fileset found =
    let parts = of_live (map.get t.filesets id) fileset (sym (get-live_map t id) ∙ found) in
    record { stands = parts.0; live = parts.1 }

any_among : (p : ℕ → Bool) (x : ℕ) (xs ys : List ℕ) → p x ≡ true → list_any p (xs ++ x ∷ ys) ≡ true
any_among p x [] ys h = ap (λ b. b || list_any p ys) h
any_among p x (y ∷ xs) ys h =
    let rest = any_among p x xs ys h in
    elim (p y) as (λ b. (b || list_any p (xs ++ x ∷ ys)) ≡ true) [ true ↦ refl | false ↦ rest ]

-- one that keeps its files keeps data
keeps_itself : (t : Table) (id : ℕ) (fileset : Fileset) → IsTable t → IsLiveFileset t id fileset → keeps_files fileset.kind ≡ true → keeps_data t id ≡ true
keeps_itself t id fileset lawful is keeps =
    let least = (lawful.filesets id fileset is.stands).some in
    let itself : nat_le id id ≡ true = grind (arith, nat_tests) in
    let own : is_live_data t id ≡ true =
    ap (λ o. option_map_or (λ (f : Fileset). not f.gone && keeps_files f.kind) o false) is.stands
    ∙ and_from (not fileset.gone) (keeps_files fileset.kind) (sym (live_is t id fileset is.stands) ∙ is.live) keeps in
    ap (list_any (λ x. nat_le x id && is_live_data t x)) (newer_split t 0 id (omega (arith, least)) (ap is_some is.stands))
    ∙ any_among (λ x. nat_le x id && is_live_data t x) id (filter (in_between 0 id) (map.keys t.filesets)) (newer t id) (and_from (nat_le id id) (is_live_data t id) itself own)

value_at_some : (t : Table) (id : ℕ) (q : Key) → 1 ≤ id → value_at t id q ≡ value_of t id q
value_at_some t id q some = let apart : nat_eq id 0 ≡ false = grind (arith, nat_tests) in ap (λ b. cond b (present (column t q 0)) (value_of t id q)) apart

get-values : (store : Store) (t : Table) (id : ℕ) (q : Key) → map.get (cells_on store (values_of t id)) q ≡ option_map (cell_on store) (value_at t id q)
get-values store t id q = get-cells_on store (values_of t id) q ∙ ap (option_map (cell_on store)) (get-values_of t id q)

-- the same values stand for the same cells
same_cells : (store : Store) (old new : Table) (id : ℕ) → ((q : Key) → value_at new id q ≡ value_at old id q) → cells_on store (values_of new id) ≡ cells_on store (values_of old id)
same_cells store old new id same =
    map.same_map key_cmp_total key_cmp_exact (cells_on store (values_of new id)) (cells_on store (values_of old id)) (λ q.
    get-values store new id q ∙ ap (option_map (cell_on store)) (same q) ∙ sym (get-values store old id q))

-- ---- blocks as marks

marked_again : (o : Option Held) → option_map as_mark (option_map as_mark o) ≡ option_map as_mark o
marked_again None = refl
marked_again (Some Absent) = refl
marked_again (Some (Plain stamp small)) = refl
marked_again (Some (Extent stamp block)) = refl
marked_again (Some (Mark stamp)) = refl

-- what is seen and what is there have the same marks
seen_marks : (t : Table) (id : ℕ) (q : Key) → option_map as_mark (seen t id q) ≡ option_map as_mark (value_of t id q)
seen_marks t id q = elim (keeps_data t id) as (λ b. option_map as_mark (if b then value_of t id q else option_map as_mark (value_of t id q)) ≡ option_map as_mark (value_of t id q)) [
  | true ↦ refl
  | false ↦ marked_again (value_of t id q)
]

first_has : (P : Held → Type 0) (c : ℕ → Option Held) (ids : List ℕ) → ((x : ℕ) → IfSome (c x) P) → IfSome (first_entry c ids) P
first_has P c [] each = each 0
first_has P c (x ∷ ids) each = elim (c x) as (λ o. IfSome o P → IfSome (option_or o (first_entry c ids)) P) [
  | None ↦ λ _. first_has P c ids each
  | Some held ↦ λ h. h
] (each x)

present_has : (P : Held → Type 0) (o : Option Held) → IfSome o P → IfSome (present o) P
present_has P None h = tt
present_has P (Some Absent) h = tt
present_has P (Some (Plain stamp small)) h = h
present_has P (Some (Extent stamp block)) h = h
present_has P (Some (Mark stamp)) h = h

-- a value is an entry that a table may have at its key
value_entry : (t : Table) (id : ℕ) (q : Key) → IsTable t → IfSome (value_of t id q) (IsEntry q)
value_entry t id q lawful = present_has (IsEntry q) (first_entry (column t q) (id ∷ newer t id)) (first_has (IsEntry q) (column t q) (id ∷ newer t id) (λ x.
    elim (column t q x) as (λ o. column t q x ≡ o → IfSome o (IsEntry q)) [ None ↦ λ _. tt | Some held ↦ λ at. (lawful.entries x q held at).1 ] refl))

extent_marked : (store : Store) (q : Key) (stamp block : ℕ) → IsEntry q (Extent stamp block) → mark_of q (cell_on store (Extent stamp block)) ≡ mark_of q (cell_on store (Mark stamp))
extent_marked store (Name directory name) stamp block is = absurd is.value
extent_marked store (Node number) stamp block is = absurd is.value
extent_marked store (Block number index) stamp block is = refl

-- a data block's cell is a mark there, as that of its mark
cell_marked : (store : Store) (q : Key) (o : Option Held) → IfSome o (IsEntry q) → option_map (mark_of q) (option_map (cell_on store) o) ≡ option_map (mark_of q) (option_map (cell_on store) (option_map as_mark o))
cell_marked store q None is = refl
cell_marked store q (Some Absent) is = refl
cell_marked store q (Some (Plain stamp small)) is = refl
cell_marked store q (Some (Extent stamp block)) is = ap (λ (cell : Cell). Some cell) (extent_marked store q stamp block is)
cell_marked store q (Some (Mark stamp)) is = refl

get-marks : (store : Store) (t : Table) (id : ℕ) (q : Key) → IsTable t → 1 ≤ id → map.get (marked (cells_on store (values_of t id))) q ≡ option_map (mark_of q) (option_map (cell_on store) (option_map as_mark (value_of t id q)))
get-marks store t id q lawful some =
    get-marked (cells_on store (values_of t id)) q
    ∙ ap (option_map (mark_of q)) (get-values store t id q ∙ ap (option_map (cell_on store)) (value_at_some t id q some))
    ∙ cell_marked store q (value_of t id q) (value_entry t id q lawful)

-- ---- the world

module _ (old new : Table) (lawful : IsTable old) (again : IsTable new) (unseen : IsUnseen old new) where
  kept_value : (id : ℕ) (fileset : Fileset) (q : Key) → IsLiveFileset old id fileset → IsLiveFileset new id fileset → keeps_files fileset.kind ≡ true → value_of new id q ≡ value_of old id q
  kept_value id fileset q before is keeps =
      let seen_as : (t : Table) → keeps_data t id ≡ true → seen t id q ≡ value_of t id q = λ t keeping. ap (λ b. if b then value_of t id q else option_map as_mark (value_of t id q)) keeping in
      sym (seen_as new (keeps_itself new id fileset again is keeps))
      ∙ unseen.seen id q before.live
      ∙ seen_as old (keeps_itself old id fileset lawful before keeps)

  kept_marks : (store : Store) (id : ℕ) (fileset : Fileset) → IsLiveFileset old id fileset → marked (cells_on store (values_of new id)) ≡ marked (cells_on store (values_of old id))
  kept_marks store id fileset before =
      let some = (lawful.filesets id fileset before.stands).some in
      map.same_map key_cmp_total key_cmp_exact (marked (cells_on store (values_of new id))) (marked (cells_on store (values_of old id))) (λ q.
      get-marks store new id q again some
      ∙ ap (λ o. option_map (mark_of q) (option_map (cell_on store) o)) (sym (seen_marks new id q) ∙ ap (option_map as_mark) (unseen.seen id q before.live) ∙ seen_marks old id q)
      ∙ sym (get-marks store old id q lawful some))

  kept_cells : (store : Store) (id : ℕ) (fileset : Fileset) → IsLiveFileset old id fileset → IsLiveFileset new id fileset → shown_by fileset.kind (cells_on store (values_of new id)) ≡ shown_by fileset.kind (cells_on store (values_of old id))
  kept_cells store id fileset before is =
      elim fileset.kind as (λ kind. fileset.kind ≡ kind → shown_by kind (cells_on store (values_of new id)) ≡ shown_by kind (cells_on store (values_of old id))) [
        | Keeping ↦ λ keeping.
            let some = (lawful.filesets id fileset before.stands).some in
            same_cells store old new id (λ q. value_at_some new id q some ∙ kept_value id fileset q before is (ap keeps_files keeping) ∙ sym (value_at_some old id q some))
        | Nodata ↦ λ _. kept_marks store id fileset before
      ] refl

  kept_all : (store : Store) (es : List (ℕ × Fileset)) → AllByRecursion (λ e. IsLiveFileset old e.0 e.1 × IsLiveFileset new e.0 e.1) es
      → list_map (λ e. checkpoint_on store new e.0 e.1) es ≡ list_map (λ (e : ℕ × Fileset). checkpoint_on store old e.0 e.1) es
  kept_all store [] all = refl
  kept_all store (e ∷ es) all =
      let cells = kept_cells store e.0 e.1 all.0.0 all.0.1 in
      let rest = kept_all store es all.1 in
      λ i. record { id = e.0; name = e.1.name; kind = e.1.kind; removable = e.1.removable; ctime = e.1.ctime; cells = cells i } ∷ rest i

  checkpoints_kept : (store : Store) → checkpoints_on store new ≡ checkpoints_on store old
  checkpoints_kept store =
      let maps = live_maps old new unseen in
      let all = all_found nat_cmp_total nat_cmp-IsAntisymmetric (λ e. IsLiveFileset old e.0 e.1 × IsLiveFileset new e.0 e.1) (map.entries (live_map old)) (entries_sorted (live_map old)) (λ id f found.
      let at : map.get (live_map old) id ≡ Some f = map.get-entries (live_map old) id ∙ found in
      (live_fileset old id f at, live_fileset new id f (ap (λ (m : Filesets). map.get m id) maps ∙ at))) in
      ap (list_map (λ (e : ℕ × Fileset). checkpoint_on store new e.0 e.1)) (live_filesets-map new ∙ ap (λ (m : Filesets). map.entries m) maps)
      ∙ kept_all store (map.entries (live_map old)) all
      ∙ ap (list_map (λ (e : ℕ × Fileset). checkpoint_on store old e.0 e.1)) (sym (live_filesets-map old))

  primary_kept : (store : Store) → cells_on store (values_of new 0) ≡ cells_on store (values_of old 0)
  primary_kept store = same_cells store old new 0 (λ q. ap present (unseen.primary q))

  -- the table stands for the same world, whatever the data blocks hold
  pub unseen_world : (store : Store) (mounts : Mounts) → world_on store mounts new ≡ world_on store mounts old
  unseen_world store mounts =
      let primary = primary_kept store in
      let checkpoints = checkpoints_kept store in
      λ i. record {
        limits = record { blocks = unseen.blocks i; records = unseen.limit i; checkpoints = checkpoint_limit };
        primary = primary i;
        checkpoints = checkpoints i;
        next = unseen.counters i;
        mounts = mounts;
      }
