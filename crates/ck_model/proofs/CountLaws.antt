-- A table whose checkpoints are all live has as many records as its world takes, and names as many data blocks where no more are left to drop.
use Rattle.std.proofs.Common.{◌≡◌, ◌≢◌, ℕ, ◌+◌, ◌<◌, ◌≤◌, Bool, true, false, not, cond, T, ◌&&◌, ◌||◌, IsSome, IsSomeAnd, is_some, if◌then◌else◌, List, [], ◌∷◌, ◌++◌, map as list_map, filter, length, Option, Some, None, nat_lt, nat_le, nat_eq, refl, sym, ap, subst, ◌∙◌, ◌⊎◌, inl, inr, arith}
use Rattle.std.specs.Bool.{⊤}
use Rattle.std.specs.Ordering.{nat_cmp, is_lt}
use Rattle.std.specs.Option.{option_or, option_map, option_map_or}
use Rattle.std.specs.List.{list_any, AllByRecursion}
use Rattle.std.specs.FinMap.{nat_cmp-IsAntisymmetric, is_sorted, entries_sorted, find}
use Rattle.std.specs.FinMap.Entries.{below_all}
use Rattle.std.specs.FinMap as map
use Rattle.std.proofs.lemmas.Bool.Decides.{nat_tests}
use Rattle.std.proofs.lemmas.Cmp.{nat_cmp_total}
use mathlib.Core.Bool.{false≢true}
use Rattle.ck_model.specs.declared.key.Key.{Key}
use Rattle.ck_model.specs.declared.key.Key.TheVariants.{Name, Node, Block}
use Rattle.ck_model.specs.declared.cell.Cell.{Cell}
use Rattle.ck_model.specs.declared.held.Held.{Held}
use Rattle.ck_model.specs.declared.held.Held.TheVariants.{Absent, Plain, Extent, Mark}
use Rattle.ck_model.specs.declared.held.Small.TheVariants.{To, File, Dir}
use Rattle.ck_model.specs.declared.checkpoint.Fileset.{Fileset}
use Rattle.ck_model.specs.declared.checkpoint.Kind.{Kind}
use Rattle.ck_model.specs.declared.checkpoint.Kind.TheVariants.{Keeping, Nodata}
use Rattle.ck_model.specs.Key.{key_cmp, key_cmp_total, key_cmp_exact, entry_cmp_total, entry_cmp_exact, is_block}
use Rattle.ck_model.specs.Held.{BelongsTo}
use Rattle.ck_model.specs.Cells.{Cells, differs, differences}
use Rattle.ck_model.specs.World.{Checkpoint, Mounts, keeps_files, shown_by}
use Rattle.ck_model.specs.Space.{next_cells, difference_count, records_in, block_count, own_block_count, held_by, held}
use Rattle.ck_model.specs.Table.{Table, IsTable, column, newer, record_count}
use Rattle.ck_model.specs.Chain.{first_entry, present, value_of, value_at, is_live, is_gone, is_live_data, keeps_data}
use Rattle.ck_model.specs.Rules.{IsSound, IsOwn, first_holder, stamp_in}
use Rattle.ck_model.specs.Values.{Store, cell_on, cells_on}
use Rattle.ck_model.specs.TableWorld.{values_of, checkpoint_on, live_filesets, checkpoints_on, world_on, blocks_in, blocks_of, extent_count}
use Rattle.ck_model.specs.Rows.{row_of, total, times}
use Rattle.ck_model.specs.Placed.{Follow, NoneGone, ArePlaced, AllStripped}
use Rattle.ck_model.proofs.CellLaws.{get-marked, differs-mark_of, differs-itself, contains_key-differences}
use Rattle.ck_model.proofs.DifferenceLaws.{differs_from_mark}
use Rattle.ck_model.proofs.SizeLaws.{len_same_keys, len-retain_keys, contains_key-retain_keys}
use Rattle.ck_model.proofs.ValueLaws.{get-values_of, get-cells_on}
use Rattle.ck_model.proofs.RowLaws.{find-row_of, is_sorted-row_of, total-rows}
use Rattle.ck_model.proofs.CaseLaws.{head_of}
use Rattle.ck_model.proofs.FilesetLaws.{follow_newer, all_found, times-none, times-once}

-- ---- one fileset's entries

weighed : {X : Type 0} (weight : X → ℕ) (p : Key → Bool) (es : List (Key × X)) → AllByRecursion (λ e. weight e.1 ≡ (if p e.0 then 1 else 0)) es → total (λ x. weight x.1) es ≡ length (filter (λ e. p e.0) es)
weighed weight p [] all = refl
weighed weight p (e ∷ es) all =
    let rest = weighed weight p es all.1 in
    elim (p e.0) as (λ b. weight e.1 ≡ (if b then 1 else 0) → weight e.1 + total (λ x. weight x.1) es ≡ length (cond b (e ∷ filter (λ e. p e.0) es) (filter (λ e. p e.0) es))) [
      | true ↦ λ h. omega (arith, h, rest)
      | false ↦ λ h. omega (arith, h, rest)
    ] all.0

-- entries in order, of those whose keys pass, are as many as a map's keys
pub counted_as : {X Y : Type 0} (weight : X → ℕ) (p : Key → Bool) (es : List (Key × X)) (m : map.FinMap key_cmp Y) → T (is_sorted key_cmp es)
    → ((key : Key) (x : X) → find key_cmp key es ≡ Some x → weight x ≡ (if p key then 1 else 0))
    → ((q : Key) → map.contains_key m q ≡ (p q && is_some (find key_cmp q es)))
    → total (λ x. weight x.1) es ≡ map.len m
counted_as {X} weight p es m sorted each same =
    weighed weight p es (all_found key_cmp_total key_cmp_exact (λ e. weight e.1 ≡ (if p e.0 then 1 else 0)) es sorted each)
    ∙ ap (λ l. length (filter (λ (e : Key × X). p e.0) l)) (sym (map.entries-from_sorted key_cmp es sorted))
    ∙ sym (len-retain_keys key_cmp_total key_cmp_exact (map.from_sorted {R = key_cmp} es) p)
    ∙ len_same_keys key_cmp_total key_cmp_exact (map.retain_keys (map.from_sorted es) p) m (λ q.
    contains_key-retain_keys key_cmp_total key_cmp_exact (map.from_sorted es) p q
    ∙ ap (λ o. p q && is_some o) (map.get-from_sorted key_cmp es q sorted)
    ∙ sym (same q))

-- a fileset's entries, of those whose keys pass
row_counts : {Y : Type 0} (t : Table) (fs : ℕ) (weight : Held → ℕ) (p : Key → Bool) (m : map.FinMap key_cmp Y)
    → ((key : Key) (h : Held) → column t key fs ≡ Some h → weight h ≡ (if p key then 1 else 0))
    → ((q : Key) → map.contains_key m q ≡ (p q && is_some (column t q fs)))
    → total (λ x. weight x.1) (row_of t fs) ≡ map.len m
row_counts t fs weight p m each same =
    counted_as weight p (row_of t fs) m (is_sorted-row_of t fs)
    (λ key h found. each key h (sym (find-row_of t fs key) ∙ found))
    (λ q. same q ∙ ap (λ o. p q && is_some o) (sym (find-row_of t fs q)))

-- ---- all filesets

module _ (t : Table) (lawful : IsTable t) (sound : IsSound t) where
  no_zero : find nat_cmp 0 (map.entries t.filesets) ≡ None
  no_zero =
      elim (map.get t.filesets 0) as (λ o. map.get t.filesets 0 ≡ o → find nat_cmp 0 (map.entries t.filesets) ≡ None) [
        | None ↦ λ is. sym (map.get-entries t.filesets 0) ∙ is
        | Some f ↦ λ is. absurd (let some = (lawful.filesets 0 f is).some in omega (arith, some))
      ] refl

  home_once : (fs : ℕ) → (fs ≡ 0) ⊎ IsSome (map.get t.filesets fs) → times fs (0 ∷ map.keys t.filesets) ≡ 1
  home_once fs (inl zero) =
      let none = times-none 0 (map.entries t.filesets) no_zero in
      ap (λ g. times g (0 ∷ map.keys t.filesets)) zero ∙ omega (arith, none)
  home_once fs (inr some) =
      elim (nat_eq fs 0) as (λ b. nat_eq fs 0 ≡ b → (if b then 1 else 0) + times fs (map.keys t.filesets) ≡ 1) [
        | true ↦ λ same. let zero : fs ≡ 0 = grind (arith, nat_tests) in
            absurd (false≢true (ap is_some (sym no_zero ∙ sym (map.get-entries t.filesets 0) ∙ ap (map.get t.filesets) (sym zero)) ∙ some))
        | false ↦ λ _. let once = times-once fs (map.entries t.filesets) (entries_sorted t.filesets) (subst IsSome (map.get-entries t.filesets fs) some) in omega (arith, once)
      ] refl

  some_is : {X : Type 0} (o : Option X) (x : X) → o ≡ Some x → IsSome o
  some_is o x h = ap is_some h

  -- what all entries count is what the primary's and each checkpoint's count
  pub all_rows : (weight : Held → ℕ) → total (λ e. weight e.1) (map.entries t.entries) ≡ total (λ x. weight x.1) (row_of t 0) + total (λ fs. total (λ x. weight x.1) (row_of t fs)) (map.keys t.filesets)
  all_rows weight =
      total-rows weight (0 ∷ map.keys t.filesets) (map.entries t.entries)
      (all_found entry_cmp_total entry_cmp_exact (λ e. times e.0.0 (0 ∷ map.keys t.filesets) ≡ 1) (map.entries t.entries) (entries_sorted t.entries) (λ place h found.
      home_once place.0 (sound.orderly.homes place.0 place.1 (some_is (column t place.1 place.0) h (map.get-entries t.entries place ∙ found)))))

-- ---- what a checkpoint holds beside the next newer map

-- the fileset stands among these
abbrev Among : ℕ → List ℕ → Type 0
Among g [] = ⊥
Among g (id ∷ ids) = (g ≡ id) ⊎ Among g ids

among_passes : (p : ℕ → Bool) (g : ℕ) (ids : List ℕ) → Among g (filter p ids) → p g ≡ true
among_passes p g [] h = absurd h
among_passes p g (id ∷ ids) h =
    elim (p id) as (λ b. p id ≡ b → Among g (cond b (id ∷ filter p ids) (filter p ids)) → p g ≡ true) [
      | true ↦ λ is h. elim h [
        | inl same ↦ ap p same ∙ is
        | inr rest ↦ among_passes p g ids rest
      ]
      | false ↦ λ _ h. among_passes p g ids h
    ] refl h

-- the fileset whose entry is read
record Holder (col : ℕ → Option Held) (ids : List ℕ) (x : Held) : Type 0 where
  at : ℕ
  has : col at ≡ Some x
  first : first_holder col ids ≡ Some (at, x)
  where_is : (at ≡ 0) ⊎ Among at ids

behind : {col : ℕ → Option Held} {ids : List ℕ} {x : Held} (id : ℕ) → col id ≡ None → Holder col ids x → Holder col (id ∷ ids) x
behind {col} {ids} {x} id none h = record {
  at = h.at;
  has = h.has;
  first = ap (λ o. option_or (option_map (λ entry. (id, entry)) o) (first_holder col ids)) none ∙ h.first;
  where_is = elim h.where_is [ inl zero ↦ inl zero | inr among ↦ inr (inr among) ];
}

holder : (col : ℕ → Option Held) (ids : List ℕ) (x : Held) → first_entry col ids ≡ Some x → Holder col ids x
holder col [] x h = record { at = 0; has = h; first = ap (option_map (λ entry. (0, entry))) h; where_is = inl refl }
holder col (id ∷ ids) x h =
    elim (col id) as (λ o. col id ≡ o → option_or o (first_entry col ids) ≡ Some x → Holder col (id ∷ ids) x) [
      | None ↦ λ none rest. behind id none (holder col ids x rest)
      | Some y ↦ λ is same. record {
        at = id;
        has = is ∙ same;
        first = ap (λ o. option_or (option_map (λ entry. (id, entry)) o) (first_holder col ids)) (is ∙ same);
        where_is = inr (inl refl);
      }
    ] refl h

no_holder : (col : ℕ → Option Held) (ids : List ℕ) → first_entry col ids ≡ None → first_holder col ids ≡ None
no_holder col [] h = ap (option_map (λ entry. (0, entry))) h
no_holder col (id ∷ ids) h =
    elim (col id) as (λ o. option_or o (first_entry col ids) ≡ None → option_or (option_map (λ entry. (id, entry)) o) (first_holder col ids) ≡ None) [
      | None ↦ λ rest. no_holder col ids rest
      | Some y ↦ λ clash. absurd (false≢true (ap is_some (sym clash)))
    ] h

-- the cell that is read of an entry
abbrev read_on : Store → Option Held → Option Cell
read_on store o = option_map (cell_on store) (present o)

stamped : (store : Store) (h : Held) (stamp : ℕ) → stamp_in h ≡ Some stamp → read_on store (Some h) ≡ Some (cell_on store h)
stamped store Absent stamp is = absurd (false≢true (ap is_some is))
stamped store (Plain s small) stamp is = refl
stamped store (Extent s block) stamp is = refl
stamped store (Mark s) stamp is = refl

stamp_is : (store : Store) (h : Held) (stamp : ℕ) → stamp_in h ≡ Some stamp → (cell_on store h).stamp ≡ stamp
stamp_is store Absent stamp is = absurd (false≢true (ap is_some is))
stamp_is store (Plain s small) stamp is = cc
stamp_is store (Extent s block) stamp is = cc
stamp_is store (Mark s) stamp is = cc

-- an entry is absent, or of a version
absent_or : (h : Held) → (h ≡ Absent) ⊎ ((stamp : ℕ) × (stamp_in h ≡ Some stamp))
absent_or Absent = inl refl
absent_or (Plain s small) = inr (s, refl)
absent_or (Extent s block) = inr (s, refl)
absent_or (Mark s) = inr (s, refl)

-- an entry stands exactly where the map and the next one differ
entry_differs : (store : Store) (own next : Option Held) → ((h : Held) → own ≡ Some h → differs (read_on store (Some h)) (read_on store next) ≡ true)
    → is_some own ≡ differs (read_on store (option_or own next)) (read_on store next)
entry_differs store None next tidy = sym (differs-itself (read_on store next))
entry_differs store (Some h) next tidy = sym (tidy h refl)

-- versions that are told apart differ
stamps_differ : (store : Store) (h x : Held) (s r : ℕ) → stamp_in h ≡ Some s → stamp_in x ≡ Some r → s ≢ r → differs (Some (cell_on store h)) (Some (cell_on store x)) ≡ true
stamps_differ store h x s r hs xr apart =
    let one = stamp_is store h s hs in
    let two = stamp_is store x r xr in
    let other : (cell_on store h).stamp ≢ (cell_on store x).stamp = λ same. apart (sym one ∙ same ∙ two) in
    grind (arith, nat_tests, other)

shown_left : (kind : Kind) (a : Cells) (q : Key) (p : Option Cell) → differs (map.get (shown_by kind a) q) p ≡ differs (map.get a q) p
shown_left Keeping a q p = refl
shown_left Nodata a q p = ap (λ o. differs o p) (get-marked a q) ∙ differs-mark_of q (map.get a q) p

shown_right : (kind : Kind) (b : Cells) (q : Key) (o : Option Cell) → differs o (map.get (shown_by kind b) q) ≡ differs o (map.get b q)
shown_right Keeping b q o = refl
shown_right Nodata b q o = ap (differs o) (get-marked b q) ∙ differs_from_mark q o (map.get b q)

module _ (t : Table) (lawful : IsTable t) where
  placed : (es : List (ℕ × Fileset)) → Follow (newer t) es → AllByRecursion (λ e. map.get t.filesets e.0 ≡ Some e.1) es → ArePlaced t es
  placed [] follow stand = tt
  placed (e ∷ es) follow stand = (record { newer = follow.0; some = (lawful.filesets e.0 e.1 stand.0).some; stands = stand.0 }, placed es follow.1 stand.1)

  -- all checkpoints of a table are placed
  pub all_placed : ArePlaced t (map.entries t.filesets)
  all_placed = placed (map.entries t.filesets) (follow_newer t)
      (all_found nat_cmp_total nat_cmp-IsAntisymmetric (λ e. map.get t.filesets e.0 ≡ Some e.1) (map.entries t.filesets) (entries_sorted t.filesets) (λ id f found. map.get-entries t.filesets id ∙ found))

value_at_some : (t : Table) (id : ℕ) (q : Key) → 1 ≤ id → value_at t id q ≡ value_of t id q
value_at_some t id q some = let apart : nat_eq id 0 ≡ false = grind (arith, nat_tests) in ap (λ b. cond b (present (column t q 0)) (value_of t id q)) apart

-- what a checkpoint's map has at a key
get-checkpoint : (store : Store) (t : Table) (id : ℕ) (q : Key) → 1 ≤ id → map.get (cells_on store (values_of t id)) q ≡ read_on store (first_entry (column t q) (id ∷ newer t id))
get-checkpoint store t id q some =
    get-cells_on store (values_of t id) q
    ∙ ap (option_map (cell_on store)) (get-values_of t id q ∙ value_at_some t id q some)

get-primary : (store : Store) (t : Table) (q : Key) → map.get (cells_on store (values_of t 0)) q ≡ read_on store (column t q 0)
get-primary store t q = get-cells_on store (values_of t 0) q ∙ ap (option_map (cell_on store)) (get-values_of t 0 q)

abbrev checkpoints_of : Store → Table → List (ℕ × Fileset) → List Checkpoint
checkpoints_of store t es = list_map (λ e. checkpoint_on store t e.0 e.1) es

-- the next newer map, as others differ from it
next_differs : (store : Store) (t : Table) (es : List (ℕ × Fileset)) → ArePlaced t es → (q : Key) (o : Option Cell)
    → differs o (map.get (next_cells (cells_on store (values_of t 0)) (checkpoints_of store t es)) q) ≡ differs o (read_on store (first_entry (column t q) (list_map (λ e. e.0) es)))
next_differs store t [] stand q o = ap (differs o) (get-primary store t q)
next_differs store t (e ∷ es) stand q o =
    shown_right e.1.kind (cells_on store (values_of t e.0)) q o
    ∙ ap (differs o) (get-checkpoint store t e.0 q stand.0.some ∙ ap (λ ids. read_on store (first_entry (column t q) (e.0 ∷ ids))) stand.0.newer)

module _ (t : Table) (lawful : IsTable t) (sound : IsSound t) (none : NoneGone t) where
  not_gone : (g : ℕ) → is_gone t g ≡ true → ⊥
  not_gone g h =
      elim (map.get t.filesets g) as (λ o. map.get t.filesets g ≡ o → option_map_or (λ fileset. fileset.gone) o false ≡ true → ⊥) [
        | None ↦ λ _ clash. false≢true clash
        | Some f ↦ λ is gone. false≢true (sym (none g f is) ∙ gone)
      ] refl h

  live_there : (id : ℕ) (f : Fileset) → map.get t.filesets id ≡ Some f → is_live t id ≡ true
  live_there id f is = ap (λ o. option_map_or (λ (fileset : Fileset). not fileset.gone) o false) is ∙ ap not (none id f is)

  -- an absent is read past to something else
  after_absent : (store : Store) (q : Key) (id : ℕ) → is_live t id ≡ true → column t q id ≡ Some Absent → (o : Option Held) → first_entry (column t q) (newer t id) ≡ o → differs None (read_on store o) ≡ true
  after_absent store q id live has None is =
      absurd (subst (λ o. IsSomeAnd o (λ (e : ℕ × Held). (is_gone t e.0 ≡ true) ⊎ (e.1 ≢ Absent))) (no_holder (column t q) (newer t id) is) (sound.absents id q live has))
  after_absent store q id live has (Some x) is =
      let h = holder (column t q) (newer t id) x is in
      let needed : (is_gone t h.at ≡ true) ⊎ (x ≢ Absent) = subst (λ o. IsSomeAnd o (λ (e : ℕ × Held). (is_gone t e.0 ≡ true) ⊎ (e.1 ≢ Absent))) h.first (sound.absents id q live has) in
      elim needed [
        | inl gone ↦ absurd (not_gone h.at gone)
        | inr present ↦ elim (absent_or x) [
          | inl absent ↦ absurd (present absent)
          | inr version ↦ ap (differs None) (stamped store x version.0 version.1)
        ]
      ]

  -- two versions of a key are apart
  other_fileset : (q : Key) (id : ℕ) (h x : Held) (s : ℕ) → 1 ≤ id → column t q id ≡ Some h → Holder (column t q) (newer t id) x → stamp_in h ≡ Some s → stamp_in x ≡ Some s → ⊥
  other_fileset q id h x s some has g hs xs =
      let same : id ≡ g.at = sound.orderly.versions id g.at q h x s has g.has hs xs in
      elim g.where_is [
        | inl zero ↦ omega (arith, some, same, zero)
        | inr among ↦ let past : nat_lt id g.at ≡ true = among_passes (λ x. nat_lt id x) g.at (map.keys t.filesets) among in
            let less : id < g.at = grind (arith, nat_tests) in omega (arith, same, less)
      ]

  after_version : (store : Store) (q : Key) (id : ℕ) (h : Held) (s : ℕ) → 1 ≤ id → column t q id ≡ Some h → stamp_in h ≡ Some s → (o : Option Held) → first_entry (column t q) (newer t id) ≡ o → differs (Some (cell_on store h)) (read_on store o) ≡ true
  after_version store q id h s some has hs None is = refl
  after_version store q id h s some has hs (Some x) is =
      elim (absent_or x) [
        | inl absent ↦ ap (λ y. differs (Some (cell_on store h)) (read_on store (Some y))) absent
        | inr version ↦ ap (differs (Some (cell_on store h))) (stamped store x version.0 version.1)
            ∙ stamps_differ store h x s version.0 hs version.1 (λ same. other_fileset q id h x s some has (holder (column t q) (newer t id) x is) hs (version.1 ∙ ap (λ n. Some n) (sym same)))
      ]

  -- each entry says something else than what is newer
  says_else : (store : Store) (q : Key) (id : ℕ) (f : Fileset) → map.get t.filesets id ≡ Some f → 1 ≤ id → (h : Held) → column t q id ≡ Some h → differs (read_on store (Some h)) (read_on store (first_entry (column t q) (newer t id))) ≡ true
  says_else store q id f there some h has =
      elim (absent_or h) [
        | inl absent ↦ ap (λ y. differs (read_on store (Some y)) (read_on store (first_entry (column t q) (newer t id)))) absent
            ∙ after_absent store q id (live_there id f there) (has ∙ ap (λ y. Some y) absent) (first_entry (column t q) (newer t id)) refl
        | inr version ↦ ap (λ o. differs o (read_on store (first_entry (column t q) (newer t id)))) (stamped store h version.0 version.1)
            ∙ after_version store q id h version.0 some has version.1 (first_entry (column t q) (newer t id)) refl
      ]

  -- where a checkpoint's map and the next newer one differ, the checkpoint has an entry
  pub differs_where : (store : Store) (e : ℕ × Fileset) (es : List (ℕ × Fileset)) → ArePlaced t (e ∷ es) → (q : Key)
      → differs (map.get (checkpoint_on store t e.0 e.1).cells q) (map.get (next_cells (cells_on store (values_of t 0)) (checkpoints_of store t es)) q) ≡ is_some (column t q e.0)
  differs_where store e es stand q =
      let next = map.get (next_cells (cells_on store (values_of t 0)) (checkpoints_of store t es)) q in
      shown_left e.1.kind (cells_on store (values_of t e.0)) q next
      ∙ ap (λ o. differs o next) (get-checkpoint store t e.0 q stand.0.some)
      ∙ next_differs store t es stand.1 q (read_on store (first_entry (column t q) (e.0 ∷ newer t e.0)))
      ∙ ap (λ ids. differs (read_on store (first_entry (column t q) (e.0 ∷ newer t e.0))) (read_on store (first_entry (column t q) ids))) (sym stand.0.newer)
      ∙ sym (entry_differs store (column t q e.0) (first_entry (column t q) (newer t e.0)) (says_else store q e.0 e.1 stand.0.stands stand.0.some))

  differences_are : (store : Store) (es : List (ℕ × Fileset)) → ArePlaced t es → total (λ fs. total (λ x. 1) (row_of t fs)) (list_map (λ e. e.0) es) ≡ difference_count (cells_on store (values_of t 0)) (checkpoints_of store t es)
  differences_are store [] stand = refl
  differences_are store (e ∷ es) stand =
      let cells = (checkpoint_on store t e.0 e.1).cells in
      let next = next_cells (cells_on store (values_of t 0)) (checkpoints_of store t es) in
      let here : total (λ x. 1) (row_of t e.0) ≡ map.len (differences cells next) =
      row_counts t e.0 (λ _. 1) (λ _. true) (differences cells next) (λ key h has. refl) (λ q. contains_key-differences cells next q ∙ differs_where store e es stand q) in
      λ i. here i + differences_are store es stand.1 i

  primary_held : (store : Store) (q : Key) → map.contains_key (cells_on store (values_of t 0)) q ≡ is_some (column t q 0)
  primary_held store q = ap is_some (get-primary store t q) ∙
      elim (column t q 0) as (λ o. column t q 0 ≡ o → is_some (read_on store o) ≡ is_some o) [
        | None ↦ λ _. refl
        | Some h ↦ λ is. own_held h (sound.orderly.primary q h is)
      ] refl
    where
      own_held : (h : Held) → IsOwn h → is_some (read_on store (Some h)) ≡ true
      own_held Absent own = absurd own
      own_held (Plain s small) own = refl
      own_held (Extent s block) own = refl
      own_held (Mark s) own = absurd own

  all_live : (es : List (ℕ × Fileset)) → ArePlaced t es → filter (λ (e : ℕ × Fileset). not e.1.gone) es ≡ es
  all_live [] stand = refl
  all_live (e ∷ es) stand =
      ap (λ b. cond b (e ∷ filter (λ (e : ℕ × Fileset). not e.1.gone) es) (filter (λ (e : ℕ × Fileset). not e.1.gone) es)) (ap not (none e.0 e.1 stand.0.stands))
      ∙ ap (λ l. e ∷ l) (all_live es stand.1)

  -- all checkpoints are live
  pub live_all : live_filesets t ≡ map.entries t.filesets
  live_all = all_live (map.entries t.filesets) (all_placed t lawful)

total_ones : {X : Type 0} (xs : List X) → total (λ x. 1) xs ≡ length xs
total_ones [] = refl
total_ones (x ∷ xs) = omega (arith, total_ones xs)

length_mapped : {X Y : Type 0} (f : X → Y) (xs : List X) → length (list_map f xs) ≡ length xs
length_mapped f [] = refl
length_mapped f (x ∷ xs) = omega (arith, length_mapped f xs)

-- the table has as many records as its world takes
pub records_are : (store : Store) (mounts : Mounts) (t : Table) → IsTable t → IsSound t → NoneGone t → record_count t ≡ records_in (world_on store mounts t)
records_are store mounts t lawful sound none =
    let filesets = map.entries t.filesets in
    let stand = all_placed t lawful in
    let live : checkpoints_on store t ≡ checkpoints_of store t filesets = ap (checkpoints_of store t) (live_all t lawful sound none) in
    let primary : total (λ x. 1) (row_of t 0) ≡ map.len (cells_on store (values_of t 0)) =
    row_counts t 0 (λ _. 1) (λ _. true) (cells_on store (values_of t 0)) (λ key h has. refl) (primary_held t lawful sound none store) in
    let rest = differences_are t lawful sound none store filesets stand in
    let rows = all_rows t lawful sound (λ _. 1) in
    let entries : map.len t.entries ≡ total (λ e. 1) (map.entries t.entries) = map.len-entries t.entries ∙ sym (total_ones (map.entries t.entries)) in
    let count : length (checkpoints_of store t filesets) ≡ map.len t.filesets = length_mapped (λ (e : ℕ × Fileset). checkpoint_on store t e.0 e.1) filesets ∙ sym (map.len-entries t.filesets) in
    subst (λ cs. record_count t ≡ map.len (cells_on store (values_of t 0)) + difference_count (cells_on store (values_of t 0)) cs + length cs) (sym live) (omega (arith, primary, rest, rows, entries, count))

abbrev is_extent : Held → Bool
is_extent Absent = false
is_extent (Plain stamp small) = false
is_extent (Extent stamp block) = true
is_extent (Mark stamp) = false

abbrev is_extent_in : Option Held → Bool
is_extent_in None = false
is_extent_in (Some h) = is_extent h

abbrev named_count : Held → ℕ
named_count h = length (blocks_in h)

named_one : (h : Held) → named_count h ≡ (if is_extent h then 1 else 0)
named_one Absent = refl
named_one (Plain stamp small) = refl
named_one (Extent stamp block) = refl
named_one (Mark stamp) = refl

named_where : (t : Table) (fs : ℕ) (key : Key) (h : Held) → column t key fs ≡ Some h → named_count h ≡ (if is_extent_in (column t key fs) then 1 else 0)
named_where t fs key h has = named_one h ∙ ap (λ o. if is_extent_in o then 1 else 0) (sym has)

and_false : (b : Bool) → (b && false) ≡ false
and_false true = refl
and_false false = refl

and_nothing : (b c : Bool) → ((b && false) && c) ≡ false
and_nothing true c = refl
and_nothing false c = refl

-- data blocks stand at the keys of blocks
block_where : (store : Store) (q : Key) (h : Held) → BelongsTo q h → ((s : ℕ) → h ≡ Mark s → ⊥) → ((is_block q && true) && is_some (read_on store (Some h))) ≡ (is_extent h && true)
block_where store q Absent belongs no_mark = and_false (is_block q && true)
block_where store q (Mark s) belongs no_mark = absurd (no_mark s refl)
block_where store (Name d n) (Plain s small) belongs no_mark = refl
block_where store (Name d n) (Extent s b) belongs no_mark = absurd belongs
block_where store (Node n) (Plain s small) belongs no_mark = refl
block_where store (Node n) (Extent s b) belongs no_mark = absurd belongs
block_where store (Block n i) (Plain s (To node)) belongs no_mark = absurd belongs
block_where store (Block n i) (Plain s (File size)) belongs no_mark = absurd belongs
block_where store (Block n i) (Plain s Dir) belongs no_mark = absurd belongs
block_where store (Block n i) (Extent s b) belongs no_mark = refl

some_mapped : {X Y : Type 0} (f : X → Y) (o : Option X) → is_some (option_map f o) ≡ is_some o
some_mapped f None = refl
some_mapped f (Some x) = refl

contains-shown : (kind : Kind) (a : Cells) (q : Key) → map.contains_key (shown_by kind a) q ≡ map.contains_key a q
contains-shown Keeping a q = refl
contains-shown Nodata a q = ap is_some (get-marked a q) ∙ some_mapped _ (map.get a q)

-- whether each of these keeps data, where an older one does or not
abbrev KeepFrom : (ℕ → Bool) → Bool → List (ℕ × Fileset) → Type 0
KeepFrom keeps older [] = ⊤
KeepFrom keeps older (e ∷ es) = (keeps e.0 ≡ (older || keeps_files e.1.kind)) × KeepFrom keeps (older || keeps_files e.1.kind) es

abbrev any_upto : ℕ → List (ℕ × Fileset) → Bool
any_upto fs es = list_any (λ e. nat_le e.0 fs && keeps_files e.1.kind) es

above_head : (x y : ℕ) (b : Bool) → T (is_lt (nat_cmp x y) && b) → (x < y) × T b
above_head x y b h = grind (arith, nat_tests)

none_upto : (x : ℕ) (es : List (ℕ × Fileset)) → T (below_all nat_cmp x es) → any_upto x es ≡ false
none_upto x [] h = refl
none_upto x (e ∷ es) h =
    let head = above_head x e.0 (below_all nat_cmp x es) h in
    let past : nat_le e.0 x ≡ false = let less = head.0 in grind (arith, nat_tests) in
    ap (λ b. b && keeps_files e.1.kind || any_upto x es) past ∙ none_upto x es head.1

or_false : (b : Bool) → (b || false) ≡ b
or_false true = refl
or_false false = refl

or_assoc : (a b c : Bool) → (a || (b || c)) ≡ ((a || b) || c)
or_assoc true b c = refl
or_assoc false b c = refl

keep_alike : (f g : ℕ → Bool) (older : Bool) (x : ℕ) (es : List (ℕ × Fileset)) → T (below_all nat_cmp x es) → ((id : ℕ) → x < id → g id ≡ f id) → KeepFrom f older es → KeepFrom g older es
keep_alike f g older x [] below same h = tt
keep_alike f g older x (e ∷ es) below same h =
    let head = above_head x e.0 (below_all nat_cmp x es) below in
    (same e.0 head.0 ∙ h.0, keep_alike f g (older || keeps_files e.1.kind) x es head.1 same h.1)

keep_upto : (older : Bool) (es : List (ℕ × Fileset)) → T (is_sorted nat_cmp es) → KeepFrom (λ id. older || any_upto id es) older es
keep_upto older [] s = tt
keep_upto older (e ∷ es) s =
    let parts = head_of (below_all nat_cmp e.0 es) (is_sorted nat_cmp es) s in
    let keep = keeps_files e.1.kind in
    let self : nat_le e.0 e.0 ≡ true = grind (arith, nat_tests) in (
      ap (λ b. older || (b && keep || any_upto e.0 es)) self ∙ ap (λ b. older || (keep || b)) (none_upto e.0 es parts.0) ∙ ap (λ b. older || b) (or_false keep),
      keep_alike (λ id. (older || keep) || any_upto id es) (λ id. older || any_upto id (e ∷ es)) (older || keep) e.0 es parts.0
          (λ id less. let upto : nat_le e.0 id ≡ true = grind (arith, nat_tests) in ap (λ b. older || (b && keep || any_upto id es)) upto ∙ or_assoc older keep (any_upto id es))
          (keep_upto (older || keep) es parts.1),
    )

module _ (t : Table) (lawful : IsTable t) (sound : IsSound t) (none : NoneGone t) where
  all_newer : (es : List (ℕ × Fileset)) → ArePlaced t es → filter (λ id. nat_lt 0 id) (list_map (λ e. e.0) es) ≡ list_map (λ (e : ℕ × Fileset). e.0) es
  all_newer [] stand = refl
  all_newer (e ∷ es) stand =
      let some : nat_lt 0 e.0 ≡ true = let low = stand.0.some in grind (arith, nat_tests) in
      ap (λ b. cond b (e.0 ∷ filter (λ id. nat_lt 0 id) (list_map (λ e. e.0) es)) (filter (λ id. nat_lt 0 id) (list_map (λ e. e.0) es))) some
      ∙ ap (λ l. e.0 ∷ l) (all_newer es stand.1)

  live_data_is : (e : ℕ × Fileset) → map.get t.filesets e.0 ≡ Some e.1 → is_live_data t e.0 ≡ keeps_files e.1.kind
  live_data_is e is =
      ap (λ o. option_map_or (λ (f : Fileset). not f.gone && keeps_files f.kind) o false) is
      ∙ ap (λ b. not b && keeps_files e.1.kind) (none e.0 e.1 is)

  any_is : (fs : ℕ) (es : List (ℕ × Fileset)) → ArePlaced t es → list_any (λ id. nat_le id fs && is_live_data t id) (list_map (λ e. e.0) es) ≡ any_upto fs es
  any_is fs [] stand = refl
  any_is fs (e ∷ es) stand = λ i. nat_le e.0 fs && live_data_is e stand.0.stands i || any_is fs es stand.1 i

  keeps_is : (fs : ℕ) → keeps_data t fs ≡ any_upto fs (map.entries t.filesets)
  keeps_is fs =
      ap (list_any (λ id. nat_le id fs && is_live_data t id)) (all_newer (map.entries t.filesets) (all_placed t lawful))
      ∙ any_is fs (map.entries t.filesets) (all_placed t lawful)

  keep_all : KeepFrom (keeps_data t) false (map.entries t.filesets)
  keep_all = subst (λ f. KeepFrom f false (map.entries t.filesets)) (λ i fs. sym (keeps_is fs) i) (keep_upto false (map.entries t.filesets) (entries_sorted t.filesets))

  -- the primary's
  primary_blocks : (store : Store) → total (λ x. named_count x.1) (row_of t 0) ≡ block_count (cells_on store (values_of t 0))
  primary_blocks store =
      row_counts t 0 named_count (λ q. is_extent_in (column t q 0)) (map.retain_keys (cells_on store (values_of t 0)) is_block) (named_where t 0) (λ q.
      contains_key-retain_keys key_cmp_total key_cmp_exact (cells_on store (values_of t 0)) is_block q
      ∙ ap (λ b. is_block q && b) (ap is_some (get-primary store t q))
      ∙ elim (column t q 0) as (λ o. column t q 0 ≡ o → (is_block q && is_some (read_on store o)) ≡ (is_extent_in o && is_some o)) [
        | None ↦ λ _. and_false (is_block q)
        | Some h ↦ λ is. own_block q h (lawful.entries 0 q h is).1.value (sound.orderly.primary q h is)
      ] refl)
    where
      and_true : (b : Bool) → (b && true) ≡ b
      and_true true = refl
      and_true false = refl

      own_block : (q : Key) (h : Held) → BelongsTo q h → IsOwn h → (is_block q && is_some (read_on store (Some h))) ≡ (is_extent h && true)
      own_block q h belongs own =
          ap (λ b. b && is_some (read_on store (Some h))) (sym (and_true (is_block q)))
          ∙ block_where store q h belongs (λ s mark. subst IsOwn mark own)

  -- a checkpoint's that keeps data
  kept_blocks : (store : Store) (e : ℕ × Fileset) (es : List (ℕ × Fileset)) → ArePlaced t (e ∷ es) → keeps_data t e.0 ≡ true
      → total (λ x. named_count x.1) (row_of t e.0) ≡ own_block_count (checkpoint_on store t e.0 e.1).cells (next_cells (cells_on store (values_of t 0)) (checkpoints_of store t es))
  kept_blocks store e es stand keeps =
      let cells = (checkpoint_on store t e.0 e.1).cells in
      let next = next_cells (cells_on store (values_of t 0)) (checkpoints_of store t es) in
      row_counts t e.0 named_count (λ q. is_extent_in (column t q e.0)) (map.retain_keys cells (λ key. is_block key && differs (map.get cells key) (map.get next key))) (named_where t e.0) (λ q.
      contains_key-retain_keys key_cmp_total key_cmp_exact cells (λ key. is_block key && differs (map.get cells key) (map.get next key)) q
      ∙ ap (λ b. (is_block q && b) && map.contains_key cells q) (differs_where t lawful sound none store e es stand q)
      ∙ ap (λ b. (is_block q && is_some (column t q e.0)) && b) (contains-shown e.1.kind (cells_on store (values_of t e.0)) q ∙ ap is_some (get-checkpoint store t e.0 q stand.0.some))
      ∙ elim (column t q e.0) as (λ o. column t q e.0 ≡ o → ((is_block q && is_some o) && is_some (read_on store (option_or o (first_entry (column t q) (newer t e.0))))) ≡ (is_extent_in o && is_some o)) [
        | None ↦ λ _. and_nothing (is_block q) (is_some (read_on store (first_entry (column t q) (newer t e.0))))
        | Some h ↦ λ is. block_where store q h (lawful.entries e.0 q h is).1.value (λ s mark. false≢true (sym (sound.orderly.marks e.0 q s (is ∙ ap (λ y. Some y) mark)) ∙ keeps))
      ] refl)

  -- one that keeps none has none
  no_blocks : (id : ℕ) → 1 ≤ id → AllStripped t → keeps_data t id ≡ false → total (λ x. named_count x.1) (row_of t id) ≡ 0
  no_blocks id some stripped keeps =
      row_counts t id named_count (λ q. false) (map.empty {X = Cell}) (λ key h has. none_named key h has) (λ q. ap is_some (map.get-empty key_cmp q))
      ∙ map.len-empty key_cmp Cell
    where
      none_named : (key : Key) (h : Held) → column t key id ≡ Some h → named_count h ≡ 0
      none_named key Absent has = refl
      none_named key (Plain s small) has = refl
      none_named key (Extent s b) has = elim (stripped id key s b has) [
        | inl zero ↦ absurd (omega (arith, zero, some))
        | inr kept ↦ absurd (false≢true (sym keeps ∙ kept))
      ]
      none_named key (Mark s) has = refl

  blocks_from : (store : Store) → AllStripped t → (older : Bool) (es : List (ℕ × Fileset)) → ArePlaced t es → KeepFrom (keeps_data t) older es
      → total (λ fs. total (λ x. named_count x.1) (row_of t fs)) (list_map (λ e. e.0) es) ≡ held_by older (cells_on store (values_of t 0)) (checkpoints_of store t es)
  blocks_from store stripped older [] stand keep = refl
  blocks_from store stripped older (e ∷ es) stand keep =
      let own = own_block_count (checkpoint_on store t e.0 e.1).cells (next_cells (cells_on store (values_of t 0)) (checkpoints_of store t es)) in
      let here : total (λ x. named_count x.1) (row_of t e.0) ≡ (if older || keeps_files e.1.kind then own else 0) =
      elim (older || keeps_files e.1.kind) as (λ b. keeps_data t e.0 ≡ b → total (λ x. named_count x.1) (row_of t e.0) ≡ (if b then own else 0)) [
        | true ↦ λ keeps. kept_blocks store e es stand keeps
        | false ↦ λ keeps. no_blocks e.0 stand.0.some stripped keeps
      ] keep.0 in
      λ i. here i + blocks_from store stripped (older || keeps_files e.1.kind) es stand.1 keep.1 i

length-joined : {X : Type 0} (xs ys : List X) → length (xs ++ ys) ≡ length xs + length ys
length-joined [] ys = omega arith
length-joined (x ∷ xs) ys = omega (arith, length-joined xs ys)

all_named : (es : List ((ℕ × Key) × Held)) → length (blocks_of es) ≡ total (λ e. named_count e.1) es
all_named [] = refl
all_named (e ∷ es) = length-joined (blocks_in e.1) (blocks_of es) ∙ ap (λ n. named_count e.1 + n) (all_named es)

-- the table names as many data blocks as its world takes
pub extents_are : (store : Store) (mounts : Mounts) (t : Table) → IsTable t → IsSound t → NoneGone t → AllStripped t → extent_count t ≡ held (world_on store mounts t)
extents_are store mounts t lawful sound none stripped =
    let filesets = map.entries t.filesets in
    let live : checkpoints_on store t ≡ checkpoints_of store t filesets = ap (checkpoints_of store t) (live_all t lawful sound none) in
    let rest = blocks_from t lawful sound none store stripped false filesets (all_placed t lawful) (keep_all t lawful sound none) in
    let primary = primary_blocks t lawful sound none store in
    all_named (map.entries t.entries)
    ∙ all_rows t lawful sound named_count
    ∙ (λ i. primary i + rest i)
    ∙ ap (λ cs. block_count (cells_on store (values_of t 0)) + held_by false (cells_on store (values_of t 0)) cs) (sym live)
