-- The worlds of a table in which a checkpoint keeps no data from now on, may be given up or not, or leaves.
use Rattle.std.proofs.Common.{◌≡◌, ℕ, ◌+◌, ◌<◌, Bool, true, false, cond, not, ◌&&◌, ◌||◌, T, List, [], ◌∷◌, length, map as list_map, filter, find, take_while, Option, Some, None, Result, Ok, Err, IsSome, is_some, if◌then◌else◌, nat_eq, nat_lt, nat_le, refl, sym, ap, subst, ◌∙◌, arith}
use Rattle.std.specs.declared.cmp.Ordering.TheVariants.{Less, Equal, Greater}
use Rattle.std.specs.Ordering.{nat_cmp, is_lt, is_eq, eq_by_cmp}
use Rattle.std.specs.Cmp.Lexicographic.{pointwise, bytes_decides}
use Rattle.std.specs.List.{list_any}
use Rattle.std.specs.Option.{ok_or, option_map, option_map_or, option_and_then}
use Rattle.std.specs.FinMap.{find as found, put, is_sorted, entries_sorted}
use Rattle.std.specs.FinMap.Entries.{by_order, below_all, length-put}
use Rattle.std.specs.FinMap as map
use Rattle.std.proofs.lemmas.Bool.{false≢true, false_from_ne_true, and_parts}
use Rattle.std.proofs.lemmas.Bool.Decides.{nat_tests}
use Rattle.std.proofs.lemmas.Cmp.{nat_cmp_total}
use Rattle.std.proofs.lemmas.List.{length-map}
use Rattle.std.proofs.lemmas.List.Sums.{take_while-cons}
use Rattle.ck_model.specs.declared.key.Key.{Key}
use Rattle.ck_model.specs.declared.checkpoint.Fileset.{Fileset}
use Rattle.ck_model.specs.declared.checkpoint.Kind.TheVariants.{Keeping, Nodata}
use Rattle.ck_model.specs.declared.reply.Reply.{Reply}
use Rattle.ck_model.specs.declared.reply.Reply.TheVariants.{Done, Delayed, NoCkpt}
use Rattle.ck_model.specs.Cells.{marked}
use Rattle.ck_model.specs.CheckpointCalls.{any_keeps, as_nodata, checkpoint_named, older_than, with_changed, with_flag, dropped}
use Rattle.ck_model.specs.Refusals.{and_then}
use Rattle.ck_model.specs.Step.{converted, outcome_of, told}
use Rattle.ck_model.specs.World.{World, Checkpoint, Mounts, has_id, is_named, keeps_files, shown_by, without_checkpoint}
use Rattle.ck_model.specs.Table.{Table, IsTable, with_fileset}
use Rattle.ck_model.specs.Chain.{is_live, is_live_data, keeps_data, present, value_at, value_of}
use Rattle.ck_model.specs.Placed.{ArePlaced}
use Rattle.ck_model.specs.Rules.{IsSound}
use Rattle.ck_model.specs.Values.{Store, cells_on}
use Rattle.ck_model.specs.TableWorld.{checkpoint_on, checkpoints_on, keys_of, valued, values_of, world_on}
use Rattle.ck_model.proofs.CaseLaws.{head_of, none_some, not_true, some_same}
use Rattle.ck_model.proofs.CellLaws.{marked_again}
use Rattle.ck_model.proofs.CountLaws.{all_placed}
use Rattle.ck_table.specs.Flags as flags
use Rattle.ck_table.specs.Flags.{as_removable, with_nodata, with_record, with_removable}
use Rattle.ck_table.specs.Gone.{as_gone, with_gone}
use Rattle.ck_table.specs.Names as names
use Rattle.ck_table.proofs.KeepsLaws.{data-with_nodata}
use Rattle.ck_table.proofs.FlagLaws.{StaysOne, newer-with_nodata, stays_nodata, stays_removable, value-with_nodata, value-with_removable}
use Rattle.ck_table.proofs.LeaveLaws.{stands_live, value-with_gone}

-- ---- a record that is put over one that stands

-- the entry with this value, where it has the id
abbrev pub set_at : ℕ → Fileset → ℕ × Fileset → ℕ × Fileset
set_at id v e = (e.0, cond (nat_eq e.0 id) v e.1)

pub above_head : (x y : ℕ) (b : Bool) → T (is_lt (nat_cmp x y) && b) → (x < y) × T b
above_head x y b h = grind (arith, nat_tests)

-- entries behind the id stay
set_behind : (id : ℕ) (v : Fileset) (es : List (ℕ × Fileset)) → T (below_all nat_cmp id es) → list_map (set_at id v) es ≡ es
set_behind id v [] below = refl
set_behind id v (e ∷ es) below =
    let head = above_head id e.0 (below_all nat_cmp id es) below in
    let less = head.0 in
    let apart : nat_eq e.0 id ≡ false = grind (arith, nat_tests) in
    λ i. (e.0, cond (apart i) v e.1) ∷ set_behind id v es head.1 i

put_over : (id : ℕ) (v : Fileset) (es : List (ℕ × Fileset)) → T (is_sorted nat_cmp es) → IsSome (found nat_cmp id es) → put nat_cmp id v es ≡ list_map (set_at id v) es
put_over id v [] s there = absurd (false≢true there)
put_over id v (e ∷ es) s there =
    let parts = head_of (below_all nat_cmp e.0 es) (is_sorted nat_cmp es) s in
    let long = length-put nat_cmp nat_cmp_total id v (e ∷ es) s ∙ ap (λ b. cond b (length (e ∷ es)) (length (e ∷ es) + 1)) there in
    elim (nat_cmp id e.0) as (λ o. nat_cmp id e.0 ≡ o → length (by_order o ((id, v) ∷ e ∷ es) ((e.0, v) ∷ es) (e ∷ put nat_cmp id v es)) ≡ length (e ∷ es)
    → by_order o ((id, v) ∷ e ∷ es) ((e.0, v) ∷ es) (e ∷ put nat_cmp id v es) ≡ list_map (set_at id v) (e ∷ es)) [
      | Less ↦ λ _ longer. absurd (omega (arith, longer))
      | Equal ↦ λ order _.
          let tied : nat_eq e.0 id ≡ true = grind (arith, nat_tests) in
          let is : e.0 ≡ id = grind (arith, nat_tests) in
          (λ i. (e.0, cond (sym tied i) v e.1) ∷ sym (set_behind id v es (subst (λ x. T (below_all nat_cmp x es)) is parts.0)) i)
      | Greater ↦ λ order _.
          let apart : nat_eq e.0 id ≡ false = grind (arith, nat_tests) in
          let rest : IsSome (found nat_cmp id es) = subst (λ o. IsSome (cond (is_eq o) (Some e.1) (found nat_cmp id es))) order there in
          (λ i. (e.0, cond (sym apart i) v e.1) ∷ put_over id v es parts.1 rest i)
    ] refl long

entries_over : (t : Table) (id : ℕ) (v : Fileset) → IsSome (map.get t.filesets id) → map.entries (map.insert t.filesets id v) ≡ list_map (set_at id v) (map.entries t.filesets)
entries_over t id v stands = map.entries-insert nat_cmp_total t.filesets id v ∙ put_over id v (map.entries t.filesets) (entries_sorted t.filesets) (subst IsSome (map.get-entries t.filesets id) stands)

-- ---- the same entries, with the same values

same_value_at : (t u : Table) → u.entries ≡ t.entries → ((fs : ℕ) (key : Key) → value_of u fs key ≡ value_of t fs key) → (fs : ℕ) (key : Key) → value_at u fs key ≡ value_at t fs key
same_value_at t u entries same fs key = λ i. cond (nat_eq fs 0) (present (map.get (entries i) (0, key))) (same fs key i)

-- each fileset of the table with this record has the values that it had
values_over : (t : Table) (id : ℕ) (v : Fileset) → ((fs : ℕ) (key : Key) → value_of (with_fileset t id (Some v)) fs key ≡ value_of t fs key) → (fs : ℕ) → values_of (with_fileset t id (Some v)) fs ≡ values_of t fs
values_over t id v same fs = λ i. map.from_entries (valued (λ key. same_value_at t (with_fileset t id (Some v)) refl same fs key i) (keys_of t))

-- ---- by the name of one that stands

-- what the world calls it
pub named_one : (t : Table) (name : List ℕ) (id : ℕ) → names.is_named t name id ≡ true → (f : Fileset) → map.get t.filesets id ≡ Some f → (f.gone ≡ false) × (f.name ≡ name)
named_one t name id named f is =
    let both = and_parts (not f.gone) (pointwise nat_eq f.name name) (sym (ap (λ o. option_map_or (λ (f : Fileset). not f.gone && pointwise nat_eq f.name name) o false) is) ∙ named) in
    (false_of f.gone both.0, (bytes_decides f.name name).0 both.1)
  where
    false_of : (b : Bool) → not b ≡ true → b ≡ false
    false_of true h = absurd (false≢true h)
    false_of false h = refl

pub named_live : (t : Table) (name : List ℕ) (id : ℕ) → names.is_named t name id ≡ true → is_live t id ≡ true
named_live t name id h = elim (map.get t.filesets id) as (λ o. option_map_or (λ (f : Fileset). not f.gone && pointwise nat_eq f.name name) o false ≡ true → option_map_or (λ (f : Fileset). not f.gone) o false ≡ true) [
  | None ↦ λ none. none
  | Some f ↦ λ both. (and_parts (not f.gone) (pointwise nat_eq f.name name) both).0
] h

module _ (t : Table) (sound : IsSound t) (name : List ℕ) (id : ℕ) (named : names.is_named t name id ≡ true) where
  -- of those that stand it alone has the name
  pub is_this : (f : Fileset) → map.get t.filesets id ≡ Some f → (e : ℕ × Fileset) → map.get t.filesets e.0 ≡ Some e.1 → e.1.gone ≡ false → pointwise nat_eq e.1.name name ≡ nat_eq e.0 id
  is_this f is e there live =
      let own = named_one t name id named f is in
      elim (nat_eq e.0 id) as (λ b. nat_eq e.0 id ≡ b → pointwise nat_eq e.1.name name ≡ b) [
        | true ↦ λ same.
            let at : e.0 ≡ id = grind (arith, nat_tests) in
            let one : e.1 ≡ f = some_same e.1 f (sym there ∙ ap (map.get t.filesets) at ∙ is) in
            (bytes_decides e.1.name name).1 (ap (λ (x : Fileset). x.name) one ∙ own.1)
        | false ↦ λ apart. false_from_ne_true (pointwise nat_eq e.1.name name) (λ same.
            let at : e.0 ≡ id = sound.orderly.names e.0 id e.1 f there is live own.0 ((bytes_decides e.1.name name).0 same ∙ sym own.1) in
            let tied : nat_eq e.0 id ≡ true = grind (arith, nat_tests) in
            false≢true (sym apart ∙ tied))
      ] refl

-- ---- one changes

-- what the model makes of the one with the name
abbrev changed_by : List ℕ → (Checkpoint → Checkpoint) → Checkpoint → Checkpoint
changed_by name model checkpoint = if is_named name checkpoint then model checkpoint else checkpoint

module _ (store : Store) (t : Table) (sound : IsSound t) (name : List ℕ) (id : ℕ) (named : names.is_named t name id ≡ true)
    (change : Fileset → Fileset) (model : Checkpoint → Checkpoint)
    (shown : (x : ℕ) (f : Fileset) → checkpoint_on store t x (change f) ≡ model (checkpoint_on store t x f))
    (f : Fileset) (is : map.get t.filesets id ≡ Some f) (stays : StaysOne f (change f))
    (values : (fs : ℕ) (key : Key) → value_of (with_fileset t id (Some (change f))) fs key ≡ value_of t fs key) where
  abbrev u : Table
  u = with_fileset t id (Some (change f))

  same_on : (x : ℕ) (v : Fileset) → checkpoint_on store u x v ≡ checkpoint_on store t x v
  same_on x v = λ i. record { id = x; name = v.name; kind = v.kind; removable = v.removable; ctime = v.ctime; cells = shown_by v.kind (cells_on store (values_over t id (change f) values x i)) }

  same_here : (e : ℕ × Fileset) → map.get t.filesets e.0 ≡ Some e.1 → nat_eq e.0 id ≡ true → e.1 ≡ f
  same_here e there same =
      let at : e.0 ≡ id = grind (arith, nat_tests) in
      some_same e.1 f (sym there ∙ ap (map.get t.filesets) at ∙ is)

  one_changed : (e : ℕ × Fileset) → map.get t.filesets e.0 ≡ Some e.1 → e.1.gone ≡ false
      → checkpoint_on store u e.0 (set_at id (change f) e).1 ≡ changed_by name model (checkpoint_on store t e.0 e.1)
  one_changed e there live =
      elim (nat_eq e.0 id) as (λ b. nat_eq e.0 id ≡ b → checkpoint_on store u e.0 (cond b (change f) e.1) ≡ (if b then model (checkpoint_on store t e.0 e.1) else checkpoint_on store t e.0 e.1)) [
        | true ↦ λ same. same_on e.0 (change f) ∙ shown e.0 f ∙ ap (λ v. model (checkpoint_on store t e.0 v)) (sym (same_here e there same))
        | false ↦ λ _. same_on e.0 e.1
      ] refl
      ∙ ap (λ b. if b then model (checkpoint_on store t e.0 e.1) else checkpoint_on store t e.0 e.1) (sym (is_this t sound name id named f is e there live))

  gone_same : (e : ℕ × Fileset) → map.get t.filesets e.0 ≡ Some e.1 → (set_at id (change f) e).1.gone ≡ e.1.gone
  gone_same e there =
      elim (nat_eq e.0 id) as (λ b. nat_eq e.0 id ≡ b → (cond b (change f) e.1).gone ≡ e.1.gone) [
        | true ↦ λ same. stays.gone ∙ ap (λ (v : Fileset). v.gone) (sym (same_here e there same))
        | false ↦ λ _. refl
      ] refl

  all_changed : (es : List (ℕ × Fileset)) → ArePlaced t es
      → list_map (λ e. checkpoint_on store u e.0 e.1) (filter (λ (e : ℕ × Fileset). not e.1.gone) (list_map (set_at id (change f)) es))
      ≡ list_map (changed_by name model) (list_map (λ (e : ℕ × Fileset). checkpoint_on store t e.0 e.1) (filter (λ (e : ℕ × Fileset). not e.1.gone) es))
  all_changed [] placed = refl
  all_changed (e ∷ es) placed =
      let rest = all_changed es placed.1 in
      let there = placed.0.stands in
      let left = filter (λ (x : ℕ × Fileset). not x.1.gone) (list_map (set_at id (change f)) es) in
      let old = filter (λ (x : ℕ × Fileset). not x.1.gone) es in
      ap (λ b. list_map (λ (x : ℕ × Fileset). checkpoint_on store u x.0 x.1) (cond (not b) (set_at id (change f) e ∷ left) left)) (gone_same e there)
      ∙ elim e.1.gone as (λ b. e.1.gone ≡ b → list_map (λ (x : ℕ × Fileset). checkpoint_on store u x.0 x.1) (cond (not b) (set_at id (change f) e ∷ left) left)
      ≡ list_map (changed_by name model) (list_map (λ (x : ℕ × Fileset). checkpoint_on store t x.0 x.1) (cond (not b) (e ∷ old) old))) [
        | true ↦ λ _. rest
        | false ↦ λ live. (λ i. one_changed e there live i ∷ rest i)
      ] refl

  checkpoints_changed : IsTable t → checkpoints_on store u ≡ list_map (changed_by name model) (checkpoints_on store t)
  checkpoints_changed lawful =
      ap (λ es. list_map (λ e. checkpoint_on store u e.0 e.1) (filter (λ (e : ℕ × Fileset). not e.1.gone) es)) (entries_over t id (change f) (ap is_some is))
      ∙ all_changed (map.entries t.filesets) (all_placed t lawful)

  world_changed : (mounts : Mounts) → IsTable t → world_on store mounts u ≡ with_changed (world_on store mounts t) name model
  world_changed mounts lawful = λ i. record (world_on store mounts t) {
    primary = cells_on store (values_over t id (change f) values 0 i);
    checkpoints = checkpoints_changed lawful i;
  }

-- the table with the changed record stands for the world with that checkpoint changed
pub world-set : (store : Store) (mounts : Mounts) (t : Table) → IsTable t → IsSound t → (name : List ℕ) (id : ℕ) → names.is_named t name id ≡ true
    → (change : Fileset → Fileset) (model : Checkpoint → Checkpoint) → ((x : ℕ) (f : Fileset) → checkpoint_on store t x (change f) ≡ model (checkpoint_on store t x f))
    → ((f : Fileset) → StaysOne f (change f)) → ((fs : ℕ) (key : Key) → value_of (with_record t id change) fs key ≡ value_of t fs key)
    → world_on store mounts (with_record t id change) ≡ with_changed (world_on store mounts t) name model
world-set store mounts t lawful sound name id named change model shown stays values =
    elim (map.get t.filesets id) as (λ o. map.get t.filesets id ≡ o → IsSome o → ((fs : ℕ) (key : Key) → value_of (with_fileset t id (option_map change o)) fs key ≡ value_of t fs key)
    → world_on store mounts (with_fileset t id (option_map change o)) ≡ with_changed (world_on store mounts t) name model) [
      | None ↦ λ _ h. absurd (false≢true h)
      | Some f ↦ λ is _ same. world_changed store t sound name id named change model shown f is (stays f) same mounts lawful
    ] refl (stands_live t id (named_live t name id named)) values

-- ---- it keeps no data

nodata_on : (store : Store) (t : Table) (x : ℕ) (f : Fileset) → checkpoint_on store t x (flags.as_nodata f) ≡ as_nodata (checkpoint_on store t x f)
nodata_on store t x f =
    let cells = cells_on store (values_of t x) in
    let same : marked cells ≡ marked (shown_by f.kind cells) = elim f.kind as (λ kind. marked cells ≡ marked (shown_by kind cells)) [ Keeping ↦ refl | Nodata ↦ sym (marked_again cells) ] in
    λ i. record { id = x; name = f.name; kind = Nodata; removable = f.removable; ctime = f.ctime; cells = same i }

pub world-with_nodata : (store : Store) (mounts : Mounts) (t : Table) → IsTable t → IsSound t → (name : List ℕ) (id : ℕ) → names.is_named t name id ≡ true
    → world_on store mounts (with_nodata t id) ≡ with_changed (world_on store mounts t) name as_nodata
world-with_nodata store mounts t lawful sound name id named =
    world-set store mounts t lawful sound name id named flags.as_nodata as_nodata (nodata_on store t) stays_nodata (value-with_nodata t id (named_live t name id named))

-- ---- it may be given up, or not

pub world-with_removable : (store : Store) (mounts : Mounts) (t : Table) → IsTable t → IsSound t → (name : List ℕ) (id : ℕ) (on : Bool) → names.is_named t name id ≡ true
    → world_on store mounts (with_removable t id on) ≡ with_changed (world_on store mounts t) name (λ checkpoint. record checkpoint { removable = on })
world-with_removable store mounts t lawful sound name id on named =
    world-set store mounts t lawful sound name id named (as_removable on) (λ checkpoint. record checkpoint { removable = on }) (λ x f. refl) (stays_removable on) (value-with_removable t id on (named_live t name id named))

-- ---- what an older one keeps

pub below_found : (x id : ℕ) (es : List (ℕ × Fileset)) → T (below_all nat_cmp x es) → IsSome (found nat_cmp id es) → x < id
below_found x id [] below there = absurd (false≢true there)
below_found x id (e ∷ es) below there =
    let head = above_head x e.0 (below_all nat_cmp x es) below in
    let less = head.0 in
    elim (eq_by_cmp nat_cmp id e.0) as (λ b. eq_by_cmp nat_cmp id e.0 ≡ b → IsSome (cond b (Some e.1) (found nat_cmp id es)) → x < id) [
      | true ↦ λ tied _. let same : id ≡ e.0 = grind (arith, nat_tests) in omega (arith, less, same)
      | false ↦ λ _ further. below_found x id es head.1 further
    ] refl there

-- none of those behind it is so old
none_behind : (p : ℕ → Bool) (id : ℕ) (es : List (ℕ × Fileset)) → T (below_all nat_cmp id es) → list_any (λ x. nat_le x id && p x) (filter (λ x. nat_lt 0 x) (list_map (λ e. e.0) es)) ≡ false
none_behind p id [] below = refl
none_behind p id (e ∷ es) below =
    let head = above_head id e.0 (below_all nat_cmp id es) below in
    let less = head.0 in
    let positive : nat_lt 0 e.0 ≡ true = grind (arith, nat_tests) in
    let past : nat_le e.0 id ≡ false = grind (arith, nat_tests) in
    ap (λ b. list_any (λ x. nat_le x id && p x) (cond b (e.0 ∷ filter (λ x. nat_lt 0 x) (list_map (λ e. e.0) es)) (filter (λ x. nat_lt 0 x) (list_map (λ e. e.0) es)))) positive
    ∙ ap (λ b. (b && p e.0) || list_any (λ x. nat_le x id && p x) (filter (λ x. nat_lt 0 x) (list_map (λ e. e.0) es))) past
    ∙ none_behind p id es head.1

module _ (store : Store) (t : Table) (sound : IsSound t) (name : List ℕ) (id : ℕ) (named : names.is_named t name id ≡ true) (f : Fileset) (is : map.get t.filesets id ≡ Some f) where
  abbrev shown_of : List (ℕ × Fileset) → List Checkpoint
  shown_of es = list_map (λ e. checkpoint_on store t e.0 e.1) (filter (λ (e : ℕ × Fileset). not e.1.gone) es)

  abbrev ids_in : List (ℕ × Fileset) → List ℕ
  ids_in es = filter (λ x. nat_lt 0 x) (list_map (λ e. e.0) es)

  abbrev keeps_upto : ℕ → Bool
  keeps_upto x = nat_le x id && is_live_data (with_nodata t id) x

  abbrev older_of : List Checkpoint → List Checkpoint
  older_of checkpoints = take_while (λ checkpoint. not (is_named name checkpoint)) checkpoints

  older_keeps : (es : List (ℕ × Fileset)) → ArePlaced t es → T (is_sorted nat_cmp es) → IsSome (found nat_cmp id es)
      → list_any keeps_upto (ids_in es) ≡ any_keeps (older_of (shown_of es))
  older_keeps [] placed sorted there = absurd (false≢true there)
  older_keeps (e ∷ es) placed sorted there =
      let parts = head_of (below_all nat_cmp e.0 es) (is_sorted nat_cmp es) sorted in
      let least = placed.0.some in
      let positive : nat_lt 0 e.0 ≡ true = grind (arith, nat_tests) in
      let stands = placed.0.stands in
      let left = filter (λ (x : ℕ × Fileset). not x.1.gone) es in
      ap (λ b. list_any keeps_upto (cond b (e.0 ∷ ids_in es) (ids_in es))) positive
      ∙ elim (nat_eq e.0 id) as (λ b. nat_eq e.0 id ≡ b → (keeps_upto e.0 || list_any keeps_upto (ids_in es)) ≡ any_keeps (older_of (shown_of (e ∷ es)))) [
        | true ↦ λ same.
            let at : e.0 ≡ id = grind (arith, nat_tests) in
            let one : e.1 ≡ f = some_same e.1 f (sym stands ∙ ap (map.get t.filesets) at ∙ is) in
            let live : e.1.gone ≡ false = ap (λ (x : Fileset). x.gone) one ∙ (named_one t name id named f is).0 in
            let none : keeps_upto e.0 ≡ false = ap (λ b. nat_le e.0 id && b) (data-with_nodata t id e.0 ∙ ap (λ b. is_live_data t e.0 && not b) same) ∙ two_none (nat_le e.0 id) (is_live_data t e.0) in
            let behind = none_behind (is_live_data (with_nodata t id)) id es (subst (λ x. T (below_all nat_cmp x es)) at parts.0) in
            (λ i. none i || behind i)
            ∙ sym (ap (λ b. any_keeps (older_of (list_map (λ (x : ℕ × Fileset). checkpoint_on store t x.0 x.1) (cond (not b) (e ∷ left) left)))) live
            ∙ ap any_keeps (take_while-cons (λ checkpoint. not (is_named name checkpoint)) (checkpoint_on store t e.0 e.1) (shown_of es))
            ∙ ap (λ b. any_keeps (cond (not b) (checkpoint_on store t e.0 e.1 ∷ older_of (shown_of es)) [])) (is_this t sound name id named f is e stands live ∙ same))
        | false ↦ λ apart.
            let untied : eq_by_cmp nat_cmp id e.0 ≡ false = grind (arith, nat_tests) in
            let further : IsSome (found nat_cmp id es) = subst (λ b. IsSome (cond b (Some e.1) (found nat_cmp id es))) untied there in
            let less = below_found e.0 id es parts.0 further in
            let within : nat_le e.0 id ≡ true = grind (arith, nat_tests) in
            let rest = older_keeps es placed.1 parts.1 further in
            let own : keeps_upto e.0 ≡ ((not e.1.gone && keeps_files e.1.kind) && true) =
            (λ i. within i && (data-with_nodata t id e.0 ∙ (λ j. option_map_or (λ (f : Fileset). not f.gone && keeps_files f.kind) (stands j) false && not (apart j))) i) in
            (λ i. own i || rest i)
            ∙ elim e.1.gone as (λ b. e.1.gone ≡ b → (((not b && keeps_files e.1.kind) && true) || any_keeps (older_of (shown_of es)))
            ≡ any_keeps (older_of (list_map (λ (x : ℕ × Fileset). checkpoint_on store t x.0 x.1) (cond (not b) (e ∷ left) left)))) [
              | true ↦ λ _. refl
              | false ↦ λ live.
                  ap (λ b. b || any_keeps (older_of (shown_of es))) (and_all (keeps_files e.1.kind))
                  ∙ sym (ap any_keeps (take_while-cons (λ checkpoint. not (is_named name checkpoint)) (checkpoint_on store t e.0 e.1) (shown_of es))
                  ∙ ap (λ b. any_keeps (cond (not b) (checkpoint_on store t e.0 e.1 ∷ older_of (shown_of es)) [])) (is_this t sound name id named f is e stands live ∙ apart))
            ] refl
      ] refl
    where
      two_none : (a b : Bool) → (a && (b && false)) ≡ false
      two_none true true = refl
      two_none true false = refl
      two_none false b = refl

      and_all : (b : Bool) → (b && true) ≡ b
      and_all true = refl
      and_all false = refl

-- once it keeps no data, its data is kept still where an older one keeps data
pub keeps-older : (store : Store) (mounts : Mounts) (t : Table) → IsTable t → IsSound t → (name : List ℕ) (id : ℕ) → names.is_named t name id ≡ true
    → keeps_data (with_nodata t id) id ≡ any_keeps (older_than (world_on store mounts t) name)
keeps-older store mounts t lawful sound name id named =
    elim (map.get t.filesets id) as (λ o. map.get t.filesets id ≡ o → IsSome o → keeps_data (with_nodata t id) id ≡ any_keeps (older_than (world_on store mounts t) name)) [
      | None ↦ λ _ h. absurd (false≢true h)
      | Some f ↦ λ is _.
          ap (list_any (λ x. nat_le x id && is_live_data (with_nodata t id) x)) (newer-with_nodata t id (named_live t name id named) 0)
          ∙ older_keeps store t sound name id named f is (map.entries t.filesets) (all_placed t lawful) (entries_sorted t.filesets) (ap is_some (sym (map.get-entries t.filesets id) ∙ is))
    ] refl (stands_live t id (named_live t name id named))

-- ---- the one with a name

-- the checkpoint with this id
abbrev pub checkpoint_at : Store → Table → ℕ → Option Checkpoint
checkpoint_at store t id = option_map (checkpoint_on store t id) (map.get t.filesets id)

find_named : (store : Store) (t : Table) (name : List ℕ) (es : List (ℕ × Fileset)) → ArePlaced t es
    → find (is_named name) (list_map (λ e. checkpoint_on store t e.0 e.1) (filter (λ (e : ℕ × Fileset). not e.1.gone) es)) ≡ option_and_then (checkpoint_at store t) (find (names.is_named t name) (filter (λ x. nat_lt 0 x) (list_map (λ e. e.0) es)))
find_named store t name [] placed = refl
find_named store t name (e ∷ es) placed =
    let rest = find_named store t name es placed.1 in
    let least = placed.0.some in
    let positive : nat_lt 0 e.0 ≡ true = grind (arith, nat_tests) in
    let left = filter (λ (x : ℕ × Fileset). not x.1.gone) es in
    let ids = filter (λ x. nat_lt 0 x) (list_map (λ (x : ℕ × Fileset). x.0) es) in
    let here : names.is_named t name e.0 ≡ (not e.1.gone && pointwise nat_eq e.1.name name) = ap (λ o. option_map_or (λ (f : Fileset). not f.gone && pointwise nat_eq f.name name) o false) placed.0.stands in
    let there : checkpoint_at store t e.0 ≡ Some (checkpoint_on store t e.0 e.1) = ap (option_map (checkpoint_on store t e.0)) placed.0.stands in
    elim (not e.1.gone) as (λ b. find (is_named name) (list_map (λ (x : ℕ × Fileset). checkpoint_on store t x.0 x.1) (cond b (e ∷ left) left)) ≡ option_and_then (checkpoint_at store t) (cond (b && pointwise nat_eq e.1.name name) (Some e.0) (find (names.is_named t name) ids))) [
      | true ↦ elim (pointwise nat_eq e.1.name name) as (λ v. cond v (Some (checkpoint_on store t e.0 e.1)) (find (is_named name) (list_map (λ (x : ℕ × Fileset). checkpoint_on store t x.0 x.1) left)) ≡ option_and_then (checkpoint_at store t) (cond v (Some e.0) (find (names.is_named t name) ids))) [
        | true ↦ sym there
        | false ↦ rest
      ]
      | false ↦ rest
    ]
    ∙ sym (ap (λ b. option_and_then (checkpoint_at store t) (cond b (Some e.0) (find (names.is_named t name) ids))) here)
    ∙ sym (ap (λ b. option_and_then (checkpoint_at store t) (find (names.is_named t name) (cond b (e.0 ∷ ids) ids))) positive)

-- the world finds the checkpoint that the table finds
pub named-is : (store : Store) (t : Table) (name : List ℕ) → IsTable t → find (is_named name) (checkpoints_on store t) ≡ option_and_then (checkpoint_at store t) (names.id_named t name)
named-is store t name lawful = find_named store t name (map.entries t.filesets) (all_placed t lawful)

module _ (store : Store) (mounts : Mounts) (t : Table) (lawful : IsTable t) (name : List ℕ) where
  abbrev w : World
  w = world_on store mounts t

  pub named-none : names.id_named t name ≡ None → checkpoint_named w name ≡ Err NoCkpt
  named-none none = ap (λ o. ok_or o NoCkpt) (named-is store t name lawful ∙ ap (option_and_then (checkpoint_at store t)) none)

  pub named-some : (id : ℕ) (f : Fileset) → names.id_named t name ≡ Some id → map.get t.filesets id ≡ Some f → checkpoint_named w name ≡ Ok (checkpoint_on store t id f)
  named-some id f is there = ap (λ o. ok_or o NoCkpt) (named-is store t name lawful ∙ ap (option_and_then (checkpoint_at store t)) is ∙ ap (option_map (checkpoint_on store t id)) there)

  -- what a call on the one with the name comes to
  pub at_named : (id : ℕ) → names.id_named t name ≡ Some id → names.is_named t name id ≡ true → (P : Result Checkpoint Reply → Type 0) → ((f : Fileset) → map.get t.filesets id ≡ Some f → P (Ok (checkpoint_on store t id f))) → P (checkpoint_named w name)
  at_named id is named P each =
      elim (map.get t.filesets id) as (λ o. map.get t.filesets id ≡ o → IsSome o → P (checkpoint_named w name)) [
        | None ↦ λ _ h. absurd (false≢true h)
        | Some f ↦ λ there _. subst P (sym (named-some id f is there)) (each f there)
      ] refl (stands_live t id (named_live t name id named))

  -- `nodata`
  pub converted-none : names.id_named t name ≡ None → converted w name ≡ told w NoCkpt
  converted-none none = ap (λ r. outcome_of w (and_then r (λ _. Ok (told (with_changed w name as_nodata) (if any_keeps (older_than w name) then Delayed else Done))))) (named-none none)

  pub converted-is : IsSound t → (id : ℕ) → names.id_named t name ≡ Some id → names.is_named t name id ≡ true
      → converted w name ≡ told (world_on store mounts (with_nodata t id)) (if keeps_data (with_nodata t id) id then Delayed else Done)
  converted-is sound id is named =
      at_named id is named (λ r. outcome_of w (and_then r (λ _. Ok (told (with_changed w name as_nodata) (if any_keeps (older_than w name) then Delayed else Done))))
      ≡ told (world_on store mounts (with_nodata t id)) (if keeps_data (with_nodata t id) id then Delayed else Done)) (λ f there.
      let world = sym (world-with_nodata store mounts t lawful sound name id named) in
      let older = sym (keeps-older store mounts t lawful sound name id named) in
      λ i. told (world i) (if older i then Delayed else Done))

  -- `removable`
  pub flagged-none : (on : Bool) → names.id_named t name ≡ None → with_flag w name on ≡ Err NoCkpt
  flagged-none on none = ap (λ r. and_then r (λ (_ : Checkpoint). Ok (with_changed w name (λ checkpoint. record checkpoint { removable = on })))) (named-none none)

  pub flagged-is : IsSound t → (id : ℕ) (on : Bool) → names.id_named t name ≡ Some id → names.is_named t name id ≡ true → with_flag w name on ≡ Ok (world_on store mounts (with_removable t id on))
  flagged-is sound id on is named =
      at_named id is named (λ r. and_then r (λ (_ : Checkpoint). Ok (with_changed w name (λ checkpoint. record checkpoint { removable = on }))) ≡ Ok (world_on store mounts (with_removable t id on))) (λ f there.
      ap (λ (v : World). Ok v) (sym (world-with_removable store mounts t lawful sound name id on named)))

-- ---- one leaves

module _ (store : Store) (t : Table) (id : ℕ) (f : Fileset) (is : map.get t.filesets id ≡ Some f)
    (values : (fs : ℕ) (key : Key) → value_of (with_fileset t id (Some (as_gone f))) fs key ≡ value_of t fs key) where
  abbrev gone_on : Table
  gone_on = with_fileset t id (Some (as_gone f))

  other_same : (x : ℕ) (v : Fileset) → checkpoint_on store gone_on x v ≡ checkpoint_on store t x v
  other_same x v = λ i. record { id = x; name = v.name; kind = v.kind; removable = v.removable; ctime = v.ctime; cells = shown_by v.kind (cells_on store (values_over t id (as_gone f) values x i)) }

  abbrev others_of : List Checkpoint → List Checkpoint
  others_of checkpoints = filter (λ checkpoint. not (has_id id checkpoint)) checkpoints

  all_others : (es : List (ℕ × Fileset))
      → list_map (λ e. checkpoint_on store gone_on e.0 e.1) (filter (λ (e : ℕ × Fileset). not e.1.gone) (list_map (set_at id (as_gone f)) es))
      ≡ others_of (list_map (λ (e : ℕ × Fileset). checkpoint_on store t e.0 e.1) (filter (λ (e : ℕ × Fileset). not e.1.gone) es))
  all_others [] = refl
  all_others (e ∷ es) =
      let rest = all_others es in
      let left = filter (λ (x : ℕ × Fileset). not x.1.gone) (list_map (set_at id (as_gone f)) es) in
      let old = filter (λ (x : ℕ × Fileset). not x.1.gone) es in
      let shown = list_map (λ (x : ℕ × Fileset). checkpoint_on store t x.0 x.1) in
      elim (nat_eq e.0 id) as (λ b. nat_eq e.0 id ≡ b → list_map (λ (x : ℕ × Fileset). checkpoint_on store gone_on x.0 x.1) (cond (not (cond b (as_gone f) e.1).gone) ((e.0, cond b (as_gone f) e.1) ∷ left) left)
      ≡ others_of (shown (cond (not e.1.gone) (e ∷ old) old))) [
        | true ↦ λ same. rest ∙ elim e.1.gone as (λ g. others_of (shown old) ≡ others_of (shown (cond (not g) (e ∷ old) old))) [
          | true ↦ refl
          | false ↦ sym (ap (λ b. cond (not b) (checkpoint_on store t e.0 e.1 ∷ others_of (shown old)) (others_of (shown old))) same)
        ]
        | false ↦ λ apart. elim e.1.gone as (λ g. list_map (λ (x : ℕ × Fileset). checkpoint_on store gone_on x.0 x.1) (cond (not g) (e ∷ left) left) ≡ others_of (shown (cond (not g) (e ∷ old) old))) [
          | true ↦ rest
          | false ↦ (λ i. other_same e.0 e.1 i ∷ rest i) ∙ sym (ap (λ b. cond (not b) (checkpoint_on store t e.0 e.1 ∷ others_of (shown old)) (others_of (shown old))) apart)
        ]
      ] refl

  world_left : (mounts : Mounts) → world_on store mounts gone_on ≡ without_checkpoint (world_on store mounts t) id
  world_left mounts = λ i. record (world_on store mounts t) {
    primary = cells_on store (values_over t id (as_gone f) values 0 i);
    checkpoints = (ap (λ es. list_map (λ e. checkpoint_on store gone_on e.0 e.1) (filter (λ (e : ℕ × Fileset). not e.1.gone) es)) (entries_over t id (as_gone f) (ap is_some is)) ∙ all_others (map.entries t.filesets)) i;
  }

-- the table with one gone stands for the world without it
pub world-with_gone : (store : Store) (mounts : Mounts) (t : Table) (id : ℕ) → is_live t id ≡ true → world_on store mounts (with_gone t id) ≡ without_checkpoint (world_on store mounts t) id
world-with_gone store mounts t id live =
    elim (map.get t.filesets id) as (λ o. map.get t.filesets id ≡ o → IsSome o → ((fs : ℕ) (key : Key) → value_of (with_fileset t id (option_map as_gone o)) fs key ≡ value_of t fs key)
    → world_on store mounts (with_fileset t id (option_map as_gone o)) ≡ without_checkpoint (world_on store mounts t) id) [
      | None ↦ λ _ h. absurd (false≢true h)
      | Some f ↦ λ is _ same. world_left store t id f is same mounts
    ] refl (stands_live t id live) (value-with_gone t id live)

-- `remove`
module _ (store : Store) (mounts : Mounts) (t : Table) (lawful : IsTable t) (name : List ℕ) where
  pub dropped-none : names.id_named t name ≡ None → dropped (world_on store mounts t) name ≡ Err NoCkpt
  dropped-none none = ap (λ r. and_then r (λ (checkpoint : Checkpoint). Ok (without_checkpoint (world_on store mounts t) checkpoint.id))) (named-none store mounts t lawful name none)

  pub dropped-is : (id : ℕ) → names.id_named t name ≡ Some id → names.is_named t name id ≡ true → dropped (world_on store mounts t) name ≡ Ok (world_on store mounts (with_gone t id))
  dropped-is id is named =
      at_named store mounts t lawful name id is named (λ r. and_then r (λ (checkpoint : Checkpoint). Ok (without_checkpoint (world_on store mounts t) checkpoint.id)) ≡ Ok (world_on store mounts (with_gone t id))) (λ f there.
      ap (λ (v : World). Ok v) (sym (world-with_gone store mounts t id (named_live t name id named))))

-- ---- one fewer stands

length_left : (id : ℕ) (f : Fileset) → f.gone ≡ false → (es : List (ℕ × Fileset)) → T (is_sorted nat_cmp es) → found nat_cmp id es ≡ Some f
    → length (filter (λ (e : ℕ × Fileset). not e.1.gone) es) ≡ length (filter (λ (e : ℕ × Fileset). not e.1.gone) (list_map (set_at id (as_gone f)) es)) + 1
length_left id f live [] sorted there = absurd (none_some f there)
length_left id f live (e ∷ es) sorted there =
    let parts = head_of (below_all nat_cmp e.0 es) (is_sorted nat_cmp es) sorted in
    let left = filter (λ (x : ℕ × Fileset). not x.1.gone) es in
    let marked = filter (λ (x : ℕ × Fileset). not x.1.gone) (list_map (set_at id (as_gone f)) es) in
    elim (nat_eq e.0 id) as (λ b. nat_eq e.0 id ≡ b → length (filter (λ (x : ℕ × Fileset). not x.1.gone) (e ∷ es)) ≡ length (cond (not (cond b (as_gone f) e.1).gone) ((e.0, cond b (as_gone f) e.1) ∷ marked) marked) + 1) [
      | true ↦ λ same.
          let tied : eq_by_cmp nat_cmp id e.0 ≡ true = grind (arith, nat_tests) in
          let at : e.0 ≡ id = grind (arith, nat_tests) in
          let one : e.1 ≡ f = some_same e.1 f (sym (ap (λ b. cond b (Some e.1) (found nat_cmp id es)) tied) ∙ there) in
          let behind = set_behind id (as_gone f) es (subst (λ x. T (below_all nat_cmp x es)) at parts.0) in
          let more : length (e ∷ left) ≡ length left + 1 = omega arith in
          ap (λ b. length (cond (not b) (e ∷ left) left)) (ap (λ (x : Fileset). x.gone) one ∙ live)
          ∙ more
          ∙ sym (ap (λ (xs : List (ℕ × Fileset)). length (filter (λ (x : ℕ × Fileset). not x.1.gone) xs) + 1) behind)
      | false ↦ λ apart.
          let untied : eq_by_cmp nat_cmp id e.0 ≡ false = grind (arith, nat_tests) in
          let rest = length_left id f live es parts.1 (sym (ap (λ b. cond b (Some e.1) (found nat_cmp id es)) untied) ∙ there) in
          elim e.1.gone as (λ b. length (cond (not b) (e ∷ left) left) ≡ length (cond (not b) ((e.0, e.1) ∷ marked) marked) + 1) [
            | true ↦ rest
            | false ↦ omega (arith, rest)
          ]
    ] refl

length_shown : (store : Store) (t : Table) (es : List (ℕ × Fileset)) → length (list_map (λ e. checkpoint_on store t e.0 e.1) es) ≡ length es
length_shown store t es = length-map es (λ e. checkpoint_on store t e.0 e.1)

-- the world has one checkpoint fewer once one is gone
pub length-with_gone : (store : Store) (t : Table) (id : ℕ) → is_live t id ≡ true → length (checkpoints_on store t) ≡ length (checkpoints_on store (with_gone t id)) + 1
length-with_gone store t id live =
    elim (map.get t.filesets id) as (λ o. map.get t.filesets id ≡ o → option_map_or (λ (g : Fileset). not g.gone) o false ≡ true → length (checkpoints_on store t) ≡ length (checkpoints_on store (with_fileset t id (option_map as_gone o))) + 1) [
      | None ↦ λ _ h. absurd (false≢true h)
      | Some f ↦ λ is stands.
          let u = with_fileset t id (Some (as_gone f)) in
          let es = map.entries t.filesets in
          let fewer = length_left id f (not_true f.gone stands) es (entries_sorted t.filesets) (sym (map.get-entries t.filesets id) ∙ is) in
          length_shown store t (filter (λ (e : ℕ × Fileset). not e.1.gone) es) ∙ fewer
          ∙ ap (λ n. n + 1) (sym (ap (λ (xs : List (ℕ × Fileset)). length (list_map (λ e. checkpoint_on store u e.0 e.1) (filter (λ (e : ℕ × Fileset). not e.1.gone) xs))) (entries_over t id (as_gone f) (ap is_some is))
          ∙ length_shown store u (filter (λ (e : ℕ × Fileset). not e.1.gone) (list_map (set_at id (as_gone f)) es))))
    ] refl live
