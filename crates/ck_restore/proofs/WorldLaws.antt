-- The table after a restore stands for the restored world.
use Rattle.std.proofs.Common.{◌≡◌, ℕ, ◌<◌, Bool, true, false, cond, not, ◌&&◌, T, List, [], ◌∷◌, map as list_map, filter, take_while, Some, None, Ok, Err, IsSome, Result, is_some, Option, nat_eq, nat_lt, refl, sym, ap, subst, ◌∙◌, arith}
use Rattle.std.specs.Ordering.{nat_cmp, eq_by_cmp}
use Rattle.std.specs.Option.{option_map_or}
use Rattle.std.specs.FinMap.{is_sorted, entries_sorted, nat_cmp-IsAntisymmetric, find as found}
use Rattle.std.specs.FinMap.Entries.{below_all}
use Rattle.std.specs.FinMap as map
use Rattle.std.proofs.lemmas.Bool.{false≢true}
use Rattle.std.proofs.lemmas.Bool.Decides.{nat_tests}
use Rattle.std.proofs.lemmas.Cmp.{nat_cmp_total}
use Rattle.std.proofs.lemmas.List.Sums.{take_while-cons}
use Rattle.ck_model.specs.declared.held.Held.{Held}
use Rattle.ck_model.specs.declared.held.Held.TheVariants.{Absent, Plain, Extent, Mark}
use Rattle.ck_model.specs.declared.checkpoint.Fileset.{Fileset}
use Rattle.ck_model.specs.declared.checkpoint.Kind.{Kind}
use Rattle.ck_model.specs.declared.checkpoint.Kind.TheVariants.{Keeping, Nodata}
use Rattle.ck_model.specs.declared.reply.Reply.{Reply}
use Rattle.ck_model.specs.declared.reply.Reply.TheVariants.{NoCkpt, NotData}
use Rattle.ck_model.specs.CheckpointCalls.{older_than, restored}
use Rattle.ck_model.specs.Limits.{checkpoint_limit}
use Rattle.ck_model.specs.Refusals.{and_then, refuse_if}
use Rattle.ck_model.specs.World.{World, Checkpoint, Mounts, is_named, keeps_files, shown_by}
use Rattle.ck_model.specs.Table.{Table, IsTable, Filesets, column, newer}
use Rattle.ck_model.specs.Chain.{first_entry, is_live, is_live_data, present}
use Rattle.ck_model.specs.Placed.{ArePlaced}
use Rattle.ck_model.specs.Rules.{IsSound}
use Rattle.ck_model.specs.Values.{Store, cells_on}
use Rattle.ck_model.specs.TableWorld.{checkpoint_on, checkpoints_on, values_of, world_on}
use Rattle.ck_model.proofs.CaseLaws.{head_of, some_same}
use Rattle.ck_model.proofs.CountLaws.{all_placed}
use Rattle.ck_model.proofs.SizeLaws.{entries-retain_keys}
use Rattle.ck_restore.specs.Restored.{IsRestored}
use Rattle.ck_table.specs.Names as names
use Rattle.ck_table.proofs.ShownLaws.{same_cells, shown_seen, value_at_some}
use Rattle.ck_table.proofs.WorldLaws.{above_head, at_named, below_found, is_this, named-none, named_one}

-- ---- the checkpoints that are older than this one

abbrev older_ids : ℕ → ℕ × Fileset → Bool
older_ids id e = nat_lt e.0 id

none_older : (id : ℕ) (es : List (ℕ × Fileset)) → T (below_all nat_cmp id es) → filter (older_ids id) es ≡ []
none_older id [] below = refl
none_older id (e ∷ es) below =
    let head = above_head id e.0 (below_all nat_cmp id es) below in
    let less = head.0 in
    let past : nat_lt e.0 id ≡ false = grind (arith, nat_tests) in
    ap (λ b. cond b (e ∷ filter (older_ids id) es) (filter (older_ids id) es)) past ∙ none_older id es head.1

present_again : (o : Option Held) → present (present o) ≡ present o
present_again None = refl
present_again (Some Absent) = refl
present_again (Some (Plain stamp small)) = refl
present_again (Some (Extent stamp block)) = refl
present_again (Some (Mark stamp)) = refl

module _ (store : Store) (t v : Table) (lawful : IsTable t) (after : IsTable v) (sound : IsSound t) (name : List ℕ) (id : ℕ)
    (named : names.is_named t name id ≡ true) (f : Fileset) (is : map.get t.filesets id ≡ Some f) (back : IsRestored t v id) where
  abbrev shown_in : Table → List (ℕ × Fileset) → List Checkpoint
  shown_in u es = list_map (λ e. checkpoint_on store u e.0 e.1) (filter (λ (e : ℕ × Fileset). not e.1.gone) es)

  abbrev older_of : List Checkpoint → List Checkpoint
  older_of checkpoints = take_while (λ checkpoint. not (is_named name checkpoint)) checkpoints

  -- one that is older shows what it showed
  same_older : (e : ℕ × Fileset) → map.get t.filesets e.0 ≡ Some e.1 → e.1.gone ≡ false → e.0 < id → checkpoint_on store v e.0 e.1 ≡ checkpoint_on store t e.0 e.1
  same_older e there live lower =
      let within : nat_lt e.0 id ≡ true = grind (arith, nat_tests) in
      let now : map.get v.filesets e.0 ≡ Some e.1 = back.filesets e.0 ∙ ap (λ b. cond b (map.get t.filesets e.0) None) within ∙ there in
      let stands : is_live t e.0 ≡ true = ap (λ o. option_map_or (λ (g : Fileset). not g.gone) o false) there ∙ ap not live in
      let cells = shown_seen t v lawful after e.0 e.1 there now live (λ q. back.kept e.0 q stands lower) store in
      λ i. record { id = e.0; name = e.1.name; kind = e.1.kind; removable = e.1.removable; ctime = e.1.ctime; cells = cells i }

  older_shown : (es : List (ℕ × Fileset)) → ArePlaced t es → T (is_sorted nat_cmp es) → IsSome (found nat_cmp id es) → shown_in v (filter (older_ids id) es) ≡ older_of (shown_in t es)
  older_shown [] placed sorted there = absurd (false≢true there)
  older_shown (e ∷ es) placed sorted there =
      let parts = head_of (below_all nat_cmp e.0 es) (is_sorted nat_cmp es) sorted in
      let stands = placed.0.stands in
      let left = filter (λ (x : ℕ × Fileset). not x.1.gone) es in
      let older = filter (older_ids id) es in
      elim (nat_eq e.0 id) as (λ b. nat_eq e.0 id ≡ b → shown_in v (filter (older_ids id) (e ∷ es)) ≡ older_of (shown_in t (e ∷ es))) [
        | true ↦ λ same.
            let at : e.0 ≡ id = grind (arith, nat_tests) in
            let past : nat_lt e.0 id ≡ false = grind (arith, nat_tests) in
            let one : e.1 ≡ f = some_same e.1 f (sym stands ∙ ap (map.get t.filesets) at ∙ is) in
            let live : e.1.gone ≡ false = ap (λ (x : Fileset). x.gone) one ∙ (named_one t name id named f is).0 in
            ap (λ b. shown_in v (cond b (e ∷ older) older)) past
            ∙ ap (shown_in v) (none_older id es (subst (λ x. T (below_all nat_cmp x es)) at parts.0))
            ∙ sym (ap (λ b. older_of (list_map (λ (x : ℕ × Fileset). checkpoint_on store t x.0 x.1) (cond (not b) (e ∷ left) left))) live
            ∙ take_while-cons (λ checkpoint. not (is_named name checkpoint)) (checkpoint_on store t e.0 e.1) (shown_in t es)
            ∙ ap (λ b. cond (not b) (checkpoint_on store t e.0 e.1 ∷ older_of (shown_in t es)) []) (is_this t sound name id named f is e stands live ∙ same))
        | false ↦ λ apart.
            let untied : eq_by_cmp nat_cmp id e.0 ≡ false = grind (arith, nat_tests) in
            let further : IsSome (found nat_cmp id es) = subst (λ b. IsSome (cond b (Some e.1) (found nat_cmp id es))) untied there in
            let less = below_found e.0 id es parts.0 further in
            let within : nat_lt e.0 id ≡ true = grind (arith, nat_tests) in
            let rest = older_shown es placed.1 parts.1 further in
            ap (λ b. shown_in v (cond b (e ∷ older) older)) within
            ∙ elim e.1.gone as (λ b. e.1.gone ≡ b → list_map (λ (x : ℕ × Fileset). checkpoint_on store v x.0 x.1) (cond (not b) (e ∷ filter (λ (x : ℕ × Fileset). not x.1.gone) older) (filter (λ (x : ℕ × Fileset). not x.1.gone) older))
            ≡ older_of (list_map (λ (x : ℕ × Fileset). checkpoint_on store t x.0 x.1) (cond (not b) (e ∷ left) left))) [
              | true ↦ λ _. rest
              | false ↦ λ live.
                  (λ i. same_older e stands live less i ∷ rest i)
                  ∙ sym (take_while-cons (λ checkpoint. not (is_named name checkpoint)) (checkpoint_on store t e.0 e.1) (shown_in t es)
                  ∙ ap (λ b. cond (not b) (checkpoint_on store t e.0 e.1 ∷ older_of (shown_in t es)) []) (is_this t sound name id named f is e stands live ∙ apart))
            ] refl
      ] refl

  -- those records are the older ones
  entries_back : map.entries v.filesets ≡ filter (older_ids id) (map.entries t.filesets)
  entries_back =
      let older : Filesets = map.retain_keys t.filesets (λ x. nat_lt x id) in
      let same : v.filesets ≡ older = map.same_map nat_cmp_total nat_cmp-IsAntisymmetric v.filesets older (λ q.
      back.filesets q ∙ sym (map.get-retain_keys t.filesets (λ x. nat_lt x id) q (λ x tied. ap (λ y. nat_lt y id) (sym (nat_cmp-IsAntisymmetric q x tied))))) in
      ap (λ (m : Filesets). map.entries m) same ∙ entries-retain_keys nat_cmp_total nat_cmp-IsAntisymmetric t.filesets (λ x. nat_lt x id)

  checkpoints_back : checkpoints_on store v ≡ older_of (checkpoints_on store t)
  checkpoints_back =
      ap (shown_in v) entries_back
      ∙ older_shown (map.entries t.filesets) (all_placed t lawful) (entries_sorted t.filesets) (ap is_some (sym (map.get-entries t.filesets id) ∙ is))

  -- the primary has the checkpoint's cells
  primary_back : cells_on store (values_of v 0) ≡ cells_on store (values_of t id)
  primary_back =
      let some = (lawful.filesets id f is).some in
      same_cells store t v id 0 (λ q. ap present (back.primary q) ∙ present_again (first_entry (column t q) (id ∷ newer t id)) ∙ sym (value_at_some t id q some))

  world_back : (mounts : Mounts) → f.kind ≡ Keeping → record (world_on store mounts t) { primary = (checkpoint_on store t id f).cells; checkpoints = older_than (world_on store mounts t) name } ≡ world_on store mounts v
  world_back mounts keeping = λ i. record {
    limits = record { blocks = sym back.blocks i; records = sym back.limit i; checkpoints = checkpoint_limit };
    primary = (ap (λ kind. shown_by kind (cells_on store (values_of t id))) keeping ∙ sym primary_back) i;
    checkpoints = sym checkpoints_back i;
    next = sym back.counters i;
    mounts = mounts;
  }

-- ---- `restore`

keeping_is : (kind : Kind) → keeps_files kind ≡ true → kind ≡ Keeping
keeping_is Keeping h = refl
keeping_is Nodata h = absurd (false≢true h)

module _ (store : Store) (mounts : Mounts) (t : Table) (lawful : IsTable t) (name : List ℕ) where
  abbrev w : World
  w = world_on store mounts t

  abbrev back_from : Result Checkpoint Reply → Result World Reply
  back_from found = and_then found (λ checkpoint. refuse_if (not (keeps_files checkpoint.kind)) NotData (Ok (record w { primary = checkpoint.cells; checkpoints = older_than w name })))

  -- none has the name
  pub restored-none : names.id_named t name ≡ None → restored w name ≡ Err NoCkpt
  restored-none none = ap back_from (named-none store mounts t lawful name none)

  module _ (id : ℕ) (found_is : names.id_named t name ≡ Some id) (named : names.is_named t name id ≡ true) where
    -- whether it keeps its files
    data_is : (f : Fileset) → map.get t.filesets id ≡ Some f → is_live_data t id ≡ keeps_files f.kind
    data_is f is =
        ap (λ o. option_map_or (λ (g : Fileset). not g.gone && keeps_files g.kind) o false) is
        ∙ ap (λ b. not b && keeps_files f.kind) (named_one t name id named f is).0

    -- it keeps no files
    pub restored-not_data : is_live_data t id ≡ false → restored w name ≡ Err NotData
    restored-not_data none =
        at_named store mounts t lawful name id found_is named (λ found. back_from found ≡ Err NotData) (λ f is.
        ap (λ b. refuse_if (not b) NotData (Ok (record w { primary = (checkpoint_on store t id f).cells; checkpoints = older_than w name }))) (sym (data_is f is) ∙ none))

    -- the table after a restore stands for the restored world
    pub restored-is : (v : Table) → IsTable v → IsSound t → is_live_data t id ≡ true → IsRestored t v id → restored w name ≡ Ok (world_on store mounts v)
    restored-is v after sound holds back =
        at_named store mounts t lawful name id found_is named (λ found. back_from found ≡ Ok (world_on store mounts v)) (λ f is.
        let keeps = sym (data_is f is) ∙ holds in
        ap (λ b. refuse_if (not b) NotData (Ok (record w { primary = (checkpoint_on store t id f).cells; checkpoints = older_than w name }))) keeps
        ∙ ap (λ (x : World). Ok x) (world_back store t v lawful after sound name id named f is back mounts (keeping_is f.kind keeps)))
