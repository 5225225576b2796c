-- How many data blocks and records a table takes, and its world.
use Rattle.std.proofs.Common.{◌≡◌, ℕ, zero, suc, ◌≤◌, Bool, true, false, cond, ◌&&◌, inl, inr, Option, Some, None, is_some, IsSome, IfSome, nat_eq, refl, sym, ap, subst, ◌∙◌, arith}
use Rattle.std.specs.FinMap as map
use Rattle.std.proofs.lemmas.Bool.{eqb-true, false≢true}
use Rattle.ck_model.specs.declared.checkpoint.Fileset.{Fileset}
use Rattle.ck_model.specs.declared.held.Held.{Held}
use Rattle.ck_model.specs.declared.key.Key.{Key}
use Rattle.ck_model.specs.Held.{IsEntry, IsWord}
use Rattle.ck_model.specs.Key.{entry_cmp, entry_cmp_exact, entry_cmp_total}
use Rattle.ck_model.specs.Placed.{NoneGone}
use Rattle.ck_model.specs.Rules.{IsSound}
use Rattle.ck_model.specs.Space.{held, records_in}
use Rattle.ck_model.specs.Table.{Table, Entries, Filesets, IsTable, column, record_count, with_entry}
use Rattle.ck_model.specs.TableWorld.{extent_count, world_on}
use Rattle.ck_model.specs.Values.{Store}
use Rattle.ck_model.specs.World.{Mounts}
use Rattle.ck_model.specs.Chain.{as_mark}
use Rattle.ck_model.proofs.CaseLaws.{and_right, some_is, some_same, true_or_false}
use Rattle.ck_model.proofs.CountLaws.{extents_are, records_are}
use Rattle.ck_model.proofs.SizeLaws.{contains_key-retain_keys, len-retain_keys-le, len_same_keys}
use Rattle.ck_chain.proofs.ColumnLaws.{column-with_entry, column-with_entry_other, same_or_other}
use Rattle.ck_chain.proofs.PushedLaws.{entry_pushed}
use Rattle.ck_remove.specs.Unseen.{IsUnseen}
use Rattle.ck_remove.proofs.DrainLaws.{drained, unseen_both, unseen_itself}
use Rattle.ck_remove.proofs.WorldLaws.{unseen_world}
use Rattle.ck_nodata.specs.StripItem.{drops_data, is_extent, is_unstripped, strip_work_of, unstripped_count}
use Rattle.ck_nodata.proofs.CountLemmas.{get-unstripped, unstripped}
use Rattle.ck_nodata.proofs.PlaceLaws.{LeftBefore}
use Rattle.ck_nodata.proofs.StripLemmas.{strip_is}
use Rattle.ck_nodata.proofs.WorkLemmas.{all_stripped, extent_stands, none_left, work_is}

-- ---- where nothing is left to strip

pub none_where_zero : (t : Table) → unstripped_count t ≡ 0 → (fs : ℕ) (key : Key) → is_unstripped t fs key ≡ false
none_where_zero t nothing fs key =
    true_or_false (is_unstripped t fs key) (λ left.
    let stands = extent_stands (column t key fs) (and_right (drops_data t fs) (is_extent (column t key fs)) left) in
    let there : IsSome (map.get (unstripped t) (fs, key)) = subst IsSome (sym (get-unstripped t (fs, key) ∙ ap (λ b. cond b (column t key fs) None) left)) stands in
    false≢true (sym (ap is_some (ap (λ (m : Entries). map.get m (fs, key)) (map.empty_of_len (unstripped t) nothing) ∙ map.get-empty entry_cmp (fs, key))) ∙ there))

pub zero_where_none : (t : Table) → ((fs : ℕ) (key : Key) → is_unstripped t fs key ≡ false) → unstripped_count t ≡ 0
zero_where_none t none =
    let same : unstripped t ≡ map.empty = map.same_map entry_cmp_total entry_cmp_exact (unstripped t) map.empty (λ e.
    get-unstripped t e ∙ ap (λ b. cond b (map.get t.entries e) None) (none e.0 e.1) ∙ sym (map.get-empty entry_cmp e)) in
    ap (λ (m : Entries). map.len m) same ∙ map.len-empty entry_cmp Held

has_unstripped : (t : Table) (e : ℕ × Key) → map.contains_key (unstripped t) e ≡ is_unstripped t e.0 e.1
has_unstripped t e =
    ap is_some (get-unstripped t e)
    ∙ elim (is_unstripped t e.0 e.1) as (λ b. is_unstripped t e.0 e.1 ≡ b → is_some (cond b (column t e.1 e.0) None) ≡ b) [
      | true ↦ λ left. extent_stands (column t e.1 e.0) (and_right (drops_data t e.0) (is_extent (column t e.1 e.0)) left)
      | false ↦ λ _. refl
    ] refl

-- where whatever is left was left before, no more is left
pub no_more_left : (old new : Table) → LeftBefore old new → unstripped_count new ≤ unstripped_count old
no_more_left old new before =
    let p : ℕ × Key → Bool = λ e. is_unstripped new e.0 e.1 in
    let same : map.len (unstripped new) ≡ map.len (map.retain_keys (unstripped old) p) = len_same_keys entry_cmp_total entry_cmp_exact (unstripped new) (map.retain_keys (unstripped old) p) (λ e.
    has_unstripped new e
    ∙ elim (is_unstripped new e.0 e.1) as (λ b. is_unstripped new e.0 e.1 ≡ b → b ≡ (b && map.contains_key (unstripped old) e)) [
      | true ↦ λ left. sym (has_unstripped old e ∙ before e.0 e.1 left)
      | false ↦ λ _. refl
    ] refl
    ∙ sym (contains_key-retain_keys entry_cmp_total entry_cmp_exact (unstripped old) p e)) in
    let most = len-retain_keys-le entry_cmp_total entry_cmp_exact (unstripped old) p in
    omega (arith, same, most)

-- where no checkpoint is gone either, the table names as many data blocks as its world takes
pub held-is : (store : Store) (mounts : Mounts) (t : Table) → IsTable t → IsSound t → NoneGone t → unstripped_count t ≡ 0 → held (world_on store mounts t) ≡ extent_count t
held-is store mounts t lawful sound none nothing = sym (extents_are store mounts t lawful sound none (all_stripped t (none_where_zero t nothing) sound.orderly none))

-- and has as many records
pub records-is : (store : Store) (mounts : Mounts) (t : Table) → IsTable t → IsSound t → NoneGone t → records_in (world_on store mounts t) ≡ record_count t
records-is store mounts t lawful sound none = sym (records_are store mounts t lawful sound none)

-- ---- every table comes to such a one

-- a mark in the place of an entry
lawful_marked : (t : Table) (f : ℕ) (key : Key) (entry : Held) → IsTable t → column t key f ≡ Some entry → IsTable (with_entry t f key (Some (as_mark entry)))
lawful_marked t f key entry lawful at = record {
  entries = λ fs q other has. elim (same_or_other q key) [
    | inr apart ↦ lawful.entries fs q other (sym (ap (λ (c : ℕ → Option Held). c fs) (column-with_entry_other t f key (Some (as_mark entry)) q apart)) ∙ has)
    | inl same ↦
        let here : column (with_entry t f key (Some (as_mark entry))) key fs ≡ Some other = ap (λ k. column (with_entry t f key (Some (as_mark entry))) k fs) (sym same) ∙ has in
        subst (λ k. IsWord fs × IsEntry k other) (sym same) (written fs other (sym (column-with_entry t f key (Some (as_mark entry)) fs) ∙ here))
  ];
  filesets = lawful.filesets;
  counters = lawful.counters;
}
  where
    written : (fs : ℕ) (other : Held) → cond (nat_eq fs f) (Some (as_mark entry)) (column t key fs) ≡ Some other → IsWord fs × IsEntry key other
    written fs other is =
        elim (nat_eq fs f) as (λ b. nat_eq fs f ≡ b → cond b (Some (as_mark entry)) (column t key fs) ≡ Some other → IsWord fs × IsEntry key other) [
          | true ↦ λ same own.
              let old = lawful.entries f key entry at in
              (subst IsWord (sym (eqb-true fs f same)) old.0, subst (IsEntry key) (some_same (as_mark entry) other own) (entry_pushed false key entry old.1))
          | false ↦ λ _ before. lawful.entries fs key other before
        ] refl is

-- nobody sees the strips, and none is left
pub record IsAllStripped (old new : Table) : Type 0 where
  pub lawful : IsTable new
  pub sound : IsSound new
  pub unseen : IsUnseen old new
  pub filesets : new.filesets ≡ old.filesets
  pub none : unstripped_count new ≡ 0

stripped_in : (n : ℕ) (t : Table) → IsTable t → IsSound t → unstripped_count t ≡ n → (u : Table) × IsAllStripped t u
stripped_in zero t lawful sound count = (t, record { lawful = lawful; sound = sound; unseen = unseen_itself t; filesets = refl; none = count })
stripped_in (suc n) t lawful sound count =
    elim (strip_work_of t) as (λ o. strip_work_of t ≡ o → IfSome o (λ item. is_unstripped t item.id item.key ≡ true) → (u : Table) × IsAllStripped t u) [
      | None ↦ λ none _. let nothing = zero_where_none t (none_left t lawful none) in absurd (omega (arith, nothing, count))
      | Some item ↦ λ _ left.
          let found = some_is (column t item.key item.id) (extent_stands (column t item.key item.id) (and_right (drops_data t item.id) (is_extent (column t item.key item.id)) left)) in
          let u = with_entry t item.id item.key (Some (as_mark found.0)) in
          let after = lawful_marked t item.id item.key found.0 lawful found.1 in
          let is = strip_is t item found.0 lawful after sound left found.1 in
          let fewer = is.left in
          let rest = stripped_in n u after is.sound (omega (arith, fewer, count)) in
          let all = rest.1 in
          (rest.0, record { lawful = all.lawful; sound = all.sound; unseen = unseen_both t u rest.0 is.unseen all.unseen; filesets = all.filesets; none = all.none })
    ] refl (work_is t)

pub stripped_all : (t : Table) → IsTable t → IsSound t → (u : Table) × IsAllStripped t u
stripped_all t lawful sound = stripped_in (unstripped_count t) t lawful sound refl

-- ---- elsewhere they may be more: those of what is gone, and those that are left to strip

module _ (store : Store) (mounts : Mounts) (t : Table) (lawful : IsTable t) (sound : IsSound t) where
  pub held-within : held (world_on store mounts t) ≤ extent_count t
  held-within =
      let u = drained t lawful sound in
      let first = u.1 in
      let v = stripped_all u.0 first.lawful first.sound in
      let last = v.1 in
      let none : NoneGone v.0 = subst (λ (m : Filesets). (id : ℕ) (fileset : Fileset) → map.get m id ≡ Some fileset → fileset.gone ≡ false) (sym last.filesets) first.none in
      let same = ap held (unseen_world u.0 v.0 first.lawful last.lawful last.unseen store mounts ∙ unseen_world t u.0 lawful first.lawful first.unseen store mounts) in
      let counted = held-is store mounts v.0 last.lawful last.sound none last.none in
      let less = first.unseen.extents in
      let fewer = last.unseen.extents in
      omega (arith, same, counted, less, fewer)

  pub records-within : records_in (world_on store mounts t) ≤ record_count t
  records-within =
      let u = drained t lawful sound in
      let is = u.1 in
      let same = ap records_in (unseen_world t u.0 lawful is.lawful is.unseen store mounts) in
      let counted = records-is store mounts u.0 is.lawful is.sound is.none in
      let less = is.unseen.records in
      omega (arith, same, counted, less)
