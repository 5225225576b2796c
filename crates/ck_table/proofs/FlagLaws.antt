-- A table in which a checkpoint's record changes, but neither its name nor whether it is gone.
use Rattle.std.proofs.Common.{◌≡◌, ◌≢◌, ℕ, Bool, true, false, cond, not, ◌&&◌, length, filter, Some, None, IsSome, IsSomeAnd, is_some, nat_lt, nat_le, nat_eq, refl, sym, ap, subst, ◌∙◌, ◌+◌, ◌<◌, ◌^◌, ◌∷◌, arith}
use Rattle.std.specs.List.{list_any}
use Rattle.std.specs.Option.{option_map, option_map_or}
use Rattle.std.proofs.lemmas.Cmp.{nat_cmp_total}
use Rattle.std.proofs.lemmas.Bool.{false≢true, true≢false, eqb-true, and_from, and_parts, false_from_ne_true}
use Rattle.std.proofs.lemmas.Option.{same_Some}
use Rattle.std.specs.FinMap as map
use Rattle.ck_model.specs.declared.key.Key.{Key}
use Rattle.ck_model.specs.declared.checkpoint.Fileset.{Fileset}
use Rattle.ck_model.specs.Held.{IsFileset}
use Rattle.ck_model.specs.Name.{IsCheckpointName}
use Rattle.ck_model.specs.Table.{Table, IsTable, column, newer, with_fileset, record_count}
use Rattle.ck_model.specs.Chain.{first_entry, present, value_of, is_live, is_gone, live_ids, is_live_data, keeps_data, as_mark, seen}
use Rattle.ck_model.specs.World.{keeps_files}
use Rattle.ck_model.specs.Rules.{IsSound, first_holder}
use Rattle.ck_table.specs.Flags.{as_nodata, as_removable, with_nodata, with_record, with_removable}
use Rattle.ck_table.proofs.IdLaws.{get-recorded, still_there, keys-insert_over}
use Rattle.ck_table.proofs.LeaveLaws.{any_more, own_data, read, stands_live}
use Rattle.ck_table.proofs.Sound.{Counts, sound_with, still_needed}

-- what stays of a record
pub record StaysOne (f g : Fileset) : Type 0 where
  pub name : g.name ≡ f.name
  pub gone : g.gone ≡ f.gone
  -- it keeps its files only where it did
  pub keeps : keeps_files g.kind ≡ true → keeps_files f.kind ≡ true
  pub ctime : g.ctime ≡ f.ctime

module _ (t : Table) (id : ℕ) (f g : Fileset) (is : map.get t.filesets id ≡ Some f) (stays : StaysOne f g) where
  abbrev u : Table
  u = with_fileset t id (Some g)

  pub newer_set : (fs : ℕ) → newer u fs ≡ newer t fs
  newer_set fs = ap (filter (λ x. nat_lt fs x)) (keys-insert_over t.filesets id g (ap is_some is))

  value_set : (fs : ℕ) (key : Key) → value_of u fs key ≡ value_of t fs key
  value_set fs key = ap (λ ids. present (first_entry (column t key) (fs ∷ ids))) (newer_set fs)

  -- what a test says of each record, where it says the same of this one
  tested : (test : Fileset → Bool) → test g ≡ test f → (x : ℕ) → option_map_or test (map.get u.filesets x) false ≡ option_map_or test (map.get t.filesets x) false
  tested test same x =
      ap (λ o. option_map_or test o false) (get-recorded t.filesets id (Some g) x)
      ∙ elim (nat_eq x id) as (λ b. nat_eq x id ≡ b → option_map_or test (cond b (Some g) (map.get t.filesets x)) false ≡ option_map_or test (map.get t.filesets x) false) [
        | true ↦ λ here. same ∙ sym (ap (λ o. option_map_or test o false) (ap (map.get t.filesets) (eqb-true x id here) ∙ is))
        | false ↦ λ _. refl
      ] refl

  pub live_set : (x : ℕ) → is_live u x ≡ is_live t x
  live_set x = tested (λ fileset. not fileset.gone) (ap not stays.gone) x

  gone_set : (x : ℕ) → is_gone u x ≡ is_gone t x
  gone_set x = tested (λ fileset. fileset.gone) stays.gone x

  live_ids_set : live_ids u ≡ live_ids t
  live_ids_set = λ i. filter (λ x. live_set x i) (newer_set 0 i)

  data_set : (x : ℕ) → is_live_data u x ≡ true → is_live_data t x ≡ true
  data_set x h =
      elim (nat_eq x id) as (λ b. nat_eq x id ≡ b → option_map_or (λ (h : Fileset). not h.gone && keeps_files h.kind) (cond b (Some g) (map.get t.filesets x)) false ≡ true → is_live_data t x ≡ true) [
        | true ↦ λ here both.
            let parts = and_parts (not g.gone) (keeps_files g.kind) both in
            ap (λ o. option_map_or (λ (h : Fileset). not h.gone && keeps_files h.kind) o false) (ap (map.get t.filesets) (eqb-true x id here) ∙ is)
            ∙ and_from (not f.gone) (keeps_files f.kind) (sym (ap not stays.gone) ∙ parts.0) (stays.keeps parts.1)
        | false ↦ λ _ h. h
      ] refl (sym (ap (λ o. option_map_or (λ (h : Fileset). not h.gone && keeps_files h.kind) o false) (get-recorded t.filesets id (Some g) x)) ∙ h)

  other_data_set : (x : ℕ) → nat_eq x id ≡ false → is_live_data u x ≡ is_live_data t x
  other_data_set x apart =
      ap (λ o. option_map_or (λ (h : Fileset). not h.gone && keeps_files h.kind) o false) (get-recorded t.filesets id (Some g) x ∙ ap (λ b. cond b (Some g) (map.get t.filesets x)) apart)

  keeps_set : (fs : ℕ) → keeps_data u fs ≡ true → keeps_data t fs ≡ true
  keeps_set fs h =
      any_more (λ x. nat_le x fs && is_live_data u x) (λ x. nat_le x fs && is_live_data t x)
      (λ x both. let parts = and_parts (nat_le x fs) (is_live_data u x) both in and_from (nat_le x fs) (is_live_data t x) parts.0 (data_set x parts.1))
      (newer t 0) (sym (ap (list_any (λ x. nat_le x fs && is_live_data u x)) (newer_set 0)) ∙ h)

  no_data_set : (fs : ℕ) → keeps_data t fs ≡ false → keeps_data u fs ≡ false
  no_data_set fs none = false_from_ne_true (keeps_data u fs) (λ keeps. true≢false (sym (keeps_set fs keeps) ∙ none))

  -- who reads another one that keeps its files
  seen_set : IsTable t → IsTable u → (fs : ℕ) (key : Key) → fs ≢ id → is_live_data t fs ≡ true → seen u fs key ≡ seen t fs key
  seen_set lawful after fs key differs live =
      let apart : nat_eq fs id ≡ false = false_from_ne_true (nat_eq fs id) (λ same. differs (eqb-true fs id same)) in
      read u fs key (own_data u after fs (other_data_set fs apart ∙ live)) ∙ value_set fs key ∙ sym (read t fs key (own_data t lawful fs live))

  -- where it keeps its files as it did
  module _ (alike : keeps_files g.kind ≡ keeps_files f.kind) where
    keeps_alike : (fs : ℕ) → keeps_data u fs ≡ keeps_data t fs
    keeps_alike fs = λ i. list_any (λ x. nat_le x fs && tested (λ (h : Fileset). not h.gone && keeps_files h.kind) (λ j. not (stays.gone j) && alike j) x i) (newer_set 0 i)

    seen_alike : (fs : ℕ) (key : Key) → seen u fs key ≡ seen t fs key
    seen_alike fs key = λ i. cond (keeps_alike fs i) (value_set fs key i) (option_map as_mark (value_set fs key i))

  count_set : record_count u ≡ record_count t
  count_set =
      let same = map.len-insert nat_cmp_total t.filesets id g ∙ ap (λ o. cond (is_some o) (map.len t.filesets) (map.len t.filesets + 1)) is in
      omega (arith, same)

  -- a record was one with the same name, gone as this one is
  was : (a : ℕ) (w : Fileset) → map.get u.filesets a ≡ Some w → (v : Fileset) × ((map.get t.filesets a ≡ Some v) × ((w.name ≡ v.name) × (w.gone ≡ v.gone)))
  was a w there =
      elim (nat_eq a id) as (λ b. nat_eq a id ≡ b → cond b (Some g) (map.get t.filesets a) ≡ Some w → (v : Fileset) × ((map.get t.filesets a ≡ Some v) × ((w.name ≡ v.name) × (w.gone ≡ v.gone)))) [
        | true ↦ λ here same.
            let one = sym (same_Some g w same) in
            (f, (ap (map.get t.filesets) (eqb-true a id here) ∙ is, (ap (λ (x : Fileset). x.name) one ∙ stays.name, ap (λ (x : Fileset). x.gone) one ∙ stays.gone)))
        | false ↦ λ _ same. (w, (same, (refl, refl)))
      ] refl (sym (get-recorded t.filesets id (Some g) a) ∙ there)

  stood_set : (x : ℕ) → is_some (map.get u.filesets x) ≡ is_some (map.get t.filesets x)
  stood_set x =
      ap is_some (get-recorded t.filesets id (Some g) x)
      ∙ elim (nat_eq x id) as (λ b. nat_eq x id ≡ b → is_some (cond b (Some g) (map.get t.filesets x)) ≡ is_some (map.get t.filesets x)) [
        | true ↦ λ here. sym (ap is_some (ap (map.get t.filesets) (eqb-true x id here) ∙ is))
        | false ↦ λ _. refl
      ] refl

  sound_set : IsSound t → IsSound u
  sound_set sound =
      sound_with t (map.insert t.filesets id g) t.counters.id sound (record {
        names = λ a b w z is_a is_b live_a live_b same.
            let x = was a w is_a in
            let y = was b z is_b in
            sound.orderly.names a b x.0 y.0 x.1.0 y.1.0 (sym x.1.1.1 ∙ live_a) (sym y.1.1.1 ∙ live_b) (sym x.1.1.0 ∙ same ∙ y.1.1.0);
        ids = λ x stands. sound.orderly.ids x (sym (stood_set x) ∙ stands);
        live =
            let same = ap length live_ids_set in
            let before = sound.orderly.live in
            omega (arith, same, before);
        homes = λ fs key _ stands. still_there t.filesets id g fs stands;
        marks = λ fs _ none. no_data_set fs none;
        absents = λ fs key live absent.
            let before = sound.absents fs key (sym (live_set fs) ∙ live) absent in
            let now = still_needed (column t key) (is_gone t) (is_gone u) (λ x _ gone. gone_set x ∙ gone) (newer t fs) before in
            subst (λ ids. IsSomeAnd (first_holder (column t key) ids) (Counts (is_gone u))) (sym (newer_set fs)) now;
      })

  lawful_set : IsTable t → IsTable u
  lawful_set lawful = record {
    entries = lawful.entries;
    filesets = λ x w there.
        elim (nat_eq x id) as (λ b. nat_eq x id ≡ b → cond b (Some g) (map.get t.filesets x) ≡ Some w → IsFileset x w) [
          | true ↦ λ here same.
              let here_is = eqb-true x id here in
              let before = lawful.filesets id f is in
              let after : IsFileset id g = record {
                some = before.some;
                word = before.word;
                name = subst IsCheckpointName (sym stays.name) before.name;
                ctime = subst (λ n. n < 2 ^ 64) (sym stays.ctime) before.ctime;
              } in
              subst (λ n. IsFileset n w) (sym here_is) (subst (IsFileset id) (same_Some g w same) after)
          | false ↦ λ _ same. lawful.filesets x w same
        ] refl (sym (get-recorded t.filesets id (Some g) x) ∙ there);
    counters = lawful.counters;
  }

-- what holds of the table with the changed record of a checkpoint that stands
pub at_set : (t : Table) (id : ℕ) (change : Fileset → Fileset) (P : Table → Type 0) → is_live t id ≡ true → ((f : Fileset) → map.get t.filesets id ≡ Some f → P (with_fileset t id (Some (change f)))) → P (with_record t id change)
at_set t id change P live each =
    elim (map.get t.filesets id) as (λ o. map.get t.filesets id ≡ o → IsSome o → P (with_fileset t id (option_map change o))) [
      | None ↦ λ _ h. absurd (false≢true h)
      | Some f ↦ λ is _. each f is
    ] refl (stands_live t id live)

-- ---- it keeps no data from now on

pub stays_nodata : (f : Fileset) → StaysOne f (as_nodata f)
stays_nodata f = record { name = refl; gone = refl; keeps = λ none. absurd (false≢true none); ctime = refl }

module _ (t : Table) (id : ℕ) (live : is_live t id ≡ true) where
  pub lawful-with_nodata : IsTable t → IsTable (with_nodata t id)
  lawful-with_nodata lawful = at_set t id as_nodata IsTable live (λ f is. lawful_set t id f (as_nodata f) is (stays_nodata f) lawful)

  pub sound-with_nodata : IsSound t → IsSound (with_nodata t id)
  sound-with_nodata sound = at_set t id as_nodata IsSound live (λ f is. sound_set t id f (as_nodata f) is (stays_nodata f) sound)

  pub newer-with_nodata : (fs : ℕ) → newer (with_nodata t id) fs ≡ newer t fs
  newer-with_nodata fs = at_set t id as_nodata (λ u. newer u fs ≡ newer t fs) live (λ f is. newer_set t id f (as_nodata f) is (stays_nodata f) fs)

  pub live-with_nodata : (fs : ℕ) → is_live (with_nodata t id) fs ≡ is_live t fs
  live-with_nodata fs = at_set t id as_nodata (λ u. is_live u fs ≡ is_live t fs) live (λ f is. live_set t id f (as_nodata f) is (stays_nodata f) fs)

  pub live_ids-with_nodata : live_ids (with_nodata t id) ≡ live_ids t
  live_ids-with_nodata = at_set t id as_nodata (λ u. live_ids u ≡ live_ids t) live (λ f is. live_ids_set t id f (as_nodata f) is (stays_nodata f))

  pub value-with_nodata : (fs : ℕ) (key : Key) → value_of (with_nodata t id) fs key ≡ value_of t fs key
  value-with_nodata fs key = at_set t id as_nodata (λ u. value_of u fs key ≡ value_of t fs key) live (λ f is. value_set t id f (as_nodata f) is (stays_nodata f) fs key)

  pub seen-with_nodata : IsTable t → (fs : ℕ) (key : Key) → fs ≢ id → is_live_data t fs ≡ true → seen (with_nodata t id) fs key ≡ seen t fs key
  seen-with_nodata lawful fs key differs reads = at_set t id as_nodata (λ u. seen u fs key ≡ seen t fs key) live (λ f is. seen_set t id f (as_nodata f) is (stays_nodata f) lawful (lawful_set t id f (as_nodata f) is (stays_nodata f) lawful) fs key differs reads)

  pub keeps-with_nodata : (fs : ℕ) → keeps_data t fs ≡ false → keeps_data (with_nodata t id) fs ≡ false
  keeps-with_nodata fs none = at_set t id as_nodata (λ u. keeps_data u fs ≡ false) live (λ f is. no_data_set t id f (as_nodata f) is (stays_nodata f) fs none)

  pub record_count-with_nodata : record_count (with_nodata t id) ≡ record_count t
  record_count-with_nodata = at_set t id as_nodata (λ u. record_count u ≡ record_count t) live (λ f is. count_set t id f (as_nodata f) is (stays_nodata f))

-- ---- it may be given up, or not

pub stays_removable : (on : Bool) (f : Fileset) → StaysOne f (as_removable on f)
stays_removable on f = record { name = refl; gone = refl; keeps = λ same. same; ctime = refl }

module _ (t : Table) (id : ℕ) (on : Bool) (live : is_live t id ≡ true) where
  pub lawful-with_removable : IsTable t → IsTable (with_removable t id on)
  lawful-with_removable lawful = at_set t id (as_removable on) IsTable live (λ f is. lawful_set t id f (as_removable on f) is (stays_removable on f) lawful)

  pub sound-with_removable : IsSound t → IsSound (with_removable t id on)
  sound-with_removable sound = at_set t id (as_removable on) IsSound live (λ f is. sound_set t id f (as_removable on f) is (stays_removable on f) sound)

  pub live-with_removable : (fs : ℕ) → is_live (with_removable t id on) fs ≡ is_live t fs
  live-with_removable fs = at_set t id (as_removable on) (λ u. is_live u fs ≡ is_live t fs) live (λ f is. live_set t id f (as_removable on f) is (stays_removable on f) fs)

  pub live_ids-with_removable : live_ids (with_removable t id on) ≡ live_ids t
  live_ids-with_removable = at_set t id (as_removable on) (λ u. live_ids u ≡ live_ids t) live (λ f is. live_ids_set t id f (as_removable on f) is (stays_removable on f))

  pub value-with_removable : (fs : ℕ) (key : Key) → value_of (with_removable t id on) fs key ≡ value_of t fs key
  value-with_removable fs key = at_set t id (as_removable on) (λ u. value_of u fs key ≡ value_of t fs key) live (λ f is. value_set t id f (as_removable on f) is (stays_removable on f) fs key)

  pub seen-with_removable : (fs : ℕ) (key : Key) → seen (with_removable t id on) fs key ≡ seen t fs key
  seen-with_removable fs key = at_set t id (as_removable on) (λ u. seen u fs key ≡ seen t fs key) live (λ f is. seen_alike t id f (as_removable on f) is (stays_removable on f) refl fs key)

  pub keeps-with_removable : (fs : ℕ) → keeps_data (with_removable t id on) fs ≡ keeps_data t fs
  keeps-with_removable fs = at_set t id (as_removable on) (λ u. keeps_data u fs ≡ keeps_data t fs) live (λ f is. keeps_alike t id f (as_removable on f) is (stays_removable on f) refl fs)

  pub record_count-with_removable : record_count (with_removable t id on) ≡ record_count t
  record_count-with_removable = at_set t id (as_removable on) (λ u. record_count u ≡ record_count t) live (λ f is. count_set t id f (as_removable on f) is (stays_removable on f))
