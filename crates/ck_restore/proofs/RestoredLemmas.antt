-- The table once all entries from a checkpoint on have moved into the primary, and its record goes.
use Rattle.std.proofs.Common.{◌≡◌, ℕ, ◌<◌, ◌≤◌, true, false, cond, not, ◌&&◌, inl, inr, [], ◌∷◌, Some, None, is_some, IsSome, if◌then◌else◌, nat_eq, nat_lt, refl, sym, ap, ◌∙◌, arith}
use Rattle.std.specs.Option.{option_or, option_map, option_map_or}
use Rattle.std.specs.FinMap as map
use Rattle.std.proofs.lemmas.Bool.{and_parts, cases_lt, false≢true}
use Rattle.std.proofs.lemmas.Bool.Decides.{nat_tests}
use Rattle.ck_model.specs.declared.key.Key.{Key}
use Rattle.ck_model.specs.declared.held.Held.{Held}
use Rattle.ck_model.specs.declared.held.Held.TheVariants.{Absent, Plain, Extent, Mark}
use Rattle.ck_model.specs.declared.checkpoint.Fileset.{Fileset}
use Rattle.ck_model.specs.World.{keeps_files}
use Rattle.ck_model.specs.Table.{Table, IsTable, column, newer, record_count, with_fileset}
use Rattle.ck_model.specs.Chain.{as_mark, first_entry, is_live, is_live_data, keeps_data, present, seen, value_of}
use Rattle.ck_model.specs.Rules.{IsOrderly, IsOwn, IsSound}
use Rattle.ck_chain.proofs.OrderlyLaws.{positive_id}
use Rattle.ck_table.proofs.IdLaws.{get-recorded_other, get-recorded_same}
use Rattle.ck_restore.specs.Older.{LeavesOlder, OlderNeeded}
use Rattle.ck_restore.proofs.NewestLemmas.{none_behind}
use Rattle.ck_restore.proofs.UnlinkedLemmas.{data_stands, fewer_filesets, own_data, unlinked_needed, unlinked_older, unlinked_orderly}

data_live : (t : Table) (fs : ℕ) → is_live_data t fs ≡ true → is_live t fs ≡ true
data_live t fs h = elim (map.get t.filesets fs) as (λ o. option_map_or (λ (f : Fileset). not f.gone && keeps_files f.kind) o false ≡ true → option_map_or (λ (f : Fileset). not f.gone) o false ≡ true) [
  | None ↦ λ no_one. no_one
  | Some f ↦ λ both. (and_parts (not f.gone) (keeps_files f.kind) both).0
] h

whole : (t : Table) (fs : ℕ) (key : Key) → keeps_data t fs ≡ true → seen t fs key ≡ value_of t fs key
whole t fs key keeps = ap (λ b. cond b (value_of t fs key) (option_map as_mark (value_of t fs key))) keeps

own_present : (held : Held) → IsOwn held → present (Some held) ≡ Some held
own_present Absent own = absurd own
own_present (Plain stamp small) own = refl
own_present (Extent stamp block) own = refl
own_present (Mark stamp) own = absurd own

module _ (t m : Table) (id : ℕ) (lawful : IsTable t) (after : IsTable m) (holds : is_live_data t id ≡ true) (older : LeavesOlder id t m) (none : newer m id ≡ []) (empty : (key : Key) → column m key id ≡ None) (orderly : IsOrderly m) (needed : OlderNeeded m id) where
  abbrev u : Table
  u = with_fileset m id None

  stands : IsSome (map.get m.filesets id)
  stands = ap is_some (older.filesets id (omega arith)) ∙ data_stands t id holds

  above : 1 ≤ id
  above = positive_id m id after stands

  holds_now : is_live_data m id ≡ true
  holds_now = ap (λ o. option_map_or (λ (f : Fileset). not f.gone && keeps_files f.kind) o false) (older.filesets id (omega arith)) ∙ holds

  primary_shown : (key : Key) → present (column m key 0) ≡ column m key 0
  primary_shown key = elim (column m key 0) as (λ o. column m key 0 ≡ o → present o ≡ o) [
    | None ↦ λ _. refl
    | Some held ↦ λ is. own_present held (orderly.primary key held is)
  ] refl

  -- the primary has what the checkpoint had
  pub restored_primary : (key : Key) → column u key 0 ≡ value_of t id key
  restored_primary key =
      sym (primary_shown key)
      ∙ sym (ap (λ ids. present (first_entry (column m key) (id ∷ ids))) none ∙ ap (λ o. present (option_or o (column m key 0))) (empty key))
      ∙ sym (whole m id key (own_data m id after holds_now))
      ∙ older.seen id key (data_live t id holds) (omega arith)
      ∙ whole t id key (own_data t id lawful holds)

  -- none that is newer stands
  away : (fs : ℕ) → id ≤ fs → map.get u.filesets fs ≡ None
  away fs past = elim (cases_lt id fs) [
    | inl more ↦
        let apart : nat_eq fs id ≡ false = grind (arith, nat_tests) in
        get-recorded_other m.filesets id None fs apart
        ∙ elim (map.get m.filesets fs) as (λ o. map.get m.filesets fs ≡ o → o ≡ None) [
          | None ↦ λ _. refl
          | Some f ↦ λ is. absurd (none_behind m id fs none more (ap is_some is))
        ] refl
    | inr le ↦
        let same : fs ≡ id = omega arith in
        ap (map.get u.filesets) same ∙ get-recorded_same m.filesets id None
  ]

  pub restored_filesets : (fs : ℕ) → map.get u.filesets fs ≡ (if nat_lt fs id then map.get t.filesets fs else None)
  restored_filesets fs = elim (cases_lt fs id) [
    | inl lower ↦
        let test : nat_lt fs id ≡ true = grind (arith, nat_tests) in
        let apart : nat_eq fs id ≡ false = grind (arith, nat_tests) in
        get-recorded_other m.filesets id None fs apart ∙ older.filesets fs (omega arith)
        ∙ sym (ap (λ b. cond b (map.get t.filesets fs) None) test)
    | inr past ↦
        let test : nat_lt fs id ≡ false = grind (arith, nat_tests) in
        away fs past ∙ sym (ap (λ b. cond b (map.get t.filesets fs) None) test)
  ]

  pub restored_orderly : IsOrderly u
  restored_orderly = unlinked_orderly m id stands empty orderly

  pub restored_entries : (fs : ℕ) (key : Key) → id ≤ fs → column u key fs ≡ None
  restored_entries fs key past = elim (column u key fs) as (λ o. column u key fs ≡ o → o ≡ None) [
    | None ↦ λ _. refl
    | Some held ↦ λ is. elim (restored_orderly.homes fs key (ap is_some is)) [
      | inl zero ↦ let least = above in absurd (omega arith)
      | inr there ↦ absurd (false≢true (sym (ap is_some (away fs past)) ∙ there))
    ]
  ] refl

  pub restored_kept : (fs : ℕ) (key : Key) → is_live t fs ≡ true → fs < id → seen u fs key ≡ seen t fs key
  restored_kept fs key live lower =
      let now : is_live m fs ≡ true = ap (λ o. option_map_or (λ (f : Fileset). not f.gone) o false) (older.filesets fs (omega arith)) ∙ live in
      (unlinked_older m id stands empty fs lower).seen fs key now (omega arith) ∙ older.seen fs key live (omega arith)

  pub restored_records : record_count u ≤ record_count t
  restored_records =
      let fewer = fewer_filesets m id stands empty in
      let before = older.records in
      omega (arith, fewer, before)

  pub restored_sound : IsSound u
  restored_sound = record {
    orderly = restored_orderly;
    absents = λ fs key live absent. elim (cases_lt fs id) [
      | inl lower ↦ unlinked_needed m id stands empty id needed fs key live lower absent
      | inr past ↦ absurd (false≢true (sym (ap (λ o. option_map_or (λ (f : Fileset). not f.gone) o false) (away fs past)) ∙ live))
    ];
  }
