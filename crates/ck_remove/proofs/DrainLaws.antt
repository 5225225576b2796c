-- Every table comes to one in which no checkpoint is gone, step by step and seen by nobody.
use Rattle.std.proofs.Common.{◌≡◌, ℕ, zero, suc, ◌+◌, ◌≤◌, true, false, not, cond, inl, inr, List, [], ◌∷◌, Option, Some, None, is_some, IsSome, IfSome, nat_eq, refl, sym, ap, subst, ◌∙◌, le_refl, arith}
use Rattle.std.specs.FinMap as map
use Rattle.std.specs.Option.{option_map, option_map_or}
use Rattle.std.proofs.lemmas.Bool.{false≢true, false_from_ne_true}
use Rattle.std.proofs.lemmas.Bool.Decides.{nat_tests}
use Rattle.ck_model.specs.declared.key.Key.{Key}
use Rattle.ck_model.specs.declared.held.Held.{Held}
use Rattle.ck_model.specs.declared.checkpoint.Fileset.{Fileset}
use Rattle.ck_model.specs.Held.{IsEntry, IsWord}
use Rattle.ck_model.specs.Table.{Table, IsTable, column, keys_in, with_entry, with_fileset}
use Rattle.ck_model.specs.Chain.{is_gone, is_live, keeps_data}
use Rattle.ck_model.specs.Placed.{NoneGone}
use Rattle.ck_model.specs.Rules.{IsOrderly, IsSound}
use Rattle.ck_model.proofs.CaseLaws.{none_some, some_is, some_same}
use Rattle.ck_chain.specs.Kept.{pushed}
use Rattle.ck_chain.specs.Needless.{tidied}
use Rattle.ck_chain.proofs.ColumnLaws.{column-with_entry, column-with_entry_other, same_or_other}
use Rattle.ck_chain.proofs.PushedLaws.{entry_pushed}
use Rattle.ck_chain.proofs.TidyLaws.{column-tidied}
use Rattle.ck_table.proofs.IdLaws.{get-recorded}
use Rattle.ck_table.proofs.LeaveLaws.{record_count-unlinked, seen-unlinked, sound-unlinked}
use Rattle.ck_remove.specs.declared.gone.GoneEntry.{GoneEntry}
use Rattle.ck_remove.specs.Drained.{IsDrained}
use Rattle.ck_remove.specs.Gone.{first_of, left_of, oldest_gone, work_of}
use Rattle.ck_remove.specs.Removal.{moved, older, stepped, tidied_each, without}
use Rattle.ck_remove.specs.Unseen.{IsUnseen}
use Rattle.ck_remove.proofs.OldestLemmas.{IsOldest, first_held, gone_stands, live_where_not_gone, none_gone, none_held, oldest_is, work_parts}
use Rattle.ck_remove.proofs.OlderLemmas.{taken_cases}
use Rattle.ck_remove.proofs.MoveLemmas.{after}
use Rattle.ck_remove.proofs.SoundLemmas.{sound_without}
use Rattle.ck_remove.proofs.LeftLemmas.{left_unlinked, left_without}
use Rattle.ck_remove.proofs.UnseenLemmas.{unseen_unlinked, unseen_without}

-- ---- a table's entries stay entries

abbrev AreEntries : Table → Type 0
AreEntries t = (fs : ℕ) (key : Key) (held : Held) → column t key fs ≡ Some held → IsEntry key held

entries_with : (t : Table) (f : ℕ) (key : Key) (w : Option Held) → AreEntries t → IfSome w (IsEntry key) → AreEntries (with_entry t f key w)
entries_with t f key w are entry fs q held has =
    elim (same_or_other q key) [
      | inr other ↦ are fs q held (sym (ap (λ (c : ℕ → Option Held). c fs) (column-with_entry_other t f key w q other)) ∙ has)
      | inl same ↦
          let here : column (with_entry t f key w) key fs ≡ Some held = ap (λ k. column (with_entry t f key w) k fs) (sym same) ∙ has in
          subst (λ k. IsEntry k held) (sym same) (written w entry (sym (column-with_entry t f key w fs) ∙ here))
    ]
  where
    written : (w : Option Held) → IfSome w (IsEntry key) → cond (nat_eq fs f) w (column t key fs) ≡ Some held → IsEntry key held
    written w entry is =
        elim (nat_eq fs f) as (λ b. cond b w (column t key fs) ≡ Some held → IsEntry key held) [
          | true ↦ λ own. subst (λ o. IfSome o (IsEntry key)) own entry
          | false ↦ λ before. are fs key held before
        ] is

entries_moved : (t : Table) (g : ℕ) (key : Key) (h : Held) → IsTable t → column t key g ≡ Some h → AreEntries (moved t g key)
entries_moved t g key h lawful at =
    let are : AreEntries t = λ fs q held has. (lawful.entries fs q held has).1 in
    let away = entries_with t g key None are tt in
    taken_cases t g key h (λ taken. AreEntries (after t g key taken)) lawful at
    (λ none. away)
    (λ n own next there. away)
    (λ n next bare. entries_with (with_entry t g key None) n key (Some (pushed (keeps_data t n) (Some h))) away (entry_pushed (keeps_data t n) key h (are g key h at)))

entries_each : (u : Table) (key : Key) (ids : List ℕ) → AreEntries u → AreEntries (tidied_each u key ids)
entries_each u key [] are = are
entries_each u key (f ∷ ids) are = λ fs q held has. elim (column-tidied (tidied_each u key ids) f key fs q) [
  | inl same ↦ entries_each u key ids are fs q held (sym same ∙ has)
  | inr away ↦ absurd (none_some held (sym away.3 ∙ has))
]

-- the home of an entry has an id that is a word
words_of : (t u : Table) → IsTable t → IsOrderly u → u.filesets ≡ t.filesets → (fs : ℕ) (key : Key) → IsSome (column u key fs) → IsWord fs
words_of t u lawful orderly same fs key some = elim (orderly.homes fs key some) [
  | inl first ↦ subst IsWord (sym first) (omega arith)
  | inr there ↦ let f = some_is (map.get u.filesets fs) there in (lawful.filesets fs f.0 (ap (λ m. map.get m fs) (sym same) ∙ f.1)).word
]

lawful_without : (t : Table) (g : ℕ) (key : Key) (h : Held) → IsTable t → IsOrderly (without t g (Some key)) → column t key g ≡ Some h → IsTable (without t g (Some key))
lawful_without t g key h lawful orderly at =
    let u = without t g (Some key) in
    record {
      entries = λ fs q held has. (words_of t u lawful orderly refl fs q (ap is_some has), entries_each (moved t g key) key (older t g) (entries_moved t g key h lawful at) fs q held has);
      filesets = lawful.filesets;
      counters = lawful.counters;
    }

lawful_unlinked : (t : Table) (g : ℕ) → IsTable t → IsTable (with_fileset t g None)
lawful_unlinked t g lawful = record {
  entries = lawful.entries;
  filesets = λ id fileset is. lawful.filesets id fileset (elim (nat_eq id g) as (λ b. cond b None (map.get t.filesets id) ≡ Some fileset → map.get t.filesets id ≡ Some fileset) [
    | true ↦ λ none. absurd (none_some fileset none)
    | false ↦ λ there. there
  ] (sym (get-recorded t.filesets g None id) ∙ is));
  counters = lawful.counters;
}

-- ---- one step

record IsStep (t u : Table) : Type 0 where
  lawful : IsTable u
  sound : IsSound u
  unseen : IsUnseen t u
  left : left_of u + 1 ≡ left_of t

step_is : (t : Table) (item : GoneEntry) → IsTable t → IsSound t → work_of t ≡ Some item → IsStep t (stepped t item)
step_is t item lawful sound is =
    let work = work_parts t item is in
    let oldest = oldest_is t item.id lawful work.oldest in
    elim item.key as (λ o. item.key ≡ o → IsStep t (without t item.id o)) [
      | Some key ↦ λ some.
          let held = some_is (column t key item.id) (first_held t item.id key (work.least ∙ some)) in
          let after = sound_without t item.id key held.0 lawful sound oldest held.1 in
          record {
            lawful = lawful_without t item.id key held.0 lawful after.orderly held.1;
            sound = after;
            unseen = unseen_without t item.id key held.0 lawful oldest held.1;
            left = left_without t item.id key held.0 lawful oldest held.1;
          }
      | None ↦ λ none.
          let empty = (none_held t item.id (work.least ∙ none)).1 in
          record {
            lawful = lawful_unlinked t item.id lawful;
            sound = sound-unlinked t item.id oldest.gone empty sound;
            unseen = unseen_unlinked t item.id oldest.gone empty (seen-unlinked t item.id oldest.gone empty) (record_count-unlinked t item.id oldest.gone);
            left = left_unlinked t item.id lawful oldest.gone empty;
          }
    ] refl

-- ---- one after the other

gone_after : (old new : Table) → IsUnseen old new → (fs : ℕ) → is_live old fs ≡ true → is_live new fs ≡ true
gone_after old new unseen fs live =
    let kept = unseen.filesets fs (not_gone (map.get old.filesets fs) live) in
    ap (λ o. option_map_or (λ (f : Fileset). not f.gone) o false) kept ∙ live
  where
    not_gone : (o : Option Fileset) → option_map_or (λ (f : Fileset). not f.gone) o false ≡ true → option_map_or (λ (f : Fileset). f.gone) o false ≡ false
    not_gone None h = refl
    not_gone (Some f) h = elim f.gone as (λ b. not b ≡ true → b ≡ false) [ true ↦ λ is. sym is | false ↦ λ _. refl ] h

pub unseen_itself : (t : Table) → IsUnseen t t
unseen_itself t = record {
  seen = λ fs key live. refl;
  primary = λ key. refl;
  keeps = λ fs. refl;
  dropped = λ fs key stamp block drops there. there;
  filesets = λ fs kept. refl;
  gone = λ fs gone. inl refl;
  counters = refl;
  blocks = refl;
  limit = refl;
  records = omega arith;
  extents = omega arith;
  named = λ block named. named;
}

pub unseen_both : (t u v : Table) → IsUnseen t u → IsUnseen u v → IsUnseen t v
unseen_both t u v first second = record {
  seen = λ fs key live. second.seen fs key (gone_after t u first fs live) ∙ first.seen fs key live;
  primary = λ key. second.primary key ∙ first.primary key;
  keeps = λ fs. second.keeps fs ∙ first.keeps fs;
  dropped = λ fs key stamp block drops there. first.dropped fs key stamp block drops (second.dropped fs key stamp block (first.keeps fs ∙ drops) there);
  filesets = λ fs kept. let same = first.filesets fs kept in second.filesets fs (ap (λ o. option_map_or (λ (f : Fileset). f.gone) o false) same ∙ kept) ∙ same;
  gone = λ fs gone. elim (first.gone fs gone) [
    | inl stays ↦ elim (second.gone fs (ap (λ o. option_map_or (λ (f : Fileset). f.gone) o false) stays ∙ gone)) [ inl still ↦ inl (still ∙ stays) | inr left ↦ inr left ]
    | inr left ↦ inr (second.filesets fs (ap (λ o. option_map_or (λ (f : Fileset). f.gone) o false) left) ∙ left)
  ];
  counters = second.counters ∙ first.counters;
  blocks = second.blocks ∙ first.blocks;
  limit = second.limit ∙ first.limit;
  records = let one = first.records in let two = second.records in omega (arith, one, two);
  extents = let one = first.extents in let two = second.extents in omega (arith, one, two);
  named = λ block named. first.named block (second.named block named);
}

none_left : (t : Table) → ((fs : ℕ) → is_gone t fs ≡ false) → NoneGone t
none_left t none id fileset is = sym (ap (λ o. option_map_or (λ (f : Fileset). f.gone) o false) is) ∙ none id

no_work : (t : Table) → work_of t ≡ None → oldest_gone t ≡ None
no_work t is = unfound (oldest_gone t) is
  where
    unfound : (o : Option ℕ) → ◌≡◌ {A = Option GoneEntry} (option_map (λ id. record { id = id; key = first_of (keys_in t id) }) o) None → o ≡ None
    unfound None h = refl
    unfound (Some id) h = absurd (none_some (record { id = id; key = first_of (keys_in t id) }) (sym h))

done : (t : Table) → IsTable t → IsSound t → work_of t ≡ None → (u : Table) × IsDrained t u
done t lawful sound none = (t, record { lawful = lawful; sound = sound; unseen = unseen_itself t; none = none_left t (none_gone t lawful (no_work t none)) })

-- with so many steps left at most
drained_in : (n : ℕ) (t : Table) → IsTable t → IsSound t → left_of t ≤ n → (u : Table) × IsDrained t u
drained_in zero t lawful sound few =
    elim (work_of t) as (λ o. work_of t ≡ o → (u : Table) × IsDrained t u) [
      | None ↦ λ none. done t lawful sound none
      | Some item ↦ λ is. let left = (step_is t item lawful sound is).left in absurd (omega (arith, few, left))
    ] refl
drained_in (suc n) t lawful sound few =
    elim (work_of t) as (λ o. work_of t ≡ o → (u : Table) × IsDrained t u) [
      | None ↦ λ none. done t lawful sound none
      | Some item ↦ λ is.
          let step = step_is t item lawful sound is in
          let left = step.left in
          let rest = drained_in n (stepped t item) step.lawful step.sound (omega (arith, few, left)) in
          let drained = rest.1 in
          (rest.0, record { lawful = drained.lawful; sound = drained.sound; unseen = unseen_both t (stepped t item) rest.0 step.unseen drained.unseen; none = drained.none })
    ] refl

-- every table comes to such a one
pub drained : (t : Table) → IsTable t → IsSound t → (u : Table) × IsDrained t u
drained t lawful sound = drained_in (left_of t) t lawful sound (le_refl (left_of t))
