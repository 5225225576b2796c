-- What changes that may be made come to: what each leaves as it was, and that the others may be made then as before.
use Rattle.std.proofs.Common.{◌≡◌, ◌≢◌, ℕ, ◌+◌, ◌<◌, true, false, inl, inr, Option, Some, None, is_some, IsSome, IfSome, List, [], ◌∷◌, refl, sym, ap, subst, ◌∙◌, arith, ◌≤◌}
use Rattle.std.specs.Ordering.{eq_by_cmp, is_eq}
use Rattle.std.specs.FinMap as map
use Rattle.std.proofs.lemmas.Cmp.{tied_itself}
use mathlib.Core.Bool.{false≢true}
use Rattle.ck_model.specs.declared.key.Key.{Key}
use Rattle.ck_model.specs.declared.held.Held.{Held}
use Rattle.ck_model.specs.declared.change.Change.{Change}
use Rattle.ck_model.specs.Key.{key_cmp, key_cmp_total}
use Rattle.ck_model.specs.Held.{IsWord, IsEntry, IsKey}
use Rattle.ck_model.specs.Table.{Table, IsTable, column, with_entry, record_count, newer}
use Rattle.ck_model.specs.Chain.{newest_live_of, seen, is_live}
use Rattle.ck_model.specs.Rules.{IsOrderly, IsSound}
use Rattle.ck_model.proofs.CaseLaws.{some_is, none_some}
use Rattle.ck_chain.specs.Named.{block_of, IsNamed}
use Rattle.ck_chain.specs.Changes.{key_of, value_after}
use Rattle.ck_chain.proofs.ColumnLaws.{same_or_other, column-with_entry}
use Rattle.ck_chain.proofs.PushedLaws.{entry_pushed}
use Rattle.ck_chain.proofs.OrderlyLaws.{written_or_before, positive_id}
use Rattle.ck_chain.proofs.TidyLaws.{column-tidied, tidied_reads}
use Rattle.ck_chain.proofs.ReadLaws.{live_stands, last_passes}
use Rattle.ck_push.specs.Changed.{changed, push_of, replaced, tidied_in, with_push}
use Rattle.ck_push.specs.Growth.{gain, loss, gains, losses}
use Rattle.ck_push.specs.Changes.{IsChange, AreMade, MayChangeAll, AllApart, IsApart, MayChange, changed_all}
use Rattle.ck_push.proofs.ReplacedLemmas.{after_push, replaced_in_steps}
use Rattle.ck_push.proofs.PushLemmas.{Comes, entry_comes, push_facts, push_apart}
use Rattle.ck_push.proofs.SeenLemmas.{replaced_reads, other_tidied, other_replaced}
use Rattle.ck_push.proofs.NeedLemmas.{sound_changed}
use Rattle.ck_push.proofs.CountLemmas.{count_changed}
use Rattle.ck_push.proofs.ReleaseLemmas.{changed_named}
use Rattle.ck_push.proofs.RoomLemmas.{gain_stays, loss_stays}
use Rattle.ck_push.proofs.ChangeLemmas.{deletes, may_set, entry_stays, bare_stays, push_stays, own_value}

-- what the reader of each checkpoint that isn't gone sees stays
pub changed_reads : (t : Table) (key : Key) (new : Option Held) → IsTable t → (fs : ℕ) (q : Key) → is_live t fs ≡ true → seen (changed t key new) fs q ≡ seen t fs q
changed_reads t key new lawful fs q live =
    let u = replaced t key (push_of t key) new in
    let positive : (id : ℕ) → IsSome (map.get t.filesets id) → 1 ≤ id = λ id stands. positive_id t id lawful stands in
    let above : 0 < fs = positive fs (live_stands t fs live) in
    elim (newest_live_of t) as (λ o. IfSome o (λ n. is_live t n ≡ true) → seen (tidied_in u key o) fs q ≡ seen u fs q) [
      | None ↦ λ passes. refl
      | Some n ↦ λ passes. let stands = live_stands t n passes in tidied_reads u n key (positive n stands) stands fs q above
    ] (last_passes (is_live t) (newer t 0))
    ∙ replaced_reads t key new positive fs q live

-- no other key's entries change
pub others_stay : (t : Table) (key : Key) (new : Option Held) (q : Key) → q ≢ key → column (changed t key new) q ≡ column t q
others_stay t key new q differ =
    other_tidied (replaced t key (push_of t key) new) key (newest_live_of t) q differ
    ∙ other_replaced t key (push_of t key) new q differ

-- the primary's entry is the new one
pub primary_changed : (t : Table) (key : Key) (new : Option Held) → IsTable t → column (changed t key new) key 0 ≡ new
primary_changed t key new lawful =
    let u = replaced t key (push_of t key) new in
    elim (newest_live_of t) as (λ o. IfSome o (λ n. is_live t n ≡ true) → column (tidied_in u key o) key 0 ≡ column u key 0) [
      | None ↦ λ passes. refl
      | Some n ↦ λ passes.
          let above = positive_id t n lawful (live_stands t n passes) in
          elim (column-tidied u n key 0 key) [ inl same ↦ same | inr gone ↦ let zero = gone.0 in absurd (omega arith) ]
    ] (last_passes (is_live t) (newer t 0))
    ∙ column-with_entry (record t { entries = with_push t.entries key (push_of t key) }) 0 key new 0

-- ---- its records are within their limits

-- what stands after the tidying stood before
before_tidied : (u : Table) (key : Key) (o : Option ℕ) (fs : ℕ) (q : Key) (held : Held) → column (tidied_in u key o) q fs ≡ Some held → column u q fs ≡ Some held
before_tidied u key None fs q held h = h
before_tidied u key (Some n) fs q held h = elim (column-tidied u n key fs q) [
  | inl same ↦ sym same ∙ h
  | inr gone ↦ absurd (none_some held (sym gone.3 ∙ h))
]

comes_entry : (t : Table) (key : Key) (fs : ℕ) (held : Held) → IsTable t → IsKey key → Comes t key fs key held → IsEntry key held
comes_entry t key fs held lawful place comes = elim comes [
  | inl stood ↦ (lawful.entries fs key held stood).1
  | inr rest ↦ elim rest [
    | inl moved ↦ let old = moved.1 in subst (IsEntry key) (sym old.1.1.1) (entry_pushed old.1.1.0 key old.0 (lawful.entries 0 key old.0 old.1.0).1)
    | inr absent ↦ subst (IsEntry key) (sym absent) (record { place = place; value = tt })
  ]
]

entry_here : (t : Table) (key : Key) (new : Option Held) → IsTable t → IsKey key → IfSome new (IsEntry key) → (fs : ℕ) (held : Held) → column (changed t key new) key fs ≡ Some held → IsEntry key held
entry_here t key new lawful place entry fs held has =
    let u = replaced t key (push_of t key) new in
    let replaced_has : column u key fs ≡ Some held = before_tidied u key (newest_live_of t) fs key held has in
    let v = after_push (with_entry t 0 key None) key (push_of t key) in
    let steps : column (with_entry v 0 key new) key fs ≡ Some held = ap (λ (x : Table). column x key fs) (replaced_in_steps t key (push_of t key) new (push_apart t key lawful)) ∙ replaced_has in
    elim (written_or_before v 0 key new fs key held steps) [
      | inl is ↦ subst (λ o. IfSome o (IsEntry key)) is.2 entry
      | inr stood ↦ comes_entry t key fs held lawful place (entry_comes t key (push_of t key) (push_facts t key) fs key held stood)
    ]

-- each record is within its limits after a change
lawful_changed : (t : Table) (key : Key) (new : Option Held) → IsTable t → IsOrderly (changed t key new) → IsKey key → IfSome new (IsEntry key) → IsTable (changed t key new)
lawful_changed t key new lawful orderly place entry = record {
  entries = λ fs q held has. (
    word fs q held has,
    elim (same_or_other q key) [
      | inl same ↦ subst (λ k. IsEntry k held) (sym same) (entry_here t key new lawful place entry fs held (ap (λ k. column (changed t key new) k fs) (sym same) ∙ has))
      | inr other ↦ (lawful.entries fs q held (ap (λ (c : ℕ → Option Held). c fs) (sym (others_stay t key new q (apart q key other))) ∙ has)).1
    ],
  );
  filesets = lawful.filesets;
  counters = lawful.counters;
}
  where
    apart : (q k : Key) → eq_by_cmp key_cmp q k ≡ false → q ≢ k
    apart q k other same = false≢true (sym other ∙ ap (λ x. eq_by_cmp key_cmp x k) same ∙ ap is_eq (tied_itself key_cmp_total k))

    word : (fs : ℕ) (q : Key) (held : Held) → column (changed t key new) q fs ≡ Some held → IsWord fs
    word fs q held has = elim (orderly.homes fs q (ap is_some has)) [
      | inl first ↦ subst IsWord (sym first) (omega arith)
      | inr there ↦ let f = some_is (map.get t.filesets fs) there in (lawful.filesets fs f.0 f.1).word
    ]

-- ---- one change, which may be made

module _ (t : Table) (item : Change) (stamp : ℕ) (lawful : IsTable t) (sound : IsSound t) (below : stamp < t.counters.stamp) (may : MayChange t item stamp) where
  abbrev after : Table
  after = changed t (key_of item) (value_after item stamp)

  pub sound_after : IsSound after
  sound_after = sound_changed t (key_of item) (value_after item stamp) lawful sound may.below (may_set t item stamp below may.version may.numbers may.block)

  pub lawful_after : IsTable after
  lawful_after = lawful_changed t (key_of item) (value_after item stamp) lawful sound_after.orderly may.key may.entry

  pub counted_after : record_count after + loss t item ≡ record_count t + gain t item
  counted_after = count_changed t item stamp lawful sound.orderly (λ none. may.deleted (deletes item stamp none))

  -- a change of another key may be made then as before
  pub may_after : (other : Change) → IsApart stamp item other → MayChange t other stamp → MayChange after other stamp
  may_after other apart again =
      let same : column after (key_of other) ≡ column t (key_of other) = others_stay t (key_of item) (value_after item stamp) (key_of other) apart.key in
      record {
        key = again.key;
        below = again.below;
        deleted = λ is. subst IsSome (ap (λ (c : ℕ → Option Held). c 0) (sym same)) (again.deleted is);
        entry = again.entry;
        version = λ fs held has. again.version fs held (ap (λ (c : ℕ → Option Held). c fs) (sym same) ∙ has);
        numbers = again.numbers;
        block = free_after other apart again;
      }
    where
      free_after : (other : Change) → IsApart stamp item other → MayChange t other stamp → IfSome (block_of (value_after other stamp)) (λ b. (b < t.blocks) × (IsNamed after b → ⊥))
      free_after other apart again = elim (block_of (value_after other stamp)) as (λ o. block_of (value_after other stamp) ≡ o → IfSome o (λ b. (b < t.blocks) × (IsNamed t b → ⊥)) → IfSome o (λ b. (b < t.blocks) × (IsNamed after b → ⊥))) [
        | None ↦ λ _ _. tt
        | Some b ↦ λ is free. (
          free.0,
          λ named. elim (changed_named t (key_of item) (value_after item stamp) b lawful named) [
            | inl was ↦ free.1 was
            | inr new ↦ apart.block b new is
          ],
        )
      ] refl again.block

  pub may_all_after : (others : List Change) → AllApart stamp item others → MayChangeAll t others stamp → MayChangeAll after others stamp
  may_all_after [] apart may = tt
  may_all_after (other ∷ others) apart may = (may_after other apart.0 may.0, may.1, may_all_after others apart.1 may.2)

-- ---- all that a change does

pub is_change : (t : Table) (item : Change) (stamp : ℕ) → IsTable t → IsSound t → stamp < t.counters.stamp → MayChange t item stamp → IsChange t item stamp (changed t (key_of item) (value_after item stamp))
is_change t item stamp lawful sound below may =
    let key = key_of item in
    let new = value_after item stamp in
    record {
      changed = refl;
      primary = primary_changed t key new lawful;
      pushed = push_stays t key new lawful sound.orderly (own_value item stamp) (λ none. may.deleted (deletes item stamp none));
      stays = λ fs above some. entry_stays t key new lawful fs above some;
      bare = λ fs above apart none. bare_stays t key new fs above apart none;
      others = λ q differ. others_stay t key new q differ;
      filesets = refl;
      counters = refl;
      blocks = refl;
      limit = refl;
      kept = λ fs q live. changed_reads t key new lawful fs q live;
      lawful = lawful_after t item stamp lawful sound below may;
      sound = sound_after t item stamp lawful sound below may;
      named = λ block named. changed_named t key new block lawful named;
      records = counted_after t item stamp lawful sound below may;
    }

-- ---- all of them

pub gains_stay : (t : Table) (item : Change) (stamp : ℕ) → (others : List Change) → AllApart stamp item others → gains (changed t (key_of item) (value_after item stamp)) others ≡ gains t others
gains_stay t item stamp [] apart = refl
gains_stay t item stamp (other ∷ others) apart = λ i.
    gain_stays t (changed t (key_of item) (value_after item stamp)) other refl (others_stay t (key_of item) (value_after item stamp) (key_of other) apart.0.key) i
    + gains_stay t item stamp others apart.1 i

pub losses_stay : (t : Table) (item : Change) (stamp : ℕ) → (others : List Change) → AllApart stamp item others → losses (changed t (key_of item) (value_after item stamp)) others ≡ losses t others
losses_stay t item stamp [] apart = refl
losses_stay t item stamp (other ∷ others) apart = λ i.
    loss_stays t (changed t (key_of item) (value_after item stamp)) other refl (others_stay t (key_of item) (value_after item stamp) (key_of other) apart.0.key) i
    + losses_stay t item stamp others apart.1 i

pub are_made : (t : Table) (items : List Change) (stamp : ℕ) → IsTable t → IsSound t → stamp < t.counters.stamp → MayChangeAll t items stamp → AreMade t (changed_all t items stamp) items
are_made t [] stamp lawful sound below may = record { lawful = lawful; sound = sound; filesets = refl; counters = refl; blocks = refl; records = refl; counted = refl }
are_made t (item ∷ items) stamp lawful sound below may =
    let u = changed t (key_of item) (value_after item stamp) in
    let rest = are_made u items stamp (lawful_after t item stamp lawful sound below may.0) (sound_after t item stamp lawful sound below may.0) below (may_all_after t item stamp lawful sound below may.0 items may.1 may.2) in
    let counted = counted_after t item stamp lawful sound below may.0 in
    record {
      lawful = rest.lawful;
      sound = rest.sound;
      filesets = rest.filesets;
      counters = rest.counters;
      blocks = rest.blocks;
      records = rest.records;
      counted = omega (arith, counted, rest.counted, gains_stay t item stamp items may.1, losses_stay t item stamp items may.1);
    }
