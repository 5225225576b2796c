-- What stays as a data block of a checkpoint that keeps no data becomes a mark, and which block is freed.
use Rattle.std.proofs.Common.{◌≡◌, ◌≢◌, ◌↔◌, ℕ, ◌+◌, ◌<◌, Bool, true, false, List, ◌∷◌, inl, inr, Option, Some, None, IsSome, refl, sym, ap, subst, ◌∙◌, arith}
use Rattle.std.specs.Option.{option_map, option_or}
use Rattle.std.specs.FinMap as map
use Rattle.std.proofs.lemmas.Bool.{cases_lt, false≢true}
use Rattle.std.proofs.lemmas.Bool.Decides.{nat_tests}
use Rattle.ck_model.specs.declared.key.Key.{Key}
use Rattle.ck_model.specs.declared.held.Held.{Held}
use Rattle.ck_model.specs.declared.held.Held.TheVariants.{Absent, Extent, Mark}
use Rattle.ck_model.specs.Table.{Table, IsTable, column, newer, record_count, with_entry}
use Rattle.ck_model.specs.Chain.{first_entry, is_live, keeps_data, seen}
use Rattle.ck_model.specs.Rules.{IsNeeded, IsOrderly, IsSound, first_holder}
use Rattle.ck_model.specs.TableWorld.{extent_count}
use Rattle.ck_model.proofs.CaseLaws.{none_some, true_or_false}
use Rattle.ck_chain.specs.Fits.{Fits}
use Rattle.ck_chain.specs.Kept.{read_as}
use Rattle.ck_chain.specs.Named.{IsNamed, block_of, one_of}
use Rattle.ck_chain.specs.Needless.{Says}
use Rattle.ck_chain.proofs.ColumnLaws.{column-with_entry, column-with_entry_other, same_or_other, write_twice}
use Rattle.ck_chain.proofs.CountLaws.{record_count-with_entry}
use Rattle.ck_chain.proofs.HolderLaws.{same_holder, says_still}
use Rattle.ck_chain.proofs.NameLaws.{named_else, named_entry, named_without, named_written, place_of}
use Rattle.ck_chain.proofs.OrderlyLaws.{orderly_with, positive_id, written_or_before}
use Rattle.ck_chain.proofs.ReadLaws.{each_above, entry_reads, live_stands}
use Rattle.ck_remove.specs.Extents.{named_in}
use Rattle.ck_remove.specs.Unseen.{IsUnseen}
use Rattle.ck_remove.proofs.ExtentLaws.{extent_count-with_entry}

-- where no data is kept, a mark reads as the data block
mark_reads : (b : Bool) (stamp block : ℕ) → b ≡ false → read_as b (Some (Mark stamp)) ≡ read_as b (Some (Extent stamp block))
mark_reads true stamp block h = cc
mark_reads false stamp block h = refl

-- a mark says something
says_mark : (t : Table) (c : ℕ → Option Held) (f stamp : ℕ) (rest : List ℕ) → c f ≡ Some (Mark stamp) → Says t (first_holder c (f ∷ rest))
says_mark t c f stamp rest at = subst (λ o. Says t (option_or (option_map (λ entry. (f, entry)) o) (first_holder c rest))) (sym at) (inr (λ e. cc))

-- a data block that is left to strip
pub record IsExtent (t : Table) (f : ℕ) (key : Key) (stamp block : ℕ) : Type 0 where
  pub at : column t key f ≡ Some (Extent stamp block)
  pub live : is_live t f ≡ true
  pub drops : keeps_data t f ≡ false
  pub above : 0 < f

module _ (t : Table) (f : ℕ) (key : Key) (stamp block : ℕ) (is : IsExtent t f key stamp block) where
  -- the table with the mark
  abbrev u : Table
  u = with_entry t f key (Some (Mark stamp))

  stands : IsSome (map.get t.filesets f)
  stands = live_stands t f is.live

  here : column u key f ≡ Some (Mark stamp)
  here = column-with_entry t f key (Some (Mark stamp)) f ∙ grind (arith, nat_tests)

  agrees : (x : ℕ) → x ≢ f → column u key x ≡ column t key x
  agrees x apart = column-with_entry t f key (Some (Mark stamp)) x ∙ grind (arith, nat_tests)

  pub marked_seen : (fs : ℕ) (q : Key) → 0 < fs → seen u fs q ≡ seen t fs q
  marked_seen = entry_reads t f key (Some (Mark stamp)) is.above stands (λ b keeps.
      let fails : b ≡ false = true_or_false b (λ e. false≢true (sym is.drops ∙ keeps e)) in
      ap (λ o. read_as b (option_or o (first_entry (column u key) (newer t f)))) here
      ∙ mark_reads b stamp block fails
      ∙ sym (ap (λ o. read_as b (option_or o (first_entry (column t key) (newer t f)))) is.at))

  -- ---- the rules

  marked_fits : IsOrderly t → Fits t f key (Mark stamp)
  marked_fits rules = record {
    home = inr stands;
    stamp = rules.stamps f key (Extent stamp block) is.at;
    number = rules.numbers f key (Extent stamp block) is.at;
    block = tt;
    primary = λ zero. let above = is.above in absurd (omega (arith, zero, above));
    mark = λ other same. is.drops;
    unshared = λ gs other again named there of_again of_new. absurd (none_some named of_new);
    version = λ gs again other there of_again of_new. rules.versions gs f key again (Extent stamp block) other there is.at of_again of_new;
  }

  -- an absent that was needed still is
  still_needed : (fs : ℕ) (q : Key) → IsNeeded t q fs → IsNeeded u q fs
  still_needed fs q needed = elim (same_or_other q key) [
    | inr other ↦ subst (λ (c : ℕ → Option Held). Says t (first_holder c (newer t fs))) (sym (column-with_entry_other t f key (Some (Mark stamp)) q other)) needed
    | inl same ↦
        let was : Says t (first_holder (column t key) (newer t fs)) = subst (λ k. IsNeeded t k fs) same needed in
        let above = is.above in
        let at_key : IsNeeded u key fs = elim (cases_lt fs f) [
          | inl lower ↦ says_still t (column u key) key fs f lower stands (λ x low high. agrees x (λ e. absurd (omega (arith, e, high))))
              (λ _. says_mark t (column u key) f stamp (newer t f) here) was
          | inr more ↦ subst (Says t) (sym (same_holder (column t key) (column u key) (newer t fs) (agrees 0 (λ e. absurd (omega (arith, e, above))))
              (each_above (λ x. column u key x ≡ column t key x) fs (map.keys t.filesets) (λ x higher. agrees x (λ e. absurd (omega (arith, e, higher, more))))))) was
        ] in
        subst (λ k. IsNeeded u k fs) (sym same) at_key
  ]

  -- and none is new
  absent_before : (fs : ℕ) (q : Key) → column u q fs ≡ Some Absent → column t q fs ≡ Some Absent
  absent_before fs q absent = elim (place_of t f key (Some (Mark stamp)) fs q) [
    | inl there ↦
        let mark : ◌≡◌ {A = Option Held} (Some (Mark stamp)) (Some Absent) = sym (ap (λ k. column u k fs) there.1 ∙ ap (column u key) there.0 ∙ here) ∙ absent in
        cc
    | inr same ↦ sym same ∙ absent
  ]

  pub marked_sound : IsSound t → IsSound u
  marked_sound sound = record {
    orderly = orderly_with t f key (Mark stamp) sound.orderly (marked_fits sound.orderly);
    absents = λ fs q live absent. still_needed fs q (sound.absents fs q live (absent_before fs q absent));
  }

  -- ---- records and data blocks

  marked_records : record_count u ≡ record_count t
  marked_records =
      let count = record_count-with_entry t f key (Some (Mark stamp)) in
      let one : one_of (column t key f) ≡ 1 = ap one_of is.at in
      omega (arith, count, one)

  marked_extents : extent_count u + 1 ≡ extent_count t
  marked_extents =
      let count : extent_count u + named_in (column t key f) ≡ extent_count t + 0 = extent_count-with_entry t f key (Some (Mark stamp)) in
      let one : named_in (column t key f) ≡ 1 = ap named_in is.at in
      omega (arith, count, one)

  named_before : (b : ℕ) → IsNamed u b → IsNamed t b
  named_before b named = elim (named_written t f key (Some (Mark stamp)) b named) [
    | inl before ↦ before
    | inr none ↦ absurd (none_some b none)
  ]

  pub marked_unseen : IsTable t → IsUnseen t u
  marked_unseen lawful =
      let above = is.above in
      let fewer = marked_extents in
      let equal = marked_records in
      record {
        seen = λ fs q live. let least = positive_id t fs lawful (live_stands t fs live) in marked_seen fs q (omega (arith, least));
        primary = λ q. elim (place_of t f key (Some (Mark stamp)) 0 q) [
          | inl there ↦ let zero = there.0 in absurd (omega (arith, zero, above))
          | inr same ↦ same
        ];
        keeps = λ fs. refl;
        dropped = λ fs q s b drops there. elim (written_or_before t f key (Some (Mark stamp)) fs q (Extent s b) there) [
          | inl made ↦ let mark = made.2 in cc
          | inr stood ↦ stood
        ];
        filesets = λ fs kept. refl;
        gone = λ fs gone. inl refl;
        counters = refl;
        blocks = refl;
        limit = refl;
        records = omega (arith, equal);
        extents = omega (arith, fewer);
        named = named_before;
      }

  -- the one block that nothing names any more
  pub marked_freed : IsOrderly t → (b : ℕ) → (◌≡◌ {A = Option ℕ} (Some block) (Some b)) ↔ (IsNamed t b × (IsNamed u b → ⊥))
  marked_freed rules b = (gone, only)
    where
      gone : ◌≡◌ {A = Option ℕ} (Some block) (Some b) → IsNamed t b × (IsNamed u b → ⊥)
      gone same =
          let was : block_of (column t key f) ≡ Some b = ap block_of is.at ∙ same in (
            named_entry t f key (Extent stamp block) b is.at same,
            λ named. elim (named_written (with_entry t f key None) f key (Some (Mark stamp)) b (subst (λ v. IsNamed v b) (sym (write_twice t f key None (Some (Mark stamp)))) named)) [
              | inl left ↦ named_without t f key b rules was left
              | inr none ↦ none_some b none
            ],
          )

      only : IsNamed t b × (IsNamed u b → ⊥) → ◌≡◌ {A = Option ℕ} (Some block) (Some b)
      only both = elim (named_else t f key (Some (Mark stamp)) b both.0) [
        | inl left ↦ absurd (both.1 left)
        | inr was ↦ sym (ap block_of is.at) ∙ was
      ]
