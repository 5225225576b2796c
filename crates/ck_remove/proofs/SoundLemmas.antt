-- All rules hold once an entry of the oldest checkpoint that is gone is removed.
use Rattle.std.proofs.Common.{◌≡◌, ◌≢◌, ℕ, ◌<◌, true, false, inl, inr, Option, Some, sym, ap, subst, ◌∙◌, arith}
use Rattle.std.specs.Ordering.{eq_by_cmp}
use Rattle.std.specs.FinMap as map
use Rattle.ck_model.specs.declared.key.Key.{Key}
use Rattle.ck_model.specs.declared.held.Held.{Held}
use Rattle.ck_model.specs.Key.{key_cmp}
use Rattle.ck_model.specs.Table.{Table, IsTable, column, newer}
use Rattle.ck_model.specs.Chain.{is_live}
use Rattle.ck_model.specs.Rules.{IsSound, first_holder}
use Rattle.ck_chain.proofs.ColumnLaws.{same_or_other}
use Rattle.ck_chain.proofs.HolderLaws.{same_holder}
use Rattle.ck_chain.specs.Needless.{Says}
use Rattle.ck_chain.proofs.ReadLaws.{each_above, live_stands}
use Rattle.ck_chain.proofs.OrderlyLaws.{positive_id}
use Rattle.ck_remove.specs.Removal.{moved, older, without}
use Rattle.ck_remove.proofs.OldestLemmas.{IsOldest}
use Rattle.ck_remove.proofs.OlderLemmas.{live_place, older_has, older_live}
use Rattle.ck_remove.proofs.EachLemmas.{IdsPositive, NeededAt, each_here, each_needed, each_orderly}
use Rattle.ck_remove.proofs.MoveLemmas.{moved_elsewhere, moved_other, orderly_moved}

-- an absent at any other key is needed as it was
needed_other : (t : Table) (g : ℕ) (key : Key) (h : Held) → IsTable t → IsSound t → column t key g ≡ Some h
    → (q : Key) → eq_by_cmp key_cmp q key ≡ false → (fs : ℕ) → is_live t fs ≡ true → NeededAt (moved t g key) q fs
needed_other t g key h lawful sound at q other fs live absent =
    let same = moved_other t g key h lawful at q other in
    subst (λ (c : ℕ → Option Held). Says t (first_holder c (newer t fs))) (sym same) (sound.absents fs q live (sym (ap (λ (c : ℕ → Option Held). c fs) same) ∙ absent))

-- and so is one of a newer checkpoint
needed_newer : (t : Table) (g : ℕ) (key : Key) (h : Held) → IsTable t → IsSound t → IsOldest t g → column t key g ≡ Some h
    → (fs : ℕ) → g < fs → is_live t fs ≡ true → NeededAt (moved t g key) key fs
needed_newer t g key h lawful sound oldest at fs more live absent =
    let d = column (moved t g key) key in
    let agrees : (x : ℕ) → x ≢ g → ((n : ℕ) → n < g → x ≢ n) → d x ≡ column t key x = λ x apart others. moved_elsewhere t g key h lawful at x apart (λ n next. others n next.lower) key in
    let above = oldest.above in
    let higher : (x : ℕ) → g < x → d x ≡ column t key x = λ x gx. agrees x (λ e. absurd (omega (arith, e, gx))) (λ n lower e. absurd (omega (arith, e, gx, lower))) in
    let primary : d 0 ≡ column t key 0 = moved_elsewhere t g key h lawful at 0 (λ e. absurd (omega (arith, e, above))) (λ n next e. let positive = next.above in absurd (omega (arith, e, positive))) key in
    subst (Says t) (sym (same_holder (column t key) d (newer t fs) primary (each_above (λ x. d x ≡ column t key x) fs (map.keys t.filesets) (λ x lower. higher x (omega (arith, lower, more))))))
    (sound.absents fs key live (sym (higher fs more) ∙ absent))

pub sound_without : (t : Table) (g : ℕ) (key : Key) (h : Held) → IsTable t → IsSound t → IsOldest t g → column t key g ≡ Some h → IsSound (without t g (Some key))
sound_without t g key h lawful sound oldest at =
    let u = moved t g key in
    let ids = older t g in
    let positive : IdsPositive t = λ id stands. positive_id t id lawful stands in
    record {
      orderly = each_orderly u key ids (orderly_moved t g key h lawful sound.orderly at);
      absents = λ fs q live. elim (same_or_other q key) [
        | inr other ↦ each_needed u key ids positive (older_live t g) q fs (needed_other t g key h lawful sound at q other fs live)
        | inl same ↦
            subst (λ k. NeededAt (without t g (Some key)) k fs) (sym same) (
            elim (live_place t g fs oldest live) [
              | inl lower ↦
                  let least = positive_id t fs lawful (live_stands t fs live) in
                  older_has t g (NeededAt (without t g (Some key)) key) fs (omega arith) lower live (each_here u key ids positive (older_live t g))
              | inr more ↦ each_needed u key ids positive (older_live t g) key fs (needed_newer t g key h lawful sound oldest at fs more live)
            ])
      ];
    }
