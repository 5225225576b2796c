-- Nobody sees a step of a removal who reads the primary or a checkpoint that isn't gone.
use Rattle.std.proofs.Common.{◌≡◌, ℕ, ◌+◌, true, false, cond, ◌&&◌, not, ◌⊎◌, inl, inr, List, [], ◌∷◌, Option, Some, None, nat_eq, nat_le, refl, sym, ap, ◌∙◌, arith}
use Rattle.std.specs.Option.{option_map_or}
use Rattle.std.specs.FinMap as map
use Rattle.std.proofs.lemmas.Bool.{eqb-true, false_from_ne_true, true≢false}
use Rattle.ck_model.specs.declared.key.Key.{Key}
use Rattle.ck_model.specs.declared.held.Held.{Held}
use Rattle.ck_model.specs.declared.held.Held.TheVariants.{Absent, Plain, Extent, Mark}
use Rattle.ck_model.specs.declared.checkpoint.Fileset.{Fileset}
use Rattle.ck_model.specs.World.{keeps_files}
use Rattle.ck_model.specs.Table.{Table, IsTable, column, record_count, with_entry, with_fileset}
use Rattle.ck_model.specs.Chain.{is_gone, is_live_data, keeps_data, seen}
use Rattle.ck_model.proofs.CaseLaws.{not_second}
use Rattle.ck_chain.specs.Kept.{pushed}
use Rattle.ck_chain.proofs.ReadLaws.{live_stands}
use Rattle.ck_chain.proofs.OrderlyLaws.{positive_id, still_stood, written_or_before}
use Rattle.ck_chain.proofs.TidyLaws.{tidied_extents}
use Rattle.ck_table.proofs.IdLaws.{get-recorded, get-recorded_other}
use Rattle.ck_table.proofs.WithoutLaws.{keeps-without}
use Rattle.ck_remove.specs.Removal.{moved, older, tidied_each, without}
use Rattle.ck_remove.specs.Unseen.{IsUnseen}
use Rattle.ck_remove.proofs.OldestLemmas.{IsOldest}
use Rattle.ck_remove.proofs.OlderLemmas.{older_live, taken_cases}
use Rattle.ck_remove.proofs.EachLemmas.{IdsPositive, each_named, each_primary, each_seen, each_shrinks}
use Rattle.ck_remove.proofs.MoveLemmas.{after, moved_elsewhere, moved_seen, moved_shrinks}
use Rattle.ck_remove.proofs.FreedLemmas.{moved_named}
use Rattle.ck_remove.proofs.ExtentLemmas.{without_extent_count}

-- ---- data blocks where no data is kept

-- what is taken over there is none
no_extent : (h : Held) (stamp block : ℕ) → ◌≡◌ {A = Option Held} (Some (pushed false (Some h))) (Some (Extent stamp block)) → ⊥
no_extent Absent stamp block e = cc
no_extent (Plain s small) stamp block e = cc
no_extent (Extent s b) stamp block e = cc
no_extent (Mark s) stamp block e = cc

each_dropped : (u : Table) (key : Key) (ids : List ℕ) (fs : ℕ) (q : Key) (stamp block : ℕ) → column (tidied_each u key ids) q fs ≡ Some (Extent stamp block) → column u q fs ≡ Some (Extent stamp block)
each_dropped u key [] fs q stamp block at = at
each_dropped u key (f ∷ ids) fs q stamp block at = each_dropped u key ids fs q stamp block ((tidied_extents (tidied_each u key ids) f key fs q stamp block).0 at)

moved_dropped : (t : Table) (g : ℕ) (key : Key) (h : Held) → IsTable t → column t key g ≡ Some h
    → (fs : ℕ) (q : Key) (stamp block : ℕ) → keeps_data t fs ≡ false → column (moved t g key) q fs ≡ Some (Extent stamp block) → column t q fs ≡ Some (Extent stamp block)
moved_dropped t g key h lawful at fs q stamp block drops =
    taken_cases t g key h (λ taken. column (after t g key taken) q fs ≡ Some (Extent stamp block) → column t q fs ≡ Some (Extent stamp block)) lawful at
    (λ none. still_stood t g key fs q (Extent stamp block))
    (λ n own next there. still_stood t g key fs q (Extent stamp block))
    (λ n next bare there. elim (written_or_before (with_entry t g key None) n key (Some (pushed (keeps_data t n) (Some h))) fs q (Extent stamp block) there) [
      | inl is ↦
          let keeps : keeps_data t n ≡ false = ap (keeps_data t) (sym is.0) ∙ drops in
          absurd (no_extent h stamp block (sym (ap (λ k. Some (pushed k (Some h))) keeps) ∙ is.2))
      | inr stood ↦ still_stood t g key fs q (Extent stamp block) stood
    ])

-- ---- a step

-- an entry is removed
pub unseen_without : (t : Table) (g : ℕ) (key : Key) (h : Held) → IsTable t → IsOldest t g → column t key g ≡ Some h → IsUnseen t (without t g (Some key))
unseen_without t g key h lawful oldest at =
    let u = moved t g key in
    let ids = older t g in
    let positive : IdsPositive t = λ id stands. positive_id t id lawful stands in
    let above = oldest.above in
    record {
      seen = λ fs q live.
          let least = positive_id t fs lawful (live_stands t fs live) in
          each_seen u key ids positive (older_live t g) fs q (omega arith) ∙ moved_seen t g key h lawful oldest at fs q live;
      primary = λ q.
          each_primary u key ids positive (older_live t g) q
          ∙ moved_elsewhere t g key h lawful at 0 (λ e. absurd (omega (arith, e, above))) (λ n next e. let least = next.above in absurd (omega (arith, e, least))) q;
      keeps = λ fs. refl;
      dropped = λ fs q stamp block drops there. moved_dropped t g key h lawful at fs q stamp block drops (each_dropped u key ids fs q stamp block there);
      filesets = λ fs kept. refl;
      gone = λ fs gone. inl refl;
      counters = refl;
      blocks = refl;
      limit = refl;
      records = let last = each_shrinks u key ids in let first = moved_shrinks t g key h lawful at in omega (arith, last, first);
      extents = without_extent_count t g key h lawful at;
      named = λ block named. moved_named t g key h block lawful at (each_named u key ids block named);
    }

gone_keeps_none : (t : Table) (g : ℕ) → is_gone t g ≡ true → is_live_data t g ≡ false
gone_keeps_none t g gone = elim (map.get t.filesets g) as (λ o. option_map_or (λ (f : Fileset). f.gone) o false ≡ true → option_map_or (λ (f : Fileset). not f.gone && keeps_files f.kind) o false ≡ false) [
  | None ↦ λ _. refl
  | Some f ↦ λ h. ap (λ b. not b && keeps_files f.kind) h
] gone

-- an empty checkpoint is removed
pub unseen_unlinked : (t : Table) (g : ℕ) → is_gone t g ≡ true → ((key : Key) → column t key g ≡ None) → ((fs : ℕ) (key : Key) → seen (with_fileset t g None) fs key ≡ seen t fs key)
    → record_count (with_fileset t g None) + 1 ≡ record_count t → IsUnseen t (with_fileset t g None)
unseen_unlinked t g gone empty same count = record {
  seen = λ fs key live. same fs key;
  primary = λ key. refl;
  keeps = λ fs.
      keeps-without t (with_fileset t g None) g (record { entries = refl; filesets = refl; empty = empty }) fs (not_second (nat_le g fs) (is_live_data t g) (gone_keeps_none t g gone));
  dropped = λ fs key stamp block drops at. at;
  filesets = λ fs kept. get-recorded_other t.filesets g None fs (false_from_ne_true (nat_eq fs g) (λ e. true≢false (sym gone ∙ ap (is_gone t) (sym (eqb-true fs g e)) ∙ kept)));
  gone = λ fs gone.
      elim (nat_eq fs g) as (λ b. nat_eq fs g ≡ b → (map.get (with_fileset t g None).filesets fs ≡ map.get t.filesets fs) ⊎ (map.get (with_fileset t g None).filesets fs ≡ None)) [
        | true ↦ λ e. inr (get-recorded t.filesets g None fs ∙ ap (λ b. cond b None (map.get t.filesets fs)) e)
        | false ↦ λ other. inl (get-recorded_other t.filesets g None fs other)
      ] refl;
  counters = refl;
  blocks = refl;
  limit = refl;
  records = omega (arith, count);
  extents = omega arith;
  named = λ block named. named;
}
